-- What a run leaves that measures boot images: the launch measurement of those in the files that are named.
use Rattle.std.specs.Prelude.{◌≡◌, ◌≢◌, ◌⊎◌, ◌+◌, ◌++◌, ◌∷◌, ℕ, Bool, true, List, [], length, map, Option, Some, None, is_some, Result, Ok, Err, IfOk, IfErr, IfSome}
use Rattle.std.specs.List.{AllByRecursion}
use Rattle.std.specs.Io.KnownBytes.{Appends}
use Rattle.sha2.specs.Sha256.{sha256}
use Rattle.kc_model.specs.Launches.{Booted, launch_text}
use Rattle.kc_texts.specs.Ends.{Seen, HasFailedRead, HasFailed}
use Rattle.kc_texts.specs.Written.{AppendsBeginning}
use Rattle.kc_faults.specs.declared.fault.TextFault.{TextFault}
use Rattle.kc_faults.specs.declared.fault.TextFault.TheVariants as texts
use Rattle.kc_faults.specs.Outcomes.{TellsSink}
use Rattle.kc_cli.specs.declared.measuring.LaunchMeasure.{LaunchMeasure}
use Rattle.kc_cli.specs.Measuring.{measured_text, HasMeasured}
use Rattle.kc_args.specs.declared.job.ImageFile.{ImageFile}
use Rattle.kc_args.specs.declared.job.Measuring.{Measuring}
use Rattle.kc_run.specs.declared.ending.Ending.{Ending}
use Rattle.kc_run.specs.declared.ending.Ending.TheVariants as endings
use Rattle.kc_run.specs.Opening.{Held}
use Rattle.kc_run.specs.Endings.{Ended, Took, status_after, fault_in, IsReported}
use Rattle.kc_run.specs.Reports.{AreOpened, AreAtEnd}

-- these are the images in the files, each with its first guest frame and the bytes that its file holds
abbrev pub AreImages : Held → List ImageFile → List Booted → Type 0
AreImages held [] [] = Unit {0}
AreImages held (file ∷ files) (image ∷ images) = (image.base ≡ file.base) × (held file.path.now ≡ Some image.bytes) × AreImages held files images
AreImages held files images = ⊥

-- this source held a byte, or none, if it reports them
abbrev pub HasBytes : Seen → Type 0
HasBytes source = IfSome source.had (λ bytes. bytes ≢ [])

abbrev pub IsEmpty : Seen → Type 0
IsEmpty source = IfSome source.had (λ bytes. bytes ≡ [])

-- the last of these sources is empty, and no other
abbrev pub EndsEmpty : List Seen → Type 0
EndsEmpty [] = ⊥
EndsEmpty (source ∷ []) = IsEmpty source
EndsEmpty (source ∷ sources) = HasBytes source × EndsEmpty sources

-- each of these sources held a byte, and was read to its end
abbrev pub AreRead : List Seen → Type 0
AreRead sources = AllByRecursion HasBytes sources × AreAtEnd sources

-- how reading these sources failed, if it did, or opening the file after them
pub record TellsFiles {A : Type 0} (sources : List Seen) (refused : Option (List ℕ)) (result : Result A TextFault) : Type 0 where
  pub read : result ≡ Err texts.Read → HasFailedRead sources ⊎ (is_some refused ≡ true)
  pub failed : HasFailed sources → result ≡ Err texts.Read
  pub unopened : is_some refused ≡ true → result ≡ Err texts.Read

-- how the images in these files, the last of so many, were added to a measurement
pub record AddsFiles {S : Type 0} (left : S → Option (List ℕ)) (failed : S → Bool) (held : Held) (refused : Option (List ℕ)) (all : ℕ) (old new : LaunchMeasure) (files : List ImageFile) (result : Result (Option Ending) TextFault) : Type 0 where
  pub sources : List Seen
  pub opened : AreOpened left failed held refused (map (λ file. file.path) files) sources
  -- all are in it now
  pub measured : result ≡ Ok None → (length sources ≡ length files) × AreRead sources
      × ((before images : List Booted) → AreImages held files images → HasMeasured old before → HasMeasured new (before ++ images))
  -- one is empty
  pub empty : (ending : Ending) → result ≡ Ok (Some ending) → (number : ℕ) × (ending ≡ endings.EmptyImage number) × (number + length files ≡ all + length sources) × EndsEmpty sources
  pub told : TellsFiles sources refused result
  pub fault : IfErr result (λ fault. (fault ≡ texts.Memory) ⊎ (fault ≡ texts.Read))

-- what is written of the images
abbrev pub WritesMeasure : Held → Measuring → (List ℕ → Type 0) → Type 0
WritesMeasure held measuring Taken = (images : List Booted) → AreImages held measuring.images.items images → Taken (measured_text measuring.json (sha256 (launch_text images)))

-- all images were read, and the sink took their measurement; or one is empty, the last that was read, and nothing is written
abbrev pub IsMeasureEnding : Held → Measuring → List Seen → Took → Type 0 → Ending → Type 0
IsMeasureEnding held measuring sources out untouched endings.Done = (length sources ≡ length measuring.images.items) × AreRead sources × WritesMeasure held measuring (Appends out.had out.has)
IsMeasureEnding held measuring sources out untouched (endings.EmptyImage number) = (number ≡ length sources) × EndsEmpty sources × untouched
IsMeasureEnding held measuring sources out untouched ending = ⊥

-- measuring ended so
pub record Measures {S : Type 0} (left : S → Option (List ℕ)) (failed : S → Bool) (held : Held) (refused : Option (List ℕ)) (measuring : Measuring) (out : Took) (untouched : Type 0) (ended : Ended) : Type 0 where
  pub sources : List Seen
  pub opened : AreOpened left failed held refused (map (λ file. file.path) measuring.images.items) sources
  pub ending : IfOk ended (IsMeasureEnding held measuring sources out untouched)
  pub told : TellsFiles sources refused ended
  pub sink : TellsSink out.failed (WritesMeasure held measuring (AppendsBeginning out.had out.has)) untouched ended
  pub fault : IfErr ended (λ fault. (fault ≡ texts.Memory) ⊎ ((fault ≡ texts.Read) ⊎ (fault ≡ texts.Write)))

-- what a run leaves that measures images, with the exit status and the fault, which it returns
pub record IsMeasureRun {S : Type 0} (left : S → Option (List ℕ)) (failed : S → Bool) (held : Held) (refused : Option (List ℕ)) (measuring : Measuring) (out : Took) (untouched : Type 0) (err : Took) (silent : Type 0) (status : ℕ) (fault : Option TextFault) : Type 0 where
  pub ended : Ended
  pub ending : Measures left failed held refused measuring out untouched ended
  pub status_is : status ≡ status_after ended
  pub fault_is : fault ≡ fault_in ended
  pub reported : IsReported ended err silent
