-- Boot images added to a measurement, one file after another.
use Rattle.std.proofs.Common.{◌≡◌, ◌≢◌, ◌<◌, ◌≤◌, ◌⊎◌, ◌+◌, ◌-◌, ◌++◌, ◌∷◌, ◌↔◌, ℕ, suc, Bool, true, false, List, [], length, map, drop, Option, Some, None, Result, Ok, Err, inl, inr, refl, ap, ap₂, sym, ◌∙◌, subst, arith, append_assoc, append-nil}
use Rattle.std.specs.Prelude.{is_some, IfSome, IsTrue}
use Rattle.std.specs.Io.KnownBytes.{Appends}
use Rattle.sha2.specs.Sha256.{sha256}
use Rattle.kc_model.specs.Launches.{Booted, launch_text}
use Rattle.kc_texts.specs.Ends.{Seen}
use Rattle.kc_texts.specs.Written.{AppendsBeginning}
use Rattle.kc_faults.specs.declared.fault.TextFault.{TextFault}
use Rattle.kc_faults.specs.declared.fault.TextFault.TheVariants as texts
use Rattle.kc_faults.specs.Outcomes.{TellsSources, TellsSink}
use Rattle.kc_cli.specs.declared.measuring.LaunchMeasure.{LaunchMeasure}
use Rattle.kc_cli.specs.Measuring.{measured_text, HasMeasured}
use Rattle.kc_cli.proofs.Sources.{sink_err}
use Rattle.kc_args.specs.declared.job.ImageFile.{ImageFile}
use Rattle.kc_args.specs.declared.job.Measuring.{Measuring}
use Rattle.kc_args.specs.Jobs.{Path}
use Rattle.kc_run.specs.declared.ending.Ending.{Ending}
use Rattle.kc_run.specs.declared.ending.Ending.TheVariants as endings
use Rattle.kc_run.specs.Opening.{Held, IsOfFile}
use Rattle.kc_run.specs.Endings.{Took}
use Rattle.kc_run.specs.Reports.{AreOpened}
use Rattle.kc_run.specs.Measures.{AreImages, HasBytes, EndsEmpty, AddsFiles, Measures}
use Rattle.kc_run.proofs.Reading.{Unopened}

-- the path of a file
abbrev pub path_of : ImageFile → Path
path_of file = file.path

nothing_more : (held : Held) (measure : LaunchMeasure) (before images : List Booted) → AreImages held [] images → HasMeasured measure before → HasMeasured measure (before ++ images)
nothing_more held measure before [] is had = subst (HasMeasured measure) (sym (append-nil before)) had
nothing_more held measure before (image ∷ images) is had = absurd is

-- one image is in the measurement, and then the others
one_then : (held : Held) (file : ImageFile) (files : List ImageFile) (old mid new : LaunchMeasure) (source : Option (List ℕ)) → source ≡ held file.path.now
    → IfSome source (λ bytes. (images : List Booted) → HasMeasured old images → HasMeasured mid (images ++ record { base = file.base; bytes = bytes } ∷ []))
    → ((before images : List Booted) → AreImages held files images → HasMeasured mid before → HasMeasured new (before ++ images))
    → (before images : List Booted) → AreImages held (file ∷ files) images → HasMeasured old before → HasMeasured new (before ++ images)
one_then held file files old mid new source same one more before [] is had = absurd is
one_then held file files old mid new source same one more before (image ∷ images) is had =
    let there : source ≡ Some image.bytes = same ∙ is.1 in
    let step = subst (λ (known : Option (List ℕ)). IfSome known (λ bytes. (images : List Booted) → HasMeasured old images → HasMeasured mid (images ++ record { base = file.base; bytes = bytes } ∷ []))) there one in
    let now : HasMeasured mid (before ++ image ∷ []) = subst (λ (base : ℕ). HasMeasured mid (before ++ record { base = base; bytes = image.bytes } ∷ [])) (sym is.0) (step before had) in
    subst (HasMeasured new) (append_assoc before (image ∷ []) images) (more (before ++ image ∷ []) images is.2 now)

has_bytes : (source : Option (List ℕ)) → IfSome source (λ bytes. IsTrue true ↔ (0 < length bytes)) → IfSome source (λ bytes. bytes ≢ [])
has_bytes None some = tt
has_bytes (Some bytes) some = λ none. let lt : 0 < length bytes = some.0 refl in let zero : length bytes ≡ 0 = ap length none in omega (arith, lt, zero)

has_none : (source : Option (List ℕ)) → IfSome source (λ bytes. IsTrue false ↔ (0 < length bytes)) → IfSome source (λ bytes. bytes ≡ [])
has_none None some = tt
has_none (Some []) some = refl
has_none (Some (byte ∷ bytes)) some = let never : IsTrue false = some.1 (omega arith) in absurd cc

ends_after : (source : Seen) (sources : List Seen) → HasBytes source → EndsEmpty sources → EndsEmpty (source ∷ sources)
ends_after source [] has ends = absurd ends
ends_after source (next ∷ sources) has ends = (has, ends)

module _ {S : Type 0} (left : S → Option (List ℕ)) (failed : S → Bool) (held : Held) where
  -- no file is left
  pub none_left : (refused : Option (List ℕ)) (all : ℕ) (measure : LaunchMeasure) → refused ≡ None → AddsFiles left failed held refused all measure measure [] (Ok None)
  none_left refused all measure none = record {
    sources = [];
    opened = record { files = tt; are = refl; next = subst (λ (name : Option (List ℕ)). IfSome name (λ given. (path : Path) × (rest : List Path) × (drop 0 [] ≡ path ∷ rest) × (given ≡ path.now))) (sym none) tt };
    measured = λ e. (refl, (tt, tt), nothing_more held measure);
    empty = λ ending e. absurd cc;
    told = record { read = λ e. absurd cc; failed = λ bad. absurd bad; unopened = λ some. (let never = subst (λ (r : Option (List ℕ)). is_some r ≡ true) none some in absurd cc) };
    fault = tt;
  }

  -- the first file was not opened
  pub not_opened : (refused : Option (List ℕ)) (all : ℕ) (old : LaunchMeasure) (file : ImageFile) (files : List ImageFile) (fault : TextFault) → Unopened file.path.now refused fault → AddsFiles left failed held refused all old old (file ∷ files) (Err fault)
  not_opened refused all old file files fault (inl is) =
      let same = is.0 in
      let none = is.1 in
      record {
        sources = [];
        opened = record { files = tt; are = refl; next = subst (λ (name : Option (List ℕ)). IfSome name (λ given. (path : Path) × (rest : List Path) × (drop 0 (map path_of (file ∷ files)) ≡ path ∷ rest) × (given ≡ path.now))) (sym none) tt };
        measured = λ e. absurd cc;
        empty = λ ending e. absurd cc;
        told = record { read = λ e. absurd cc; failed = λ bad. absurd bad; unopened = λ some. (let never = subst (λ (r : Option (List ℕ)). is_some r ≡ true) none some in absurd cc) };
        fault = inl same;
      }
  not_opened refused all old file files fault (inr is) =
      let same = is.0 in
      let some = is.1 in
      record {
        sources = [];
        opened = record { files = tt; are = refl; next = subst (λ (name : Option (List ℕ)). IfSome name (λ given. (path : Path) × (rest : List Path) × (drop 0 (map path_of (file ∷ files)) ≡ path ∷ rest) × (given ≡ path.now))) (sym some) (file.path, map path_of files, refl, refl) };
        measured = λ e. absurd cc;
        empty = λ ending e. absurd cc;
        told = record { read = λ e. inr (subst (λ (r : Option (List ℕ)). is_some r ≡ true) (sym some) refl); failed = λ bad. absurd bad; unopened = λ none. ap Err same };
        fault = inr same;
      }

  -- one file more was opened, before these
  opened_before : (refused : Option (List ℕ)) (path : Path) (paths : List Path) (source : Seen) (sources : List Seen) → IsOfFile left failed source → source.had ≡ held path.now → AreOpened left failed held refused paths sources → AreOpened left failed held refused (path ∷ paths) (source ∷ sources)
  opened_before refused path paths source sources file same opened = record {
    files = (file, opened.files);
    are = ap₂ (λ (one : Option (List ℕ)) (more : List (Option (List ℕ))). one ∷ more) same opened.are;
    next = opened.next;
  }

  only_opened : (refused : Option (List ℕ)) (path : Path) (paths : List Path) (source : Seen) → refused ≡ None → IsOfFile left failed source → source.had ≡ held path.now → AreOpened left failed held refused (path ∷ paths) (source ∷ [])
  only_opened refused path paths source none file same = opened_before refused path paths source [] file same (record { files = tt; are = refl; next = subst (λ (name : Option (List ℕ)). IfSome name (λ given. (path : Path) × (rest : List Path) × (drop 0 paths ≡ path ∷ rest) × (given ≡ path.now))) (sym none) tt })

  -- reading the first file fails
  pub not_read : (refused : Option (List ℕ)) (all : ℕ) (old new : LaunchMeasure) (file : ImageFile) (files : List ImageFile) (source : Seen) (fault : TextFault) → refused ≡ None → IsOfFile left failed source → source.had ≡ held file.path.now → TellsSources {A = Bool} (source ∷ []) (Err fault) → (fault ≡ texts.Memory) ⊎ (fault ≡ texts.Read)
      → AddsFiles left failed held refused all old new (file ∷ files) (Err fault)
  not_read refused all old new file files source fault none of_file same told which = record {
    sources = source ∷ [];
    opened = only_opened refused file.path (map path_of files) source none of_file same;
    measured = λ e. absurd cc;
    empty = λ ending e. absurd cc;
    told = record {
      read = λ e. inl (told.read (let bad : fault ≡ texts.Read = cc in cc));
      failed = λ bad. (let e = told.failed bad in let is : fault ≡ texts.Read = cc in cc);
      unopened = λ some. (let never = subst (λ (r : Option (List ℕ)). is_some r ≡ true) none some in absurd cc);
    };
    fault = which;
  }

  -- the first file is empty
  pub is_empty : (refused : Option (List ℕ)) (all : ℕ) (old new : LaunchMeasure) (file : ImageFile) (files : List ImageFile) (source : Seen) (number : ℕ) → refused ≡ None → length (file ∷ files) ≤ all → number ≡ all - length files → IsOfFile left failed source → source.had ≡ held file.path.now → TellsSources (source ∷ []) (Ok false)
      → IfSome source.had (λ bytes. IsTrue false ↔ (0 < length bytes)) → AddsFiles left failed held refused all old new (file ∷ files) (Ok (Some (endings.EmptyImage number)))
  is_empty refused all old new file files source number none within at of_file same told some = record {
    sources = source ∷ [];
    opened = only_opened refused file.path (map path_of files) source none of_file same;
    measured = λ e. absurd cc;
    empty = λ ending e. (number, (let is : ending ≡ endings.EmptyImage number = cc in is), omega (arith, within, at), has_none source.had some);
    told = record {
      read = λ e. absurd cc;
      failed = λ bad. (let e = told.failed bad in absurd cc);
      unopened = λ is. (let never = subst (λ (r : Option (List ℕ)). is_some r ≡ true) none is in absurd cc);
    };
    fault = tt;
  }

  -- the first file was added, and then the others
  pub one_added : (refused : Option (List ℕ)) (all : ℕ) (old mid new : LaunchMeasure) (file : ImageFile) (files : List ImageFile) (source : Seen) (r : Result (Option Ending) TextFault) → IsOfFile left failed source → source.had ≡ held file.path.now → TellsSources (source ∷ []) (Ok true)
      → IfSome source.had (λ bytes. IsTrue true ↔ (0 < length bytes)) → IfSome source.had (λ bytes. (images : List Booted) → HasMeasured old images → HasMeasured mid (images ++ record { base = file.base; bytes = bytes } ∷ []))
      → AddsFiles left failed held refused all mid new files r → AddsFiles left failed held refused all old new (file ∷ files) r
  one_added refused all old mid new file files source r of_file same told some one more = record {
    sources = source ∷ more.sources;
    opened = opened_before refused file.path (map path_of files) source more.sources of_file same more.opened;
    measured = λ e.
        (let so = more.measured e in
        let long = so.0 in (
          ap suc long,
          ((has_bytes source.had some, so.1.0), (told.ended.0, so.1.1)),
          one_then held file files old mid new source.had same one so.2,
        ));
    empty = λ ending e. (let so = more.empty ending e in let at = so.2 in (so.0, so.1, omega (arith, at), ends_after source more.sources (has_bytes source.had some) so.3));
    told = record {
      read = λ e. elim (more.told.read e) [
        | inl bad ↦ inl (inr bad)
        | inr none ↦ inr none
      ];
      failed = λ bad. elim bad [
        | inl first ↦ (let e = told.failed (inl first) in absurd cc)
        | inr others ↦ more.told.failed others
      ];
      unopened = more.told.unopened;
    };
    fault = more.fault;
  }

  -- all were added, and the measurement was given
  pub all_given : {A : Type 0} (refused : Option (List ℕ)) (measuring : Measuring) (all : ℕ) (old new : LaunchMeasure) (out : Took) (untouched : Type 0) (x : A) → HasMeasured old [] → AddsFiles left failed held refused all old new measuring.images.items (Ok None)
      → ((images : List Booted) → HasMeasured new images → Appends out.had out.has (measured_text measuring.json (sha256 (launch_text images))))
      → TellsSink out.failed ((images : List Booted) → HasMeasured new images → AppendsBeginning out.had out.has (measured_text measuring.json (sha256 (launch_text images)))) untouched (Ok x)
      → Measures left failed held refused measuring out untouched (Ok endings.Done)
  all_given refused measuring all old new out untouched x none so given sink =
      let (long, read, gives) = so.measured refl in
      record {
        sources = so.sources;
        opened = so.opened;
        ending = (long, read, λ images is. given images (gives [] images is none));
        told = record { read = λ e. absurd cc; failed = λ bad. (let e = so.told.failed bad in absurd cc); unopened = λ some. (let e = so.told.unopened some in absurd cc) };
        sink = record { write = λ e. absurd cc; failed_is = λ bad. (let e = sink.failed_is bad in absurd cc); kept = tt };
        fault = tt;
      }

  -- all were added, and giving it failed
  pub not_given : {A : Type 0} (refused : Option (List ℕ)) (measuring : Measuring) (all : ℕ) (old new : LaunchMeasure) (out : Took) (untouched : Type 0) (fault : TextFault) → HasMeasured old [] → AddsFiles left failed held refused all old new measuring.images.items (Ok None)
      → TellsSink {A = A} out.failed ((images : List Booted) → HasMeasured new images → AppendsBeginning out.had out.has (measured_text measuring.json (sha256 (launch_text images)))) untouched (Err fault)
      → (fault ≡ texts.Memory) ⊎ (fault ≡ texts.Write) → Measures left failed held refused measuring out untouched (Err fault)
  not_given refused measuring all old new out untouched fault none so sink which =
      let (long, read, gives) = so.measured refl in
      record {
        sources = so.sources;
        opened = so.opened;
        ending = tt;
        told = record {
          read = λ e. (let bad : fault ≡ texts.Read = cc in absurd (elim which [
            | inl is ↦ cc
            | inr is ↦ cc
          ]));
          failed = λ bad. (let e = so.told.failed bad in absurd cc);
          unopened = λ some. (let e = so.told.unopened some in absurd cc);
        };
        sink = sink_err out.failed _ _ untouched fault (λ begun images is. begun images (gives [] images is none)) sink;
        fault = elim which [
          | inl is ↦ inl is
          | inr is ↦ inr (inr is)
        ];
      }
