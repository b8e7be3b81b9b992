-- What a run leaves that reports a volume: of the input, and of the files of the volumes after it.
use Rattle.std.specs.Prelude.{◌≡◌, ◌≢◌, ◌⊎◌, ◌<◌, ◌+◌, ◌++◌, ◌∷◌, ℕ, Bool, List, [], length, drop, map, take, Option, Some, None, is_some, true, false, Result, Ok, Err, IfOk, IfErr, IfSome, OnOk}
use Rattle.std.specs.List.{AllByRecursion}
use Rattle.std.specs.Io.KnownBytes.{IsAtEnd}
use Rattle.kc_types.specs.Configuration.{Configuration}
use Rattle.kc_types.specs.Limits.{worker_limit}
use Rattle.kc_model.specs.State.{State}
use Rattle.kc_remarks.specs.declared.denials.Answered.{Answered}
use Rattle.kc_trace.specs.declared.fault.TraceFault.{TraceFault}
use Rattle.kc_trace.specs.declared.fault.TraceFault.TheVariants.{TooManyCalls}
use Rattle.kc_trace.specs.declared.expected.Expected.{Expected}
use Rattle.kc_trace.specs.Expected.{IsRefusedThere}
use Rattle.kc_texts.specs.Ends.{Seen, HasFailedRead, HasFailed}
use Rattle.kc_texts.specs.Written.{Writes, Begins}
use Rattle.kc_faults.specs.declared.fault.TextFault.{TextFault}
use Rattle.kc_faults.specs.declared.fault.TextFault.TheVariants as texts
use Rattle.kc_texts.specs.declared.order.Origin.{Origin}
use Rattle.kc_faults.specs.Origins.{BeginsIn}
use Rattle.kc_faults.specs.Outcomes.{TellsSources, TellsTexts, TellsSink}
use Rattle.kc_texts.specs.declared.order.CustodyForm.{CustodyForm}
use Rattle.kc_texts.specs.declared.order.Scope.{Scope}
use Rattle.kc_cli.specs.declared.sequence.TheConstants.{CALLS_BEFORE}
use Rattle.kc_cli.specs.Answers.{AreAllAnswered}
use Rattle.kc_cli.specs.Traced.{Traced, expected_last}
use Rattle.kc_cli.specs.Custody.{joined, AreVolumes, IsCustodyText}
use Rattle.kc_cli.specs.Engine.{IsReplayFault}
use Rattle.kc_cli.specs.Kinds.{Kind, HasSlot, TellsAccount}
use Rattle.kc_cli.specs.Lines.{IsLinesText}
use Rattle.kc_cli.specs.Volumes.{known}
use Rattle.kc_args.specs.Jobs.{Path}
use Rattle.kc_run.specs.declared.ending.Ending.{Ending}
use Rattle.kc_run.specs.declared.ending.Ending.TheVariants as endings
use Rattle.kc_run.specs.Opening.{Held, IsOfFile}
use Rattle.kc_run.specs.Endings.{Ended}
use Rattle.kc_run.specs.Ends.{Ends}

-- what sources held as they were found
abbrev pub had_by : List Seen → List (Option (List ℕ))
had_by sources = map (λ source. source.had) sources

-- what the files at these paths hold
abbrev pub held_by : Held → List Path → List (Option (List ℕ))
held_by held paths = map (λ path. held path.now) paths

-- each of these sources was read to its end
abbrev pub AreAtEnd : List Seen → Type 0
AreAtEnd sources = AllByRecursion (λ source. IsAtEnd source.has) sources

-- the last of these sources, which were read after those that held these texts, is refused; all before it hold traces of this machine, the first under a header that is expected there, and each other one under one that may come after the one before it
pub record IsVolumeRefused (config : Configuration) (expected : Expected) (before : List (Option (List ℕ))) (sources : List Seen) (fault : TraceFault) : Type 0 where
  pub traces : List Seen
  pub last : Seen
  pub split : sources ≡ traces ++ last ∷ []
  pub volumes : List Traced
  pub traced : AreVolumes config expected (before ++ had_by traces) volumes
  -- its bytes are not a trace, or one that does not come after those before it; or it was not read, since those have too many calls
  pub fault_is : (IfSome last.had (λ text. IsRefusedThere config (expected_last expected volumes) text fault) × IsAtEnd last.has) ⊎ ((fault ≡ TooManyCalls) × (CALLS_BEFORE < length (joined volumes)))

-- how reading went on from an account, over these sources, of which the first is the volume of this number; the file that could not be opened, if one could not, comes after them
pub record ReadsOn {A O : Type 0} (kind : Kind A O) (old new : A) (refused : Option (List ℕ)) (sources : List Seen) (number : ℕ) (followed : Bool) (result : Result (Option Ending) TextFault) : Type 0 where
  -- all are in the account now, and it says what may come next if more were to come
  pub told : result ≡ Ok None → (order : O) (m : State) (before : List (Option (List ℕ))) → kind.told order old m before
      → kind.of order new m (before ++ had_by sources) × (followed ≡ true → kind.told order new m (before ++ had_by sources))
  pub begun : result ≡ Ok None → (order : O) (m : State) (start : Option (List ℕ)) → kind.begun order old m start → kind.begun order new m start
  pub first : result ≡ Ok None → kind.first new ≡ kind.first old
  pub ended : result ≡ Ok None → AreAtEnd sources
  -- the last is refused
  pub refuses : (ending : Ending) → result ≡ Ok (Some ending) → (order : O) (m : State) (before : List (Option (List ℕ))) → kind.told order old m before
      → (fault : TraceFault) × (last : ℕ) × (ending ≡ endings.Refused last fault) × (last + 1 ≡ number + length sources) × IsVolumeRefused m.config (kind.first old) before sources fault
  -- reading failed
  pub read : result ≡ Err texts.Read → HasFailedRead sources ⊎ (is_some refused ≡ true)
  pub failed : HasFailed sources → result ≡ Err texts.Read
  pub unopened : is_some refused ≡ true → result ≡ Err texts.Read
  pub fault : IfErr result IsReplayFault
  pub trace : (said : TraceFault) → result ≢ Err (texts.Trace said)
  pub started : result ≡ Err texts.Start → (order : O) (m : State) (before : List (Option (List ℕ))) → kind.told order old m before → 1 < kind.workers order

-- these sources are those of the files at these paths that were opened, in order; one that could not be opened is the next
pub record AreOpened {S : Type 0} (left : S → Option (List ℕ)) (failed : S → Bool) (held : Held) (refused : Option (List ℕ)) (paths : List Path) (sources : List Seen) : Type 0 where
  pub files : AllByRecursion (λ source. IsOfFile left failed source) sources
  pub are : had_by sources ≡ held_by held (take (length sources) paths)
  pub next : IfSome refused (λ name. (path : Path) × (rest : List Path) × (drop (length sources) paths ≡ path ∷ rest) × (name ≡ path.now))

-- how reading went on over the files at these paths, of which the first is the volume of this number
pub record ReadsFiles {S A O : Type 0} (left : S → Option (List ℕ)) (failed : S → Bool) (kind : Kind A O) (old new : A) (held : Held) (refused : Option (List ℕ)) (number : ℕ) (paths : List Path) (result : Result (Option Ending) TextFault) : Type 0 where
  pub sources : List Seen
  pub opened : AreOpened left failed held refused paths sources
  pub all : result ≡ Ok None → length sources ≡ length paths
  pub reads : ReadsOn kind old new refused sources number false result

-- the account has begun in what this source held, for what is ordered: in this state, and with the header that is expected there
pub record HasStarted {A O : Type 0} (kind : Kind A O) (order : O) (account : A) (m : State) (start : Seen) : Type 0 where
  pub told : kind.told order account m []
  pub begun : kind.begun order account m start.had
  pub begins : IfSome start.had (λ text. BeginsIn (kind.origin order) text m (kind.first account))
  pub slot : IfSome (kind.slot order) (λ number. IfSome start.had (λ text. HasSlot (kind.origin order) text number))
  pub workers : ((kind.workers order ≡ 0) ⊎ (worker_limit < kind.workers order)) → ⊥
  pub ended : IsAtEnd start.has
  pub mark : start.failed ≡ false

-- what is to be reported: of the calls from where they begin, of the slot that is named, by this many workers
pub record Report : Type 1 where
  pub origin : Origin
  pub slot : Option ℕ
  pub workers : ℕ
  pub text : List ℕ → List (List ℕ) → List ℕ → Type 0

abbrev pub report_of : {A O : Type 0} → Kind A O → O → Report
report_of kind order = record { origin = kind.origin order; slot = kind.slot order; workers = kind.workers order; text = kind.text order }

-- custody, and each call with its reply
abbrev pub custody_report : Origin → CustodyForm → Scope → Report
custody_report origin form scope = record { origin = origin; slot = scope.vm; workers = 1; text = IsCustodyText origin form scope }

abbrev pub lines_report : Origin → ℕ → Report
lines_report origin workers = record { origin = origin; slot = None; workers = workers; text = IsLinesText origin }

-- what is said of it besides
abbrev pub Tells : Report → Seen → Type 0 → Ended → Type 0
Tells report start unread ended = TellsAccount report.slot report.workers report.origin start.had unread ended

-- a report of one trace over open sources ended so
pub record ReportsTrace (report : Report) (start : Seen) (ends : Ends) (ended : Ended) : Type 0 where
  pub opened : ends.refused ≡ None
  pub ending : IfOk ended (λ ending. (answered : Answered) × (ending ≡ endings.Answered answered) × AreAllAnswered report.origin start.had (known (ends.input.had ∷ [])) answered)
  pub written : OnOk ended (Writes report.text start.had (known (ends.input.had ∷ [])) ends.out.had ends.out.has)
  pub sources : TellsSources (start ∷ ends.input ∷ []) ended
  pub told : TellsTexts report.origin start ends.input ends.unread ended
  pub tells : Tells report start ends.unread ended
  pub sink : TellsSink ends.out.failed (Begins report.text start.had (known (ends.input.had ∷ [])) ends.out.had ends.out.has) ends.untouched ended

-- all volumes were read to their ends, and the text is of them; or one is refused, the last that was read, and nothing is written
abbrev pub IsVolumesEnding : Report → Seen → List Path → List Seen → Ends → Ending → Type 0
IsVolumesEnding report start after files ends (endings.Answered answered) =
    (length files ≡ length after) × AreAtEnd (start ∷ ends.input ∷ files)
    × Writes report.text start.had (known (ends.input.had ∷ held_by ends.held after)) ends.out.had ends.out.has
    × AreAllAnswered report.origin start.had (known (ends.input.had ∷ held_by ends.held after)) answered
IsVolumesEnding report start after files ends (endings.Refused number fault) =
    (m : State) × (expected : Expected) × IfSome start.had (λ text. BeginsIn report.origin text m expected)
    × (number ≡ length (ends.input ∷ files)) × IsVolumeRefused m.config expected [] (ends.input ∷ files) fault × ends.untouched
IsVolumesEnding report start after files ends ending = ⊥

-- a report of several volumes ended so: of that in the input, and of those in the files at these paths
pub record ReportsVolumes {S : Type 0} (left : S → Option (List ℕ)) (fails : S → Bool) (report : Report) (after : List Path) (start : Seen) (ends : Ends) (ended : Ended) : Type 0 where
  pub files : List Seen
  pub opened : AreOpened left fails ends.held ends.refused after files
  pub ending : IfOk ended (IsVolumesEnding report start after files ends)
  -- a failed read is one of theirs, or a file could not be opened, and each is reported as nothing else
  pub read : ended ≡ Err texts.Read → HasFailedRead (start ∷ ends.input ∷ files) ⊎ (is_some ends.refused ≡ true)
  pub failed : HasFailed (start ∷ ends.input ∷ files) → ended ≡ Err texts.Read
  pub unopened : is_some ends.refused ≡ true → ended ≡ Err texts.Read
  pub told : TellsTexts report.origin start ends.input ends.unread ended
  -- a volume that is refused is reported with its number
  pub trace : (fault : TraceFault) → ended ≢ Err (texts.Trace fault)
  pub tells : Tells report start ends.unread ended
  pub sink : TellsSink ends.out.failed (Begins report.text start.had (known (ends.input.had ∷ held_by ends.held after)) ends.out.had ends.out.has) ends.untouched ended

-- of one trace if there are no volumes after it
abbrev pub Reports : {S : Type 0} → (S → Option (List ℕ)) → (S → Bool) → Report → List Path → Seen → Ends → Ended → Type 0
Reports left failed report [] start ends ended = ReportsTrace report start ends ended
Reports left failed report after start ends ended = ReportsVolumes left failed report after start ends ended
