-- What a run of the program leaves of its files, of standard input and of its sinks, and its exit status.
use Rattle.std.specs.Prelude.{◌≡◌, ◌≢◌, ◌⊎◌, ◌<◌, ◌↔◌, ℕ, Bool, true, false, List, [], ◌∷◌, Option, Some, None, Err, IfOk, IfErr, IfSome, OnOk, IsErrOf}
use Rattle.std.specs.Io.KnownBytes.{Keeps, IsAtEnd}
use Rattle.kc_types.specs.Limits.{worker_limit}
use Rattle.kc_args.specs.declared.job.Job.{Job}
use Rattle.kc_remarks.specs.declared.denials.Answered.{Answered}
use Rattle.kc_config_text.specs.declared.config_text.ConfigTextFault.{ConfigTextFault}
use Rattle.kc_config_text.specs.ConfigText.{config_in}
use Rattle.kc_dump_text.specs.declared.fault.DumpFault.{DumpFault}
use Rattle.kc_dump_text.specs.Refused.{IsRefusedDump}
use Rattle.kc_trace.specs.declared.fault.TraceFault.{TraceFault}
use Rattle.kc_trace.specs.declared.fault.TraceFault.TheVariants.{Misplaced}
use Rattle.kc_trace.specs.declared.expected.HeaderFault.TheVariants.{Missing}
use Rattle.kc_trace.specs.Trace.{IsRefused}
use Rattle.kc_texts.specs.Headed.{IsHeadOf}
use Rattle.kc_texts.specs.declared.order.Origin.{Origin}
use Rattle.kc_texts.specs.declared.order.Origin.TheVariants as origins
use Rattle.kc_faults.specs.declared.fault.TextFault.{TextFault}
use Rattle.kc_faults.specs.declared.fault.TextFault.TheVariants as texts
use Rattle.kc_cli.specs.Audit.{Audits, BeginsAudit, IsDumpFault}
use Rattle.kc_texts.specs.Ends.{Seen, HasFailedRead, HasFailed, seen}
use Rattle.kc_faults.specs.Outcomes.{TellsSources, TellsTexts, TellsReplay, TellsSink}
use Rattle.kc_texts.specs.Written.{Writes, Begins}
use Rattle.kc_redact_text.specs.Redacts.{Redacts, BeginsRedaction, IsRedactFault, IsHostRedacted, IsHostRedactFault}
use Rattle.kc_redact_text.specs.declared.convert.Converted.{Converted}
use Rattle.kc_redact_text.specs.Converts.{IsFirstVolume, IsNextVolume, IsRefusedBare, IsConversion, IsSystemFault, IsConvertFault}
use Rattle.kc_texts.specs.declared.order.ReplayForm.{ReplayForm}
use Rattle.kc_cli.specs.Engine.{IsReplayText, DiffersFromLeft, wants_text}
use Rattle.kc_cli.specs.Answers.{AreAnswered}
use Rattle.kc_cli.specs.Live.{IsLiveText, CouldRun, HasBadActor}
use Rattle.kc_args.specs.declared.job.Action.{Action}
use Rattle.kc_args.specs.declared.job.Action.TheVariants as actions
use Rattle.kc_args.specs.Jobs.{Path, path_of, origin_at}
use Rattle.kc_run.specs.declared.ending.Ending.{Ending}
use Rattle.kc_run.specs.declared.ending.Ending.TheVariants as endings
use Rattle.kc_run.specs.Opening.{IsHeaderOf, IsUnnamed, HoldsStart, IsUnseenFault, IsOfFile, IsOpenFault}
use Rattle.kc_run.specs.Ends.{Ends, ends_of}
use Rattle.kc_run.specs.Reports.{custody_report, lines_report, Reports}
use Rattle.kc_run.specs.Endings.{Ended, Took, ending_converted, status_after, fault_in, answered_in, difference_in, volume_in, IsReported}

-- a file is not open, and so nothing was read of standard input, and nothing written
pub record IsUnopened (path : Path) (ends : Ends) (ended : Ended) : Type 0 where
  pub fault : TextFault
  pub ended_is : ended ≡ Err fault
  pub opening : IsOpenFault path ends.refused fault
  pub unread : ends.unread
  pub untouched : ends.untouched

-- the ending counts the trace's calls, and those that were refused or rejected
abbrev pub IsAnswered : Origin → Option (List ℕ) → Option (List ℕ) → Ending → Type 0
IsAnswered origin start trace (endings.Answered answered) = AreAnswered origin start trace answered
IsAnswered origin start trace (endings.Another answered line) = AreAnswered origin start trace answered
IsAnswered origin start trace ending = ⊥

-- the file at this path cannot be opened, or it is open and what runs reads it
abbrev pub OverFile : {S : Type 0} → (S → Option (List ℕ)) → (S → Bool) → Path → (Seen → Ends → Ended → Type 0) → Ends → Ended → Type 0
OverFile left failed path Runs ends ended = IsUnopened path ends ended ⊎ ((source : Seen) × IsOfFile left failed source × (source.had ≡ ends.held path.now) × Runs source ends ended)

-- whether the state left is that of a third text, if there is one; if it is not, the first line of that text that differs
abbrev pub IsCompared : Origin → Bool → Option (List ℕ) → Option (List ℕ) → Option Seen → Ending → Type 0
IsCompared origin blank start trace (Some to) (endings.Answered answered) = DiffersFromLeft origin blank start trace to.had None
IsCompared origin blank start trace (Some to) (endings.Another answered line) = DiffersFromLeft origin blank start trace to.had (Some line)
IsCompared origin blank start trace None (endings.Answered answered) = Unit {0}
IsCompared origin blank start trace to ending = ⊥

abbrev pub those_of : Option Seen → List Seen
those_of None = []
those_of (Some source) = source ∷ []

-- whether the text of a dump or of a state is made: it is written, or that of a state is compared with a third text
abbrev pub makes_text : ReplayForm → Option Seen → Bool
makes_text form None = wants_text form
makes_text form (Some to) = true

-- a replay over open sources ended so
pub record Replays (origin : Origin) (form : ReplayForm) (blank : Bool) (workers : ℕ) (start : Seen) (to : Option Seen) (ends : Ends) (ended : Ended) : Type 0 where
  pub opened : ends.refused ≡ None
  pub written : OnOk ended (Writes (IsReplayText origin form blank) start.had ends.input.had ends.out.had ends.out.has)
  pub answered : IfOk ended (IsAnswered origin start.had ends.input.had)
  pub compared : IfOk ended (IsCompared origin blank start.had ends.input.had to)
  pub sources : TellsSources (start ∷ ends.input ∷ those_of to) ended
  pub told : TellsTexts origin start ends.input ends.unread ended
  pub replay : TellsReplay (makes_text form to) workers origin start.had ends.unread ended
  pub sink : TellsSink ends.out.failed (Begins (IsReplayText origin form blank) start.had ends.input.had ends.out.had ends.out.has) ends.untouched ended

-- a replay from an open start, which compares the state left with what this file holds, if one is named
abbrev pub ReplaysTo : {S : Type 0} → (S → Option (List ℕ)) → (S → Bool) → Origin → ReplayForm → Bool → ℕ → Option Path → Seen → Ends → Ended → Type 0
ReplaysTo left failed origin form blank workers None start ends ended = Replays origin form blank workers start None ends ended
ReplaysTo left failed origin form blank workers (Some path) start ends ended = OverFile left failed path (λ to. Replays origin form blank workers start (Some to)) ends ended

-- a live run over open sources ended so
pub record RunsLive (workers : ℕ) (config : Seen) (ends : Ends) (ended : Ended) : Type 0 where
  pub opened : ends.refused ≡ None
  pub written : OnOk ended (Writes IsLiveText config.had ends.input.had ends.out.had ends.out.has)
  pub done : IfOk ended (λ ending. ending ≡ endings.Done)
  pub sources : TellsSources (config ∷ ends.input ∷ []) ended
  pub told : TellsTexts origins.Boot config ends.input ends.unread ended
  pub sink : TellsSink ends.out.failed (Begins IsLiveText config.had ends.input.had ends.out.had ends.out.has) ends.untouched ended
  pub judged : IsErrOf ended texts.Workers ↔ ((workers ≡ 0) ⊎ (worker_limit < workers))
  pub actor : (program : ℕ) → ended ≡ Err (texts.BadActor program) → HasBadActor config.had ends.input.had program
  pub slot : (number : ℕ) → ended ≢ Err (texts.NoSlot number)
  pub text : ended ≢ Err texts.NoText
  pub started : ended ≡ Err texts.Start → CouldRun config.had ends.input.had
  pub unsettled : ended ≡ Err texts.Unsettled → CouldRun config.had ends.input.had

-- whether the dump is sound
abbrev pub IsAudited : Bool → Ends → Ending → Type 0
IsAudited all ends endings.Done = Audits all ends.input.had true ends.out.had ends.out.has
IsAudited all ends endings.Unsound = Audits all ends.input.had false ends.out.had ends.out.has
IsAudited all ends ending = ⊥

-- an audit ended so
pub record AuditsDump (all : Bool) (ends : Ends) (ended : Ended) : Type 0 where
  pub opened : ends.refused ≡ None
  pub audited : IfOk ended (IsAudited all ends)
  pub sources : TellsSources (ends.input ∷ []) ended
  pub sink : TellsSink ends.out.failed (BeginsAudit all ends.input.had ends.out.had ends.out.has) ends.untouched ended
  pub dump : (fault : DumpFault) → ended ≡ Err (texts.Dump fault) → IfSome ends.input.had (λ text. IsRefusedDump text fault) × IsAtEnd ends.input.has
  pub fault : IfErr ended (λ fault. IsDumpFault fault ⊎ ((fault ≡ texts.Read) ⊎ (fault ≡ texts.Write)))

-- a redaction ended so
pub record RedactsTrace (ends : Ends) (ended : Ended) : Type 0 where
  pub opened : ends.refused ≡ None
  pub written : OnOk ended (Redacts ends.input.had ends.out.had ends.out.has)
  pub done : IfOk ended (λ ending. ending ≡ endings.Done)
  pub sources : TellsSources (ends.input ∷ []) ended
  pub sink : TellsSink ends.out.failed (BeginsRedaction ends.input.had ends.out.had ends.out.has) ends.untouched ended
  pub trace : (fault : TraceFault) → ended ≡ Err (texts.Trace fault) → IfSome ends.input.had (λ text. IsRefused text fault) × IsAtEnd ends.input.has
  pub fault : IfErr ended IsRedactFault

-- a redaction of the host's writes too, over open sources, ended so
pub record RedactsHost (origin : Origin) (start : Seen) (ends : Ends) (ended : Ended) : Type 0 where
  pub opened : ends.refused ≡ None
  pub written : OnOk ended (Writes (IsHostRedacted origin) start.had ends.input.had ends.out.had ends.out.has)
  pub answered : IfOk ended (λ ending. (answered : Answered) × (ending ≡ endings.Answered answered) × AreAnswered origin start.had ends.input.had answered)
  pub sources : TellsSources (start ∷ ends.input ∷ []) ended
  pub told : TellsTexts origin start ends.input ends.unread ended
  pub sink : TellsSink ends.out.failed (Begins (IsHostRedacted origin) start.had ends.input.had ends.out.had ends.out.has) ends.untouched ended
  pub fault : IfErr ended IsHostRedactFault

-- a conversion of a first volume, over an open file of its machine, ended so
pub record ConvertsFirst (machine : Seen) (ends : Ends) (ended : Ended) : Type 0 where
  pub opened : ends.refused ≡ None
  pub written : OnOk ended (Writes IsFirstVolume machine.had ends.input.had ends.out.had ends.out.has)
  pub done : IfOk ended (λ ending. ending ≡ endings.Done)
  pub sources : TellsSources (machine ∷ ends.input ∷ []) ended
  pub sink : TellsSink ends.out.failed (Begins IsFirstVolume machine.had ends.input.had ends.out.had ends.out.has) ends.untouched ended
  pub config : (fault : ConfigTextFault) → ended ≡ Err (texts.Config fault) → IfSome machine.had (λ text. config_in text ≡ Err fault) × IsAtEnd machine.has × ends.unread
  pub trace : (fault : TraceFault) → ended ≡ Err (texts.Trace fault) → IfSome ends.input.had (λ text. IsRefusedBare text fault) × IsAtEnd ends.input.has
  pub fault : IfErr ended IsConvertFault

-- a conversion of a later volume, over an open file of the one before it, ended so
pub record ConvertsAfter (before : Seen) (ends : Ends) (ended : Ended) : Type 0 where
  pub opened : ends.refused ≡ None
  -- one of the two is refused, with its number, or the trace is written
  pub ending : IfOk ended
      (λ ending. (converted : Converted) × (ending ≡ ending_converted converted) × IsConversion before ends.input ends.out.had ends.out.has ends.unread ends.untouched converted)
  pub read : ended ≡ Err texts.Read → HasFailedRead (before ∷ ends.input ∷ [])
  pub failed : HasFailed (before ∷ ends.input ∷ []) → ended ≡ Err texts.Read
  pub sink : TellsSink ends.out.failed (Begins IsNextVolume before.had ends.input.had ends.out.had ends.out.has) ends.untouched ended
  pub fault : IfErr ended IsSystemFault

-- it could not be seen whether the trace has a head, and so nothing was written
pub record IsUnseen (ends : Ends) (ended : Ended) : Type 0 where
  pub fault : TextFault
  pub ended_is : ended ≡ Err fault
  pub reading : IsUnseenFault ends.input.failed fault
  pub opened : ends.refused ≡ None
  pub untouched : ends.untouched

-- whether the trace has a head was seen, and by that a text of this kind is what calls begin with; if nothing more was read of the trace, all its bytes are left
pub record IsSeen (Spells : Option (List ℕ) → List ℕ → Type 0) (Runs : Seen → Ends → Ended → Type 0) (ends : Ends) (ended : Ended) : Type 0 where
  -- what the input held then
  pub had : Option (List ℕ)
  pub same : Keeps ends.input.had had
  pub source : Seen
  pub start : HoldsStart (Spells had) source
  pub runs : Runs source (record ends { input = record ends.input { had = had }; unread = ends.input.has ≡ had }) ended

-- the trace has no head, so nothing says its machine, and nothing was written
pub record IsMachineless (ends : Ends) (ended : Ended) : Type 0 where
  pub same : Keeps ends.input.had ends.input.has
  pub none : IsHeadOf ends.input.has None
  pub ended_is : ended ≡ Err (texts.Trace (Misplaced Missing))
  pub ready : ends.input.failed ≡ false
  pub opened : ends.refused ≡ None
  pub untouched : ends.untouched

-- what calls begin with is in the head of their trace or the default configuration, or in the file that is named
abbrev pub BeginsAt : {S : Type 0} → (S → Option (List ℕ)) → (S → Bool) → Option Path → (Seen → Ends → Ended → Type 0) → Ends → Ended → Type 0
BeginsAt left failed None Runs ends ended = IsUnseen ends ended ⊎ IsSeen IsUnnamed Runs ends ended
BeginsAt left failed (Some path) Runs ends ended = OverFile left failed path Runs ends ended

-- a redaction of the host's writes too ended so: from the file that is named, or on the machine in the head of the trace
abbrev pub RedactsHostAt : {S : Type 0} → (S → Option (List ℕ)) → (S → Bool) → Option Path → Origin → Ends → Ended → Type 0
RedactsHostAt left failed None origin ends ended = IsUnseen ends ended ⊎ (IsMachineless ends ended ⊎ IsSeen IsHeaderOf (RedactsHost origin) ends ended)
RedactsHostAt left failed (Some path) origin ends ended = OverFile left failed path (RedactsHost origin) ends ended

-- how an action ended; only custody and the replay of volumes read the files after the input
abbrev pub IsEnding : {S : Type 0} → (S → Option (List ℕ)) → (S → Bool) → Action → List Path → Ends → Ended → Type 0
IsEnding left failed (actions.Replay start to form blank workers) after ends ended = BeginsAt left failed (path_of start) (ReplaysTo left failed (origin_at start) form blank workers to) ends ended
IsEnding left failed (actions.ReplayVolumes start workers) after ends ended = BeginsAt left failed (path_of start) (Reports left failed (lines_report (origin_at start) workers) after) ends ended
IsEnding left failed (actions.Live config workers) after ends ended = BeginsAt left failed config (RunsLive workers) ends ended
IsEnding left failed (actions.Custody start form scope) after ends ended = BeginsAt left failed (path_of start) (Reports left failed (custody_report (origin_at start) form scope) after) ends ended
IsEnding left failed (actions.Audit all) after ends ended = AuditsDump all ends ended
IsEnding left failed actions.Redact after ends ended = RedactsTrace ends ended
IsEnding left failed (actions.RedactHost start) after ends ended = RedactsHostAt left failed (path_of start) (origin_at start) ends ended
IsEnding left failed (actions.Convert config) after ends ended = OverFile left failed config ConvertsFirst ends ended
IsEnding left failed (actions.ConvertAfter volume) after ends ended = OverFile left failed volume ConvertsAfter ends ended

-- how an action ended over the file that is named, by all the bytes that it held; `left` and `failed` say of a file what is left of it, and whether a read of it failed. Nothing was read of standard input
pub record ReadsFile {S : Type 0} (left : S → Option (List ℕ)) (failed : S → Bool) (path : Path) (action : Action) (after : List Path) (ends : Ends) (ended : Ended) : Type 0 where
  pub old : S
  pub new : S
  pub bytes : left old ≡ ends.held path.now
  pub unread : ends.unread
  pub ending : IsEnding left failed action after (ends_of ends.held ends.refused (seen failed left old new) (new ≡ old) ends.out ends.untouched) ended

-- how it ended over the file that is named, or over standard input if none is
abbrev pub IsEndingOf : {S : Type 0} → (S → Option (List ℕ)) → (S → Bool) → Option Path → Action → List Path → Ends → Ended → Type 0
IsEndingOf left failed None action after ends ended = IsEnding left failed action after ends ended
IsEndingOf left failed (Some path) action after ends ended = IsUnopened path ends ended ⊎ ReadsFile left failed path action after ends ended

-- what a run of a job leaves, and the exit status, the fault, the counts, the line that differs and the volume that is refused, which it returns: the exit status and the error sink say how the job ended
pub record IsRun {S : Type 0} (left : S → Option (List ℕ)) (failed : S → Bool) (job : Job) (after : List Path) (ends : Ends) (err : Took) (silent : Type 0) (status : ℕ) (fault : Option TextFault) (answered : Option Answered) (difference volume : Option ℕ) : Type 0 where
  pub ended : Ended
  pub ending : IsEndingOf left failed job.input job.action after ends ended
  pub status_is : status ≡ status_after ended
  pub fault_is : fault ≡ fault_in ended
  pub answered_is : answered ≡ answered_in ended
  pub difference_is : difference ≡ difference_in ended
  pub volume_is : volume ≡ volume_in ended
  pub reported : IsReported ended err silent
