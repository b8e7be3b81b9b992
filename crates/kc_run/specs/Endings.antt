-- How the program ends: its exit status, and what it reports on the error sink.
use Rattle.std.specs.Prelude.{◌≡◌, ◌++◌, ℕ, Bool, true, false, List, [], codes, if◌then◌else◌, Option, Some, None, Result, Ok, Err}
use Rattle.std.specs.Fmt.{decimal}
use Rattle.std.specs.Io.KnownBytes.{Appends}
use Rattle.kc_remarks.specs.declared.denials.Answered.{Answered}
use Rattle.kc_remarks.specs.Denials.{outside_in, naming_in, is_mostly_denied, is_doubted}
use Rattle.kc_texts.specs.Written.{AppendsBeginning}
use Rattle.kc_faults.specs.declared.fault.TextFault.{TextFault}
use Rattle.kc_faults.specs.declared.fault.TextFault.TheVariants as texts
use Rattle.kc_faults.specs.Faults.{status_of, fault_line, volume_fault_line}
use Rattle.kc_cli.specs.declared.replaying.Compared.{Compared}
use Rattle.kc_redact_text.specs.declared.convert.Converted.{Converted}
use Rattle.kc_redact_text.specs.declared.convert.Converted.TheVariants as conversions
use Rattle.kc_run.specs.Faults.{empty_line}
use Rattle.kc_run.specs.declared.ending.Ending.{Ending}
use Rattle.kc_run.specs.declared.ending.Ending.TheVariants as endings

-- how a job ended, or the fault that it met
abbrev pub Ended : Type 0
Ended = Result Ending TextFault

-- `Done` if it is so, and otherwise the other ending
abbrev pub ending_of : Bool → Ending → Ending
ending_of true other = endings.Done
ending_of false other = other

-- the ending of a replay whose last state is compared, by the first line that differs, if one does
abbrev pub compared_by : Answered → Option ℕ → Ending
compared_by answered None = endings.Answered answered
compared_by answered (Some line) = endings.Another answered line

abbrev pub compared_as : Result Compared TextFault → Ended
compared_as (Ok made) = Ok (compared_by made.answered made.difference)
compared_as (Err fault) = Err fault

-- how an engine ends that has no answer
abbrev pub done_as : {A : Type 0} → Result A TextFault → Ended
done_as (Ok answer) = Ok endings.Done
done_as (Err fault) = Err fault

-- how one ends that answers yes or no
abbrev pub judged_as : Result Bool TextFault → Ending → Ended
judged_as (Ok so) other = Ok (ending_of so other)
judged_as (Err fault) other = Err fault

-- how one ends that counts how calls were answered
abbrev pub answered_as : Result Answered TextFault → Ended
answered_as (Ok answered) = Ok (endings.Answered answered)
answered_as (Err fault) = Err fault

-- the ending of a conversion after a volume, which is the first of two volumes; the trace is the second
abbrev pub ending_converted : Converted → Ending
ending_converted conversions.Written = endings.Done
ending_converted (conversions.VolumeRefused fault) = endings.Refused 1 fault
ending_converted (conversions.TraceRefused fault) = endings.Refused 2 fault

abbrev pub converted_as : Result Converted TextFault → Ended
converted_as (Ok converted) = Ok (ending_converted converted)
converted_as (Err fault) = Err fault

-- the exit status: 0 if all is as it was asked, 1 if the state differs or something is found in the dump, 2 if a boot
-- image is empty, and otherwise that of the fault, or of the volume's fault
abbrev pub status_after : Ended → ℕ
status_after (Ok endings.Done) = 0
status_after (Ok (endings.Answered answered)) = 0
status_after (Ok (endings.Another answered line)) = 1
status_after (Ok endings.Unsound) = 1
status_after (Ok (endings.Refused volume fault)) = status_of (texts.Trace fault)
status_after (Ok (endings.EmptyImage number)) = 2
status_after (Err fault) = status_of fault

-- the fault, or that of the volume that is refused, if there is one
abbrev pub fault_in : Ended → Option TextFault
fault_in (Ok (endings.Refused volume fault)) = Some (texts.Trace fault)
fault_in (Ok ending) = None
fault_in (Err fault) = Some fault

-- how the calls were answered, if the engine counts that
abbrev pub answered_in : Ended → Option Answered
answered_in (Ok (endings.Answered answered)) = Some answered
answered_in (Ok (endings.Another answered line)) = Some answered
answered_in _ = None

-- the first line that differs, if a state was compared and differs
abbrev pub difference_in : Ended → Option ℕ
difference_in (Ok (endings.Another answered line)) = Some line
difference_in _ = None

-- the number of the volume that is refused, if there are several and one is
abbrev pub volume_in : Ended → Option ℕ
volume_in (Ok (endings.Refused volume fault)) = Some volume
volume_in _ = None

-- a sink as a run found and left it: whether a write to it failed, and the bytes that it had taken before and after, if it reports them
pub record Took : Type 0 where
  pub failed : Bool
  pub had : Option (List ℕ)
  pub has : Option (List ℕ)

-- of a sink, by whether a write to one has failed and what one has taken: as it was found and as it was left
abbrev pub took : {Sink : Type 0} → (Sink → Bool) → (Sink → Option (List ℕ)) → Sink → Sink → Took
took failed taken old new = record { failed = failed new; had = taken old; has = taken new }

-- it took this text, or a beginning of it if a write failed
pub record Takes (sink : Took) (text : List ℕ) : Type 0 where
  pub whole : sink.failed ≡ false → Appends sink.had sink.has text
  pub begun : sink.failed ≡ true → AppendsBeginning sink.had sink.has text

-- the line of a warning: so many of so many calls, and what is said of them
abbrev pub warning_of : ℕ → ℕ → List ℕ → List ℕ
warning_of count all end = codes "kcore: warning: " ++ decimal count ++ codes " of " ++ decimal all ++ end

-- the warning of a trace that is probably of another machine: if more than half of its calls were refused or rejected
abbrev pub denied_line : Answered → List ℕ
denied_line answered = warning_of answered.denials.total answered.calls (codes " calls were refused: is this the trace's machine?\n")

-- the same if more than half of those that name a frame or a slot name one that the machine does not have
abbrev pub outside_line : Answered → List ℕ
outside_line answered =
    warning_of (outside_in answered.denials) (naming_in answered) (codes " calls that name a frame or a slot name one that the machine lacks: is this the trace's machine?\n")

-- the first of these lines if most calls were denied, and otherwise the second
abbrev pub warning_line : Answered → List ℕ
warning_line answered = if is_mostly_denied answered then denied_line answered else outside_line answered

-- the warning if the trace is probably of another machine, and otherwise nothing
abbrev pub warning_text : Answered → List ℕ
warning_text answered = if is_doubted answered then warning_line answered else []

-- what is reported if the state differs, after the warning
abbrev pub another_text : Answered → List ℕ
another_text answered = warning_text answered ++ codes "kcore: another state\n"

-- the error sink takes the warning if there is to be one, and nothing otherwise
abbrev pub IsWarned : Bool → Answered → Took → Type 0 → Type 0
IsWarned true answered err untouched = Takes err (warning_line answered)
IsWarned false answered err untouched = untouched

-- the error sink takes the line of a fault, of a volume that is refused or of an image that is empty, the warning, or what is reported if the state
-- differs, and nothing else
abbrev pub IsReported : Ended → Took → Type 0 → Type 0
IsReported (Ok endings.Done) err untouched = untouched
IsReported (Ok (endings.Answered answered)) err untouched = IsWarned (is_doubted answered) answered err untouched
IsReported (Ok (endings.Another answered line)) err untouched = Takes err (another_text answered)
IsReported (Ok endings.Unsound) err untouched = untouched
IsReported (Ok (endings.Refused volume fault)) err untouched = Takes err (volume_fault_line volume fault)
IsReported (Ok (endings.EmptyImage number)) err untouched = Takes err (empty_line number)
IsReported (Err fault) err untouched = Takes err (fault_line fault)
