-- Why a run gives no answer.
use Rattle.std.specs.Prelude.{Bool, true, false, ◌≡◌, ◌<◌, Option, Some, None, List}
use Rattle.kc_types.specs.Configuration.{Configuration}
use Rattle.kc_types.specs.Limits.{call_limit}
use Rattle.kc_live.specs.declared.fault.LiveFault.{LiveFault}
use Rattle.kc_live.specs.declared.fault.LiveFault.TheVariants as faults
use Rattle.kc_live.specs.declared.stop.LiveCause.{LiveCause}
use Rattle.kc_live.specs.declared.stop.LiveCause.TheVariants.{NotYours, HistoryFull, Memory, Start, Unsettled, BadActor}
use Rattle.kc_live.specs.declared.program.ThreadStop.{ThreadStop}
use Rattle.kc_live.specs.declared.program.ThreadStop.TheVariants as stops
use Rattle.kc_live.specs.Book.{Recording, IsLegal, IsWholeFrom, volume_in}
use Rattle.kc_live.specs.Program.{ProgramView, HasBeginnings, HasNoOthers}
use Rattle.kc_live.specs.Plans.{HaveActors, IsFirstBad, stranger_from, count_of, MayRunTogether}

-- the programs are such that this is the cause: a bad actor goes before a call of another, and this before too many calls; programs with none of the three may run
abbrev pub IsCauseOf : Configuration → List ProgramView → LiveCause → Type 0
IsCauseOf config ps (BadActor i) = IsFirstBad config ps i
IsCauseOf config ps (NotYours i call) = HaveActors config ps × (stranger_from 0 ps ≡ Some (i, call))
IsCauseOf config ps HistoryFull = HaveActors config ps × (stranger_from 0 ps ≡ None) × (call_limit < count_of ps)
IsCauseOf config ps Memory = MayRunTogether config ps
IsCauseOf config ps Start = MayRunTogether config ps
IsCauseOf config ps Unsettled = MayRunTogether config ps

-- the cause shows only in a run
abbrev pub IsLate : LiveCause → Type 0
IsLate (BadActor i) = ⊥
IsLate (NotYours i call) = ⊥
IsLate HistoryFull = ⊥
IsLate Memory = Unit {0}
IsLate Start = Unit {0}
IsLate Unsettled = Unit {0}

-- a history is handed back exactly if the run began: without memory it may not have
abbrev pub FitsHistory : LiveCause → Bool → Type 0
FitsHistory (BadActor i) is_there = is_there ≡ false
FitsHistory (NotYours i call) is_there = is_there ≡ false
FitsHistory HistoryFull is_there = is_there ≡ false
FitsHistory Memory is_there = Unit {0}
FitsHistory Start is_there = is_there ≡ true
FitsHistory Unsettled is_there = is_there ≡ true

-- the history of a run that gave no answer: it is legal, and if the receipts are settled with it, all of it was made from the boot state of the given configuration on, and it has a beginning of each program's calls, and no others
pub record IsLeftHistory (machine : Configuration) (ps : List ProgramView) (is_settled : Bool) (left : Recording) : Type 0 where
  pub legal : IsLegal (volume_in left)
  pub whole : is_settled ≡ true → IsWholeFrom machine left.log
  pub begun : is_settled ≡ true → HasBeginnings left.log.entries ps
  pub others : is_settled ≡ true → HasNoOthers left.log.entries ps

-- the cause if a thread did not make a call: out of memory is reported as that; any other fault, of programs that were judged, leaves the run unsettled
abbrev pub fault_cause : LiveFault → LiveCause
fault_cause faults.Memory = Memory
fault_cause faults.NotYours = Unsettled
fault_cause faults.HistoryFull = Unsettled

-- the cause of a run whose threads did not make all calls
abbrev pub thread_cause : ThreadStop → LiveCause
thread_cause stops.Start = Start
thread_cause (stops.Fault fault) = fault_cause fault

-- the cause of a run that began, if it gives no answer: what stopped a thread goes before receipts that are not the history's
abbrev pub run_cause : Option ThreadStop → Bool → Option LiveCause
run_cause (Some stop) is_settled = Some (thread_cause stop)
run_cause None true = None
run_cause None false = Some Unsettled
