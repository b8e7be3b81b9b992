-- What the engines that replay a trace leave of what their sources held.
use Rattle.std.specs.Prelude.{◌≡◌, ◌≢◌, ◌++◌, ℕ, Bool, true, false, List, Option, Some, None}
use Rattle.kc_types.specs.declared.call.Call.{Call}
use Rattle.kc_types.specs.declared.reply.Reply.{Reply}
use Rattle.kc_model.specs.State.{State}
use Rattle.kc_model.specs.Promises.{KeepsPromises}
use Rattle.kc_model.specs.Blanking.{blank_state}
use Rattle.kc_model.specs.Next.{replies_from, state_after}
use Rattle.kc_snapshot.specs.Dumping.{dump_of}
use Rattle.kc_dump.specs.Sound.{IsSound}
use Rattle.kc_dump_text.specs.DumpText.{dump_text}
use Rattle.kc_trace.specs.Trace.{IsTraceUnder}
use Rattle.kc_trace.specs.Expected.{MayHave}
use Rattle.kc_trace.specs.declared.header.Position.{Position}
use Rattle.kc_trace.specs.declared.expected.Expected.{Expected}
use Rattle.kc_trace.specs.ReplyText.{reply_text_of}
use Rattle.kc_trace.specs.AnswerText.{answer_text_of}
use Rattle.kc_config_text.specs.declared.config_text.ConfigTextFault.{ConfigTextFault}
use Rattle.kc_state_text.specs.StateText.{placed_state_text}
use Rattle.kc_state_text.specs.Differences.{IsDifference}
use Rattle.kc_state_text.specs.declared.fault.StateFault.{StateFault}
use Rattle.kc_state_text.specs.declared.fault.StateFault.TheVariants as states
use Rattle.kc_texts.specs.declared.order.Origin.{Origin}
use Rattle.kc_faults.specs.Origins.{BeginsIn}
use Rattle.kc_faults.specs.Outcomes.{IsTold}
use Rattle.kc_cli.specs.Traced.{Traced, position_next}
use Rattle.kc_texts.specs.declared.order.ReplayForm.{ReplayForm}
use Rattle.kc_texts.specs.declared.order.ReplayForm.TheVariants as forms
use Rattle.kc_faults.specs.declared.fault.TextFault.{TextFault}
use Rattle.kc_faults.specs.declared.fault.TextFault.TheVariants as texts

-- the state's text is refused, or memory, and out of memory is never reported as a fault of the text
abbrev pub IsStateFault : TextFault → Type 0
IsStateFault (texts.State fault) = fault ≢ states.Memory
IsStateFault fault = fault ≡ texts.Memory

-- replaying a trace as it is read ends in a fault of its source, of its text, of memory or of a worker
pub record IsReplayFault (fault : TextFault) : Type 0 where
  pub workers : fault ≢ texts.Workers
  pub unsettled : fault ≢ texts.Unsettled
  pub actor : (program : ℕ) → fault ≢ texts.BadActor program
  pub slot : (number : ℕ) → fault ≢ texts.NoSlot number
  pub text : fault ≢ texts.NoText
  pub write : fault ≢ texts.Write
  pub config : (said : ConfigTextFault) → fault ≢ texts.Config said
  pub state : (said : StateFault) → fault ≢ texts.State said
  pub told : IsTold fault

-- the state that is left, with the pages of active VMs zeroed if that was asked for
abbrev pub left_as : Bool → State → State
left_as false m = m
left_as true m = blank_state m

-- calls are kept only if they are written
abbrev pub IsKept : ReplayForm → List Call → List Call → Type 0
IsKept forms.Lines kept calls = kept ≡ calls
IsKept form kept calls = Unit {0}

-- with these calls after them
abbrev pub kept_more : ReplayForm → List Call → List Call → List Call
kept_more forms.Lines kept more = kept ++ more
kept_more form kept more = kept

-- where the next volume comes is known if that is asked for
abbrev pub KnowsNext : Bool → Option Position → Traced → Type 0
KnowsNext false next volume = Unit {0}
KnowsNext true next volume = next ≡ position_next volume

-- the text is this trace, which may go on there, and the replies and the core are those of one thread, which takes its calls in order from this state; the calls keep the promises, and an audit finds nothing in the core, zeroed so or not
pub record IsReplayed (form : ReplayForm) (placed : Bool) (start : State) (expected : Expected) (trace_text : List ℕ) (kept : List Call) (replies : List Reply) (core : State) (next : Option Position) : Type 0 where
  pub volume : Traced
  pub may : MayHave start.config expected volume.header
  pub traced : IsTraceUnder volume.header trace_text volume.calls
  pub kept_are : IsKept form kept volume.calls
  pub given : replies ≡ replies_from start volume.calls
  pub left : core ≡ state_after start volume.calls
  pub goes_on : KnowsNext placed next volume
  pub promises : KeepsPromises start volume.calls
  pub sound : (blank : Bool) → IsSound (dump_of (left_as blank core))

-- the same from the state that the first text is of, if both texts are known
abbrev pub AreReplayed : Origin → ReplayForm → Bool → Option (List ℕ) → Option (List ℕ) → List Call → List Reply → State → Option Position → Type 0
AreReplayed origin form placed None trace kept replies core next = Unit {0}
AreReplayed origin form placed (Some start) None kept replies core next = Unit {0}
AreReplayed origin form placed (Some start_text) (Some trace_text) kept replies core next =
    (start : State) × (expected : Expected) × BeginsIn origin start_text start expected × IsReplayed form placed start expected trace_text kept replies core next

-- what is written of calls, their replies, the state after them, and where the next volume comes, which only a state's text says
abbrev pub written_text : ReplayForm → List Call → List Reply → Option Position → State → List ℕ
written_text forms.Replies calls replies next m = reply_text_of replies
written_text forms.Lines calls replies next m = answer_text_of calls replies
written_text forms.Dump calls replies next m = dump_text (dump_of m)
written_text forms.State calls replies next m = placed_state_text next m

-- that is written
abbrev pub is_placed : ReplayForm → Bool
is_placed forms.State = true
is_placed form = false

-- whether the text of a dump or of a state is written
abbrev pub wants_text : ReplayForm → Bool
wants_text forms.Dump = true
wants_text forms.State = true
wants_text form = false

-- the text is made of the trace's calls, of the replies of one thread, which takes the trace's calls in order from the state that the first text is of, and of the state that it leaves, with the pages of active VMs zeroed if asked for; the calls keep the promises, and an audit finds nothing in that state
pub record IsReplayText (origin : Origin) (form : ReplayForm) (blank : Bool) (start_text trace_text text : List ℕ) : Type 0 where
  pub start : State
  pub expected : Expected
  pub volume : Traced
  pub begins : BeginsIn origin start_text start expected
  pub may : MayHave start.config expected volume.header
  pub traced : IsTraceUnder volume.header trace_text volume.calls
  pub promises : KeepsPromises start volume.calls
  pub sound : IsSound (dump_of (left_as blank (state_after start volume.calls)))
  pub written : text ≡ written_text form volume.calls (replies_from start volume.calls) (position_next volume) (left_as blank (state_after start volume.calls))

-- the first line, if there is one, in which the last text differs from that of the state that this thread leaves, so zeroed, which says where the next volume comes
abbrev pub DiffersFromLeft : Origin → Bool → Option (List ℕ) → Option (List ℕ) → Option (List ℕ) → Option ℕ → Type 0
DiffersFromLeft origin blank None trace to line = Unit {0}
DiffersFromLeft origin blank (Some start_text) None to line = Unit {0}
DiffersFromLeft origin blank (Some start_text) (Some trace_text) None line = Unit {0}
DiffersFromLeft origin blank (Some start_text) (Some trace_text) (Some text) line =
    (start : State) × (expected : Expected) × (volume : Traced) × BeginsIn origin start_text start expected × MayHave start.config expected volume.header × IsTraceUnder volume.header trace_text volume.calls
    × IsDifference line text (placed_state_text (position_next volume) (left_as blank (state_after start volume.calls)))
