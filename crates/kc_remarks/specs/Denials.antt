-- Which notes are of a denied call, which replies deny one, and what is counted of them.
use Rattle.std.specs.Prelude.{◌≡◌, ◌<◌, ◌+◌, ◌-◌, ◌*◌, ◌^◌, ◌==◌, ◌||◌, ℕ, Bool, true, false, not, nat_lt, List, filter, length, slice_index_or}
use Rattle.kc_types.specs.Refusals.{number_of}
use Rattle.kc_types.specs.declared.call.Call.{Call}
use Rattle.kc_types.specs.declared.call.Call.TheVariants.{Take}
use Rattle.kc_types.specs.declared.refusal.Refusal.{Refusal}
use Rattle.kc_types.specs.declared.refusal.Refusal.TheVariants.{BadVm, BadFrame, NoFree}
use Rattle.kc_types.specs.declared.reply.Reply.{Reply}
use Rattle.kc_types.specs.declared.reply.Reply.TheVariants.{Refused, Rejected, Frame}
use Rattle.kc_remarks.specs.declared.remark.Note.{Note}
use Rattle.kc_remarks.specs.declared.remark.Note.TheVariants.{Denied}
use Rattle.kc_remarks.specs.declared.denials.Denials.{Denials}
use Rattle.kc_remarks.specs.declared.denials.Answered.{Answered}

abbrev pub is_denied : Note → Bool
is_denied (Denied told) = true
is_denied _ = false

abbrev pub is_denial : Reply → Bool
is_denial (Refused refusal) = true
is_denial (Rejected image) = true
is_denial _ = false

-- whether a reply denies a call for the reason of this number: that of the refusal, 1 to 26, or 0 if the call was rejected
abbrev pub denies_for : ℕ → Reply → Bool
denies_for reason (Refused refusal) = number_of refusal == reason
denies_for reason (Rejected image) = 0 == reason
denies_for reason _ = false

-- whether a reply refuses a call since it names a frame or a slot that the machine does not have
abbrev pub is_outside : Reply → Bool
is_outside (Refused BadFrame) = true
is_outside (Refused BadVm) = true
is_outside _ = false

-- whether a reply gives a frame
abbrev pub is_frame : Reply → Bool
is_frame (Frame f) = true
is_frame _ = false

-- whether a reply is to `take`: it gives a frame, or refuses the call since none is free
abbrev pub is_no_free : Refusal → Bool
is_no_free NoFree = true
is_no_free _ = false

abbrev pub is_to_take : Reply → Bool
is_to_take (Frame f) = true
is_to_take (Refused refusal) = is_no_free refusal
is_to_take _ = false

-- whether a reply is to a call that names a frame or a slot
abbrev pub is_to_naming : Reply → Bool
is_to_naming answer = not (is_to_take answer)

-- whether a call names a frame or a slot: each but `take` does
abbrev pub is_naming : Call → Bool
is_naming Take = false
is_naming _ = true

-- how many calls were denied for the reason of this number, by the counts
abbrev pub count_for : ℕ → Denials → ℕ
count_for reason denials = slice_index_or denials.reasons reason 0

-- how many of them named a frame or a slot that the machine does not have
abbrev pub outside_in : Denials → ℕ
outside_in denials = count_for (number_of BadFrame) denials + count_for (number_of BadVm) denials

-- how many calls were `take`
abbrev pub takes_in : Denials → ℕ
takes_in denials = denials.frames + count_for (number_of NoFree) denials

-- the counts are those of these replies: how many deny a call, and how many do for each reason; and how many give a frame
pub record AreCounts (replies : List Reply) (denials : Denials) : Type 0 where
  pub total : denials.total ≡ length (filter is_denial replies)
  pub each : (reason : ℕ) → count_for reason denials ≡ length (filter (denies_for reason) replies)
  pub frames : denials.frames ≡ length (filter is_frame replies)

-- the same if there are no more replies than can be counted
abbrev pub Counts : List Reply → Denials → Type 0
Counts replies denials = length replies < 2 ^ 32 → AreCounts replies denials

-- how many calls name a frame or a slot
abbrev pub naming_in : Answered → ℕ
naming_in answered = answered.calls - takes_in answered.denials

-- calls were answered with these replies
pub record IsAnsweredBy (replies : List Reply) (answered : Answered) : Type 0 where
  pub calls : answered.calls ≡ length replies
  pub denials : AreCounts replies answered.denials
  pub outside : outside_in answered.denials ≡ length (filter is_outside replies)
  pub naming : naming_in answered ≡ length (filter is_to_naming replies)

-- more than half of the calls were refused or rejected
abbrev pub is_mostly_denied : Answered → Bool
is_mostly_denied answered = nat_lt answered.calls (2 * answered.denials.total)

-- more than half of the calls that name a frame or a slot name one that the machine does not have
abbrev pub is_mostly_outside : Answered → Bool
is_mostly_outside answered = nat_lt (naming_in answered) (2 * outside_in answered.denials)

-- the trace is probably of another machine: one of the two is so
abbrev pub is_doubted : Answered → Bool
is_doubted answered = is_mostly_denied answered || is_mostly_outside answered
