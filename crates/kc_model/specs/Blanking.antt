-- States without secrets: the pages of active VMs are zeroed, and a volume of redacted calls leads from one to the
-- next.
use Rattle.std.specs.Prelude.{◌≡◌, Bool, false, List, [], ◌∷◌, map, if◌then◌else◌}
use Rattle.kc_types.specs.declared.call.Call.{Call}
use Rattle.kc_types.specs.declared.owner.Owner.{Owner}
use Rattle.kc_types.specs.declared.owner.Owner.TheVariants.{Vm}
use Rattle.kc_model.specs.State.{State, Frame, slot_at, zero_page}
use Rattle.kc_model.specs.Refusals.{is_active}
use Rattle.kc_model.specs.Next.{next, state_after}
use Rattle.kc_model.specs.Lawful.{IsLawful}
use Rattle.kc_model.specs.Custody.{custody}
use Rattle.kc_model.specs.Events.{events}
use Rattle.kc_model.specs.Redaction.{all_frames, redacted, redacted_in, DifferInBytes}

-- whether the owner is an active VM
abbrev pub is_guests : State → Owner → Bool
is_guests m (Vm v) = is_active (slot_at m v).phase
is_guests m _ = false

abbrev pub blank_frame : State → Frame → Frame
blank_frame m frame = record frame { bytes = if is_guests m frame.owner then zero_page else frame.bytes }

-- the state with the pages of active VMs zeroed
abbrev pub blank_state : State → State
blank_state m = record m { frames = map (blank_frame m) m.frames }

-- the calls without the bytes that virtual processors write, and that the host writes to frames of active VMs
abbrev pub redacted_from : State → List Call → List Call
redacted_from m [] = []
redacted_from m (call ∷ calls) = redacted_in all_frames m call ∷ redacted_from (next m call).1 calls

-- the other calls, from the blank state, have the events of the calls themselves, and so their custody, and lead to
-- the blank state that those lead to
pub record TellsBlank (m : State) (calls others : List Call) : Type 0 where
  pub left : blank_state (state_after (blank_state m) others) ≡ blank_state (state_after m calls)
  pub events : events (blank_state m) others ≡ events m calls
  pub custody : custody (blank_state m) others ≡ custody m calls

-- a volume between blank states, redacted in either way
pub record IsAuditedBlank (m : State) (calls : List Call) : Type 0 where
  pub lawful : IsLawful (blank_state m)
  pub differs : DifferInBytes all_frames m (blank_state m)
  pub plainly : TellsBlank m calls (redacted calls)
  pub wholly : TellsBlank m calls (redacted_from m calls)
