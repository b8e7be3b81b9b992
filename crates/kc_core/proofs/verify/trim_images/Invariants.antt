use Rattle.std.proofs.Common.{◌≡◌, take}
use Rattle.kc_model.specs.State.{slot_at}
use Rattle.kc_model.specs.Effects.{all_trimmed}
use Rattle.kc_parts.specs.States.{state_of, IsLinked}
use Rattle.kc_core.specs.Applying.{KeepsPlaces}
use Rattle.kc_core.proofs.verify.trim_images.Given as goal

-- the images so far are trimmed
abbrev pub invariant-loop-i : goal.invariant-loop-i
invariant-loop-i l = record {
  state : state_of l.config l.parts ≡ all_trimmed (state_of l.config l.initial.parts) l.vm (take l.i (slot_at (state_of l.config l.initial.parts) l.vm).images);
  linked : IsLinked l.config l.parts;
  places : KeepsPlaces l.initial.parts l.parts;
  slots : l.parts.vms ≡ l.initial.parts.vms;
}
