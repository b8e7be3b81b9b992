use Rattle.std.proofs.Common.{◌≡◌}
use Rattle.std.specs.Prelude.{filter}
use Rattle.std.specs.List.{range_with_len}
use Rattle.kc_model.specs.State.{frame_at}
use Rattle.kc_model.specs.Lawful.{same_owner}
use Rattle.kc_parts.specs.States.{state_of}
use Rattle.kc_core.proofs.look_ups.owned_by.Given as goal

-- the owner's frames among those so far
abbrev pub invariant-loop-number : goal.invariant-loop-number
invariant-loop-number l = l.frames.items ≡ filter (λ f. same_owner (frame_at (state_of l.config l.parts) f).owner l.owner) (range_with_len 0 l.number)
