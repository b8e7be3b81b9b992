-- The principals of a state by number: slots by their own, and the free list after them.
use Rattle.std.specs.Prelude.{◌≡◌, ℕ, ◌<◌, List, Option, Some, None}
use Rattle.kc_types.specs.Configuration.{slot_count}
use Rattle.kc_types.specs.declared.owner.Owner.{Owner}
use Rattle.kc_types.specs.declared.owner.Owner.TheVariants as owner
use Rattle.kc_model.specs.State.{State, frame_at}
use Rattle.kc_model.specs.Lawful.{same_owner}
use Rattle.kc_footprints.specs.Naming.{below}
use Rattle.kc_footprints.specs.Planner.{has_pair}

-- the pairs are those of a principal and a frame that it owns
pub record IsOwned (m : State) (pairs : List (ℕ × ℕ)) : Type 0 where
  pub by_slot : (v f : ℕ) → v < slot_count m.config → has_pair pairs v f ≡ same_owner (frame_at m f).owner (owner.Vm v)
  pub by_free : (f : ℕ) → has_pair pairs (slot_count m.config) f ≡ same_owner (frame_at m f).owner owner.Free

-- the number of an owner as a principal
abbrev pub principal_of : ℕ → Owner → Option ℕ
principal_of slots owner.Core = None
principal_of slots owner.Host = None
principal_of slots owner.Free = Some slots
principal_of slots (owner.Vm v) = below slots (Some v)
