-- The list of each owner, and the neighbours of a frame in it.
use Rattle.std.specs.Prelude.{ℕ, cond, ◌==◌, List, [], ◌∷◌, filter, length, Option, Some, None}
use Rattle.std.specs.List.{range_with_len}
use Rattle.kc_types.specs.declared.owner.Owner.{Owner}
use Rattle.kc_types.specs.declared.owner.Owner.TheVariants.{Core, Host, Free, Vm}
pub use Rattle.kc_types.specs.declared.link.Link.{Link}
use Rattle.kc_model.specs.State.{State, frame_at, slot_at}
use Rattle.kc_model.specs.Lawful.{same_owner}

abbrev pub first_of : List ℕ → Option ℕ
first_of [] = None
first_of (x ∷ xs) = Some x

-- the neighbours of the frame in the list, which follows `before`
abbrev pub link_after : Option ℕ → List ℕ → ℕ → Link
link_after before [] f = record { prev = None; next = None }
link_after before (x ∷ xs) f = cond (x == f) (record { prev = before; next = first_of xs }) (link_after (Some x) xs f)

abbrev pub link_in : List ℕ → ℕ → Link
link_in frames f = link_after None frames f

-- the list of an owner: the core's and the host's frames are in none
abbrev pub list_of : State → Owner → List ℕ
list_of m Core = []
list_of m Host = []
list_of m Free = m.free
list_of m (Vm v) = (slot_at m v).frames

-- the neighbours of a frame in the list of its owner
abbrev pub link_at : State → ℕ → Link
link_at m f = link_in (list_of m (frame_at m f).owner) f

-- the frames of an owner, in ascending order
abbrev pub owned_by : State → Owner → List ℕ
owned_by m owner = filter (λ f. same_owner (frame_at m f).owner owner) (range_with_len 0 (length m.frames))

-- the frames of an owner: in the order of its list, or in ascending order if it has none
abbrev pub frames_of : State → Owner → List ℕ
frames_of m Core = owned_by m Core
frames_of m Host = owned_by m Host
frames_of m Free = m.free
frames_of m (Vm v) = (slot_at m v).frames
