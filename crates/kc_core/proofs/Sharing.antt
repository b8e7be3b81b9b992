-- Granting and revoking on parts, one guest frame after another.
use Rattle.std.proofs.Common.{ℕ, suc, ◌≡◌, ◌<◌, ◌≤◌, ◌+◌, inl, inr, true, nat_le, None, Some, List, [], ◌∷◌, get_or, set, is_some, sym, ap, subst, ◌∙◌, arith, get_or-set_other}
use Rattle.std.proofs.lemmas.Bool.{cases_eq, leb-false}
use Rattle.std.specs.List.{range_with_len}
use Rattle.std.specs.FinMap as map
use Rattle.kc_types.specs.Configuration.{Configuration, slot_count}
use Rattle.kc_types.specs.declared.call.Call.{Call}
use Rattle.kc_types.specs.declared.call.Call.TheVariants.{GrantRange}
use Rattle.kc_types.specs.declared.owner.Owner.TheVariants.{Core}
use Rattle.kc_types.specs.declared.resource.Resource.TheVariants as resource
use Rattle.kc_types.specs.Slots.{slot_of}
use Rattle.kc_model.specs.State.{State, Frame, Slot, frame_at, mapped_at, with_frame, untouched, no_slot}
use Rattle.kc_model.specs.Refusals.{refusal, backing, share_at}
use Rattle.kc_model.specs.Effects.{with_each, granted}
use Rattle.kc_model.proofs.Refusals.Served.{when-none}
use Rattle.kc_model.proofs.States.Each.{none-in}
use Rattle.kc_model.proofs.Lawful.RangeCalls.{guest_range-served}
use Rattle.kc_model.proofs.Safe.Measured.{set-here}
use Rattle.kc_parts.specs.Parts.{Held, page_at}
use Rattle.kc_parts.specs.States.{state_of}
use Rattle.kc_core.specs.Applying.{IsAble, KeepsPlaces}
use Rattle.kc_core.proofs.Needed.{mapped-needed}

-- one frame changes, as the frame at its guest frame
pub each-one : (change : Frame → Frame) (m : State) (v g f : ℕ) → mapped_at m v g ≡ Some f → with_frame m f (change (frame_at m f)) ≡ with_each m v (g ∷ []) change
each-one change m v g f mapped = ap (λ at. with_frame m (backing at) (change (frame_at m (backing at)))) (sym mapped)

-- calls that leave the slots as they are leave what is mapped
pub mapped-still : (m now : State) (v g : ℕ) → now.slots ≡ m.slots → mapped_at m v g ≡ Some (backing (mapped_at m v g)) → mapped_at now v g ≡ Some (backing (mapped_at m v g))
mapped-still m now v g slots mapped = ap (λ (slots : List Slot). map.get (get_or slots v no_slot).mapped g) slots ∙ mapped

-- the page there is still here, if the places stay too
pub page-still : (config : Configuration) (old now : Held) (call : Call) (v g f : ℕ) → IsAble config old call → slot_of call ≡ Some v → v < slot_count config → mapped_at (state_of config old) v g ≡ Some (backing (mapped_at (state_of config old) v g))
    → mapped_at (state_of config now) v g ≡ Some (backing (mapped_at (state_of config old) v g)) → KeepsPlaces old now → mapped_at (state_of config now) v g ≡ Some f → is_some (page_at now f) ≡ true
page-still config old now call v g f able names low mapped still places found =
    let b : ℕ = backing (mapped_at (state_of config old) v g) in
    let same : b ≡ f = cc in
    subst (λ x. is_some (page_at now x) ≡ true) same (places.here (resource.Frame b) ∙ mapped-needed config old call able v g b names low mapped)

-- one guest frame of the range is done
pub one-done : (change : Frame → Frame) (m new goal : State) (v g n left : ℕ) → n ≡ suc left → new ≡ with_each m v (g ∷ []) change → with_each m v (range_with_len g n) change ≡ goal → with_each new v (range_with_len (g + 1) left) change ≡ goal
one-done change m new goal v g n left more is to = rw is (rw more at to)

-- no guest frame is left
pub all-done : (change : Frame → Frame) (m goal : State) (v g n : ℕ) → n ≡ 0 → with_each m v (range_with_len g n) change ≡ goal → m ≡ goal
all-done change m goal v g n none to = rw none at to

-- a grant raises no share by more than one
share-set : (frames : List Frame) (f before now : ℕ) → (get_or frames f (untouched Core)).share ≤ before → before + 1 ≤ now → (get_or (set frames f (granted (get_or frames f (untouched Core)))) f (untouched Core)).share ≤ now
share-set frames f before now few more = elim (set-here frames f (granted (get_or frames f (untouched Core))) (untouched Core)) [
  | inl here ↦ rw here (omega (arith, few, more))
  | inr here ↦ rw here (omega arith)
]

pub share-more : (m new : State) (v g h before now : ℕ) → new ≡ with_each m v (g ∷ []) granted → share_at m v h ≤ before → before + 1 ≤ now → share_at new v h ≤ now
share-more m new v g h before now is few more = rw is (by_frame (backing (mapped_at m v g)) (backing (mapped_at m v h)) few)
  where
    by_frame : (f k : ℕ) → (frame_at m k).share ≤ before → (get_or (set m.frames f (granted (frame_at m f))) k (untouched Core)).share ≤ now
    by_frame f k few = elim (cases_eq k f) [
      | inl same ↦ rw same (share-set m.frames f before now (rw same at few) more)
      | inr other ↦ rw (get_or-set_other m.frames f k (granted (frame_at m f)) (untouched Core) other) (omega (arith, few, more))
    ]

-- if a grant is served, each of the frames has fewer than 100 grants
pub few-ranged : (m : State) (v c g n : ℕ) → refusal m (GrantRange v c g n) ≡ None → (h : ℕ) → g ≤ h → h < g + n → share_at m v h < 100
few-ranged m v c g n served h low high =
    leb-false 100 (share_at m v h) (none-in (λ h. nat_le 100 (share_at m v h)) g n h (when-none _ _ (guest_range-served m v c g n _ served).1) low high)
