-- Looking up and changing a state that is made of two.
use Rattle.std.proofs.Common.{ℕ, zero, suc, ◌≡◌, ◌<◌, Bool, true, cond, List, [], ◌∷◌, length, get_or, set, drop, refl, ap, arith}
use Rattle.kc_types.specs.declared.owner.Owner.TheVariants.{Core}
use Rattle.kc_model.specs.State.{State, Frame, Slot, frame_at, slot_at, untouched, no_slot}
use Rattle.kc_model.specs.Resources.{Resources, pick, merged}
use Rattle.kc_types.specs.declared.resource.Resource.TheVariants as resource

pub pick-get : {X : Type 0} (test : ℕ → Bool) (d : X) (xs ys : List X) (i : ℕ) → (i < length xs → test i ≡ true) → get_or (pick test d xs ys) i d ≡ get_or xs i d
pick-get test d [] ys i here = refl
pick-get test d (x ∷ xs) ys zero here = rw (here (omega arith)) refl
pick-get test d (x ∷ xs) ys (suc i) here = pick-get (λ j. test (suc j)) d xs (drop 1 ys) i (λ lt. here (omega arith))

pub pick-set : {X : Type 0} (test : ℕ → Bool) (d : X) (xs ys : List X) (i : ℕ) (x : X) → (i < length xs → test i ≡ true) → pick test d (set xs i x) ys ≡ set (pick test d xs ys) i x
pick-set test d [] ys i x here = refl
pick-set test d (y ∷ xs) ys zero x here = rw (here (omega arith)) refl
pick-set test d (y ∷ xs) ys (suc i) x here = ap (λ rest. cond (test 0) y (get_or ys 0 d) ∷ rest) (pick-set (λ j. test (suc j)) d xs (drop 1 ys) i x (λ lt. here (omega arith)))

-- the frame is among the resources, if there is one
abbrev pub HasFrame : Resources → State → ℕ → Type 0
HasFrame here m f = f < length m.frames → here (resource.Frame f) ≡ true

abbrev pub HasSlot : Resources → State → ℕ → Type 0
HasSlot here m v = v < length m.slots → here (resource.Vm v) ≡ true

pub frame-merged : (here : Resources) (m rest : State) (f : ℕ) → HasFrame here m f → frame_at (merged here m rest) f ≡ frame_at m f
frame-merged here m rest f has = pick-get (λ f. here (resource.Frame f)) (untouched Core) m.frames rest.frames f has

pub slot-merged : (here : Resources) (m rest : State) (v : ℕ) → HasSlot here m v → slot_at (merged here m rest) v ≡ slot_at m v
slot-merged here m rest v has = pick-get (λ v. here (resource.Vm v)) no_slot m.slots rest.slots v has

pub free-merged : (here : Resources) (m rest : State) → here resource.Free ≡ true → (merged here m rest).free ≡ m.free
free-merged here m rest has = ap (λ b. cond b m.free rest.free) has

-- a change of a frame, or of a slot, is a change of the resources
pub frames-set : (here : Resources) (m rest : State) (f : ℕ) → HasFrame here m f → (new : Frame)
    → pick (λ f. here (resource.Frame f)) (untouched Core) (set m.frames f new) rest.frames ≡ set (pick (λ f. here (resource.Frame f)) (untouched Core) m.frames rest.frames) f new
frames-set here m rest f has new = pick-set (λ f. here (resource.Frame f)) (untouched Core) m.frames rest.frames f new has

pub slots-set : (here : Resources) (m rest : State) (v : ℕ) → HasSlot here m v → (new : Slot)
    → pick (λ v. here (resource.Vm v)) no_slot (set m.slots v new) rest.slots ≡ set (pick (λ v. here (resource.Vm v)) no_slot m.slots rest.slots) v new
slots-set here m rest v has new = pick-set (λ v. here (resource.Vm v)) no_slot m.slots rest.slots v new has
