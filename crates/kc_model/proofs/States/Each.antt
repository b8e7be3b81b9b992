-- Several frames are changed in one way: those at the guest frames of a range.
use Rattle.std.proofs.Common.{ℕ, zero, suc, ◌≡◌, ◌<◌, ◌≤◌, ◌+◌, inl, inr, Bool, false, List, [], ◌∷◌, length, get_or, set, refl, ap, ◌∙◌, arith, length-set}
use Rattle.std.specs.List.{list_any, range_with_len}
use Rattle.std.proofs.lemmas.Bool.{cases_eq, or_parts}
use Rattle.kc_types.specs.declared.owner.Owner.TheVariants.{Core}
use Rattle.kc_model.specs.State.{Frame, untouched}
use Rattle.kc_model.specs.Refusals.{any_from}
use Rattle.kc_model.specs.Effects.{changed_each}
use Rattle.kc_model.proofs.States.Frames.{part-set}

-- a test over the guest frames of a range
pub none-in : (p : ℕ → Bool) (g n h : ℕ) → any_from g n p ≡ false → g ≤ h → h < g + n → p h ≡ false
none-in p g zero h none low high = absurd (omega (arith, low, high))
none-in p g (suc n) h none low high =
    let parts = or_parts (p g) (list_any p (range_with_len (g + 1) n)) none in
    elim (cases_eq h g) [
      | inl first ↦ ap p first ∙ parts.0
      | inr later ↦ none-in p (g + 1) n h parts.1 (omega (arith, low, later)) (omega (arith, high))
    ]

pub any-same : (p q : ℕ → Bool) (g n : ℕ) → ((h : ℕ) → g ≤ h → h < g + n → p h ≡ q h) → any_from g n p ≡ any_from g n q
any-same p q g zero same = refl
any-same p q g (suc n) same =
    let first : p g ≡ q g = same g (omega arith) (omega arith) in
    let rest = any-same p q (g + 1) n (λ h low high. same h (omega (arith, low)) (omega (arith, high))) in
    rw (first, rest) refl

-- there are as many frames as before
pub length-changed : (change : Frame → Frame) (frames : List Frame) (fs : List ℕ) → length (changed_each change frames fs) ≡ length frames
length-changed change frames [] = refl
length-changed change frames (f ∷ fs) = length-changed change (set frames f (change (get_or frames f (untouched Core)))) fs ∙ length-set frames f _

-- what the change leaves of a frame is the same at each place
pub part-changed : {Y : Type 0} (part : Frame → Y) (change : Frame → Frame) → ((x : Frame) → part (change x) ≡ part x) → (frames : List Frame) (fs : List ℕ) (k : ℕ)
    → part (get_or (changed_each change frames fs) k (untouched Core)) ≡ part (get_or frames k (untouched Core))
part-changed part change same frames [] k = refl
part-changed part change same frames (f ∷ fs) k =
    let new = change (get_or frames f (untouched Core)) in
    part-changed part change same (set frames f new) fs k ∙ part-set part frames f new (untouched Core) (same (get_or frames f (untouched Core))) k
