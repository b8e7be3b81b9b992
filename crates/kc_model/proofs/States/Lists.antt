-- What lists hold when one frame changes hands.
use Rattle.std.proofs.Common.{ℕ, ◌≡◌, ◌<◌, ◌+◌, inl, inr, true, false, cond, List, [], ◌∷◌, ◌++◌, length, nat_eq, eq-eqb, refl, sym, ◌∙◌, arith, get_or-set_same, get_or-set_other}
use Rattle.std.proofs.lemmas.Bool.{cases_eq, ne_eqb}
use Rattle.std.proofs.lemmas.Grind.{common_steps}
use Rattle.kc_types.specs.declared.owner.Owner.{Owner}
use Rattle.kc_types.specs.declared.owner.Owner.TheVariants.{Core}
use Rattle.kc_model.specs.State.{State, Frame, frame_at, with_frame, untouched}
use Rattle.kc_model.specs.Lawful.{ListsOnce, same_owner, times_in}

pub times_in-push : (fs : List ℕ) (f k : ℕ) → times_in (fs ++ f ∷ []) k ≡ times_in fs k + cond (nat_eq f k) 1 0
times_in-push [] f k = omega arith
times_in-push (x ∷ xs) f k = let rest = times_in-push xs f k in omega (arith, rest)

-- a frame that exists, after the change
pub changed-same : (m : State) (f : ℕ) (frame : Frame) → f < length m.frames → frame_at (with_frame m f frame) f ≡ frame
changed-same m f frame lt = get_or-set_same m.frames f frame (untouched Core) lt

pub changed-other : (m : State) (f : ℕ) (frame : Frame) (k : ℕ) → (k ≡ f → ⊥) → frame_at (with_frame m f frame) k ≡ frame_at m k
changed-other m f frame k ne = get_or-set_other m.frames f k frame (untouched Core) ne

-- a frame that neither was nor becomes the owner's
pub lists-other : (m : State) (f : ℕ) (frame : Frame) (owner : Owner) (fs : List ℕ) → f < length m.frames → ListsOnce m owner fs → same_owner (frame_at m f).owner owner ≡ false → same_owner frame.owner owner ≡ false → ListsOnce (with_frame m f frame) owner fs
lists-other m f frame owner fs lt once before after k = elim (cases_eq k f) [
  | inl same ↦ rw (same, changed-same m f frame lt, after) (let h = once f in rw before at h)
  | inr other ↦ rw (changed-other m f frame k other) (once k)
]

-- a frame that becomes the owner's, and is listed last
pub lists-gained : (m : State) (f : ℕ) (frame : Frame) (owner : Owner) (fs : List ℕ) → f < length m.frames → ListsOnce m owner fs → same_owner (frame_at m f).owner owner ≡ false → same_owner frame.owner owner ≡ true → ListsOnce (with_frame m f frame) owner (fs ++ f ∷ [])
lists-gained m f frame owner fs lt once before after k = times_in-push fs f k ∙ elim (cases_eq k f) [
  | inl same ↦ rw (same, changed-same m f frame lt, after) (let h = once f in let same_f = eq-eqb f f refl in grind (arith, common_steps, h, before, same_f))
  | inr other ↦ rw (changed-other m f frame k other) (let h = once k in let differ : nat_eq f k ≡ false = ne_eqb f k (λ e. other (sym e)) in grind (arith, common_steps, h, differ))
]

-- the first frame of the list that becomes another's
pub lists-lost : (m : State) (f : ℕ) (frame : Frame) (owner : Owner) (rest : List ℕ) → f < length m.frames → ListsOnce m owner (f ∷ rest) → same_owner frame.owner owner ≡ false → ListsOnce (with_frame m f frame) owner rest
lists-lost m f frame owner rest lt once after k = elim (cases_eq k f) [
  | inl same ↦ rw (same, changed-same m f frame lt, after) (let h = once f in let same_f = eq-eqb f f refl in grind (arith, common_steps, h, same_f))
  | inr other ↦ rw (changed-other m f frame k other) (let h = once k in let differ : nat_eq f k ≡ false = ne_eqb f k (λ e. other (sym e)) in grind (arith, common_steps, h, differ))
]

-- the first frame of a list exists and is the owner's
pub lists-first : (m : State) (owner : Owner) (f : ℕ) (rest : List ℕ) → ListsOnce m owner (f ∷ rest) → same_owner (frame_at m f).owner owner ≡ true
lists-first m owner f rest once = let h = once f in let same_f = eq-eqb f f refl in grind (arith, common_steps, h, same_f)
