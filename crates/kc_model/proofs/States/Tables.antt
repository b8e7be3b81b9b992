-- A slot's table and list when a frame comes or goes.
use Rattle.std.proofs.Common.{ℕ, ◌≡◌, ◌<◌, ◌↔◌, inl, inr, Bool, true, false, cond, ◌||◌, None, Some, is_some, List, [], ◌∷◌, length, nat_eq, eq-eqb, refl, sym, ap, ◌∙◌, arith}
use Rattle.std.proofs.lemmas.Bool.{cases_eq, ne_eqb}
use Rattle.std.proofs.lemmas.Grind.{common_steps}
use Rattle.std.specs.Ordering.{nat_cmp, eq_by_cmp}
use Rattle.std.specs.Cmp.{nat_cmp_total}
use Rattle.std.specs.FinMap as map
use Rattle.std.proofs.lemmas.Option.{same_Some}
use Rattle.std.proofs.Math.Bool.{or-true, or-false}
use Rattle.kc_types.specs.declared.owner.Owner.{Owner}
use Rattle.kc_types.specs.declared.owner.Owner.TheVariants.{Vm}
use Rattle.kc_model.specs.State.{State, Frame, frame_at, slot_at, mapped_at, with_frame}
use Rattle.kc_model.specs.Effects.{without}
use Rattle.kc_model.specs.Lawful.{IsLawful, ListsOnce, same_owner, times_in}
use Rattle.kc_model.proofs.States.Lists.{changed-same, changed-other}
use Rattle.kc_types.specs.Configuration.{slot_count}

same_key : (g : ℕ) → eq_by_cmp nat_cmp g g ≡ true
same_key g = grind (arith, common_steps)

other_key : (h g : ℕ) → (h ≡ g → ⊥) → eq_by_cmp nat_cmp h g ≡ false
other_key h g ne = grind (arith, common_steps)

-- what the table has after a write and after a removal
pub got-here : (table : map.FinMap nat_cmp ℕ) (g f : ℕ) → map.get (map.insert table g f) g ≡ Some f
got-here table g f = map.get-insert nat_cmp_total table g f g ∙ ap (λ b. cond b (Some f) (map.get table g)) (same_key g)

pub got-elsewhere : (table : map.FinMap nat_cmp ℕ) (g f h : ℕ) → (h ≡ g → ⊥) → map.get (map.insert table g f) h ≡ map.get table h
got-elsewhere table g f h ne = map.get-insert nat_cmp_total table g f h ∙ ap (λ b. cond b (Some f) (map.get table h)) (other_key h g ne)

pub gone-here : (table : map.FinMap nat_cmp ℕ) (g : ℕ) → map.get (map.remove table g) g ≡ None
gone-here table g = map.get-remove nat_cmp_total table g g ∙ ap (λ b. cond b None (map.get table g)) (same_key g)

pub gone-elsewhere : (table : map.FinMap nat_cmp ℕ) (g h : ℕ) → (h ≡ g → ⊥) → map.get (map.remove table g) h ≡ map.get table h
gone-elsewhere table g h ne = map.get-remove nat_cmp_total table g h ∙ ap (λ b. cond b None (map.get table h)) (other_key h g ne)

-- whether the table has a guest frame after a write
pub has-after : (table : map.FinMap nat_cmp ℕ) (g f h : ℕ) → is_some (map.get (map.insert table g f) h) ≡ (is_some (map.get table h) || nat_eq h g)
has-after table g f h = elim (cases_eq h g) [
  | inl same ↦ rw (same, got-here table g f) (let t = eq-eqb g g refl in rw t (sym (or-true _)))
  | inr other ↦ rw (got-elsewhere table g f h other) (let t = ne_eqb h g other in rw t (sym (or-false _)))
]

-- the table agrees with the frames after the slot gained a frame that no table mapped
pub table-gained : (m : State) (f : ℕ) (frame : Frame) (v g : ℕ) → IsLawful m → v < slot_count m.config → f < length m.frames → ((frame_at m f).owner ≡ Vm v → ⊥) → mapped_at m v g ≡ None → frame.owner ≡ Vm v → frame.gfn ≡ Some g
    → (h k : ℕ) → (map.get (map.insert (slot_at m v).mapped g f) h ≡ Some k) ↔ (((frame_at (with_frame m f frame) k).owner ≡ Vm v) × ((frame_at (with_frame m f frame) k).gfn ≡ Some h))
table-gained m f frame v g is v_in lt was unmapped owner gfn h k = elim (cases_eq k f) [
  | inl same ↦ rw (same, changed-same m f frame lt) (elim (cases_eq h g) [
    | inl at ↦ rw (at, got-here (slot_at m v).mapped g f) (λ e. (owner, gfn), λ e. refl)
    | inr apart ↦ rw (got-elsewhere (slot_at m v).mapped g f h apart) (λ e. absurd (was ((is.mapped v h f v_in).0 e).0), λ e. absurd (apart (same_Some h g (sym e.1 ∙ gfn))))
  ])
  | inr other ↦ rw (changed-other m f frame k other) (elim (cases_eq h g) [
    | inl at ↦ rw (at, got-here (slot_at m v).mapped g f) (λ e. absurd (other (sym (same_Some f k e))), λ e. let mapped = (is.mapped v g k v_in).1 e in absurd cc)
    | inr apart ↦ rw (got-elsewhere (slot_at m v).mapped g f h apart) (is.mapped v h k v_in)
  ])
]

-- the table agrees with the frames after the slot lost a frame
pub table-lost : (m : State) (f : ℕ) (frame : Frame) (v g : ℕ) → IsLawful m → v < slot_count m.config → f < length m.frames → mapped_at m v g ≡ Some f → (frame.owner ≡ Vm v → ⊥)
    → (h k : ℕ) → (map.get (map.remove (slot_at m v).mapped g) h ≡ Some k) ↔ (((frame_at (with_frame m f frame) k).owner ≡ Vm v) × ((frame_at (with_frame m f frame) k).gfn ≡ Some h))
table-lost m f frame v g is v_in lt mapped gone h k = elim (cases_eq k f) [
  | inl same ↦ rw (same, changed-same m f frame lt) (elim (cases_eq h g) [
    | inl at ↦ rw (at, gone-here (slot_at m v).mapped g) (λ e. absurd cc, λ e. absurd (gone e.0))
    | inr apart ↦ rw (gone-elsewhere (slot_at m v).mapped g h apart) (
      λ e. absurd (apart (same_Some h g (sym ((is.mapped v h f v_in).0 e).1 ∙ ((is.mapped v g f v_in).0 mapped).1))),
      λ e. absurd (gone e.0),
    )
  ])
  | inr other ↦ rw (changed-other m f frame k other) (elim (cases_eq h g) [
    | inl at ↦ rw (at, gone-here (slot_at m v).mapped g) (λ e. absurd cc, λ e. absurd (other (same_Some k f (sym ((is.mapped v g k v_in).1 e) ∙ mapped))))
    | inr apart ↦ rw (gone-elsewhere (slot_at m v).mapped g h apart) (is.mapped v h k v_in)
  ])
]

-- how often a list has each frame after one was taken out
pub times_in-without : (fs : List ℕ) (f k : ℕ) → times_in (without fs f) k ≡ cond (nat_eq k f) 0 (times_in fs k)
times_in-without [] f k = sym (both-zero (nat_eq k f))
  where
    both-zero : (b : Bool) → cond {A = ℕ} b 0 0 ≡ 0
    both-zero true = refl
    both-zero false = refl
times_in-without (x ∷ fs) f k = elim (cases_eq x f) [
  | inl same ↦ let t = eq-eqb x f same in let rest = times_in-without fs f k in rw t (rest ∙ elim (cases_eq k f) [
    | inl at ↦ let s = eq-eqb k f at in rw s refl
    | inr apart ↦ let s = ne_eqb k f apart in let d : nat_eq x k ≡ false = ne_eqb x k (λ e. apart (sym e ∙ same)) in rw (s, d) (omega arith)
  ])
  | inr other ↦ let t = ne_eqb x f other in let rest = times_in-without fs f k in rw t (elim (cases_eq k f) [
    | inl at ↦ let s = eq-eqb k f at in let d : nat_eq x k ≡ false = ne_eqb x k (λ e. other (e ∙ at)) in grind (arith, common_steps, rest, s, d)
    | inr apart ↦ let s = ne_eqb k f apart in grind (arith, common_steps, rest, s)
  ])
]

-- the list loses a frame
pub lists-without : (m : State) (f : ℕ) (frame : Frame) (owner : Owner) (fs : List ℕ) → f < length m.frames → ListsOnce m owner fs → same_owner frame.owner owner ≡ false → ListsOnce (with_frame m f frame) owner (without fs f)
lists-without m f frame owner fs lt once after k = times_in-without fs f k ∙ elim (cases_eq k f) [
  | inl same ↦ let t = eq-eqb k f same in rw (t, same, changed-same m f frame lt, after) refl
  | inr other ↦ let t = ne_eqb k f other in rw (t, changed-other m f frame k other) (once k)
]
