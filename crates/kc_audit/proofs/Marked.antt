-- Marks on the frames of one more slot.
use Rattle.std.proofs.Common.{ℕ, ◌≡◌, ◌<◌, ◌≤◌, ◌+◌, inl, inr, Bool, true, false, ◌||◌, ◌&&◌, List, length, get_or, Some, nat_eq, eq-eqb, refl, sym, ap, ◌∙◌, arith}
use Rattle.std.proofs.lemmas.Bool.{and_from, cases_lt, ne_eqb}
use Rattle.std.proofs.lemmas.List.{get_or_past, get_or_default}
use Rattle.kc_types.specs.declared.owner.Owner.TheVariants.{Vm}
use Rattle.kc_model.specs.Lawful.{same_owner}
use Rattle.kc_dump.specs.declared.line.FrameLine.{FrameLine}
use Rattle.kc_dump.specs.Dump.{Dumped, SlotDump, line_at, line_owner, slot_dump_at, maps, empty_dump}
use Rattle.kc_audit.specs.Findings.{says, is_gfn}
use Rattle.kc_audit.specs.Marks.{has_entry, AreMarks}

-- the frames of the first slots are marked
pub record MarkedTo (d : Dumped) (marks : List Bool) (i : ℕ) : Type 0 where
  pub done : (f v g : ℕ) → line_owner d.frames f ≡ Vm v → (line_at d.frames f).gfn ≡ Some g → v < i → get_or marks f false ≡ maps (slot_dump_at d v) g f
  pub left : (f v : ℕ) → line_owner d.frames f ≡ Vm v → i ≤ v → get_or marks f false ≡ false

pub says-true : (lines : List FrameLine) (v g f : ℕ) → line_owner lines f ≡ Vm v → (line_at lines f).gfn ≡ Some g → says lines v g f ≡ true
says-true lines v g f owner gfn = ap (λ o. same_owner o (Vm v) && is_gfn (line_at lines f).gfn g) owner ∙ ap (λ h. nat_eq v v && is_gfn h g) gfn ∙ and_from (nat_eq v v) (nat_eq g g) (eq-eqb v v refl) (eq-eqb g g refl)

other-slot : (lines : List FrameLine) (f v w : ℕ) → line_owner lines f ≡ Vm v → (v ≡ w → ⊥) → same_owner (line_owner lines f) (Vm w) ≡ false
other-slot lines f v w owner other = ap (λ o. same_owner o (Vm w)) owner ∙ ne_eqb v w other

or-false : (a b : Bool) → a ≡ false → (a || b) ≡ b
or-false true b e = cc
or-false false b e = refl

pub mark-more : (d : Dumped) (i w : ℕ) (entries : List (ℕ × ℕ)) (old new : List Bool) → w ≡ i → entries ≡ (slot_dump_at d i).entries
    → ((f g : ℕ) → says d.frames w g f ≡ true → get_or new f false ≡ (get_or old f false || has_entry entries g f))
    → ((f : ℕ) → same_owner (line_owner d.frames f) (Vm w) ≡ false → get_or new f false ≡ get_or old f false)
    → MarkedTo d old i → MarkedTo d new (i + 1)
mark-more d i w entries old new is these mine others so_far = record {
  done = λ f v g owner gfn low. elim (cases_lt v i) [
    | inl before ↦ others f (other-slot d.frames f v w owner (λ e. omega (arith, e, is, before))) ∙ so_far.done f v g owner gfn before
    | inr past ↦
        let here : v ≡ w = omega (arith, past, low, is) in
        let there : v ≡ i = omega (arith, past, low) in
        mine f g (says-true d.frames w g f (owner ∙ ap Vm here) gfn)
        ∙ or-false (get_or old f false) (has_entry entries g f) (so_far.left f v owner past)
        ∙ ap (λ es. has_entry es g f) (these ∙ ap (λ (k : ℕ). (slot_dump_at d k).entries) (sym there))
  ];
  left = λ f v owner past. others f (other-slot d.frames f v w owner (λ e. omega (arith, e, is, past))) ∙ so_far.left f v owner (omega (arith, past));
}

pub marked-all : (d : Dumped) (marks : List Bool) (i : ℕ) → length marks ≡ length d.frames → length d.slots ≤ i → MarkedTo d marks i → AreMarks d marks
marked-all d marks i count all so_far = record {
  count = count;
  each = λ f v g owner gfn. elim (cases_lt v i) [
    | inl before ↦ so_far.done f v g owner gfn before
    | inr past ↦ so_far.left f v owner past ∙ sym (ap (λ (s : SlotDump). maps s g f) (get_or_past d.slots v empty_dump (omega (arith, all, past))))
  ];
}

pub slot-is : (d : Dumped) (slots : List SlotDump) (i : ℕ) (slot : SlotDump) → slots ≡ d.slots → i < length slots → slot ≡ get_or slots i slot → slot ≡ slot_dump_at d i
slot-is d slots i slot same low is = is ∙ get_or_default slots i slot empty_dump low ∙ ap (λ s. get_or s i empty_dump) same
