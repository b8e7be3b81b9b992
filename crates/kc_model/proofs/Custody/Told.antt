-- What a test finds among the changes by a call.
use Rattle.std.proofs.Common.{ℕ, zero, suc, ◌≡◌, ◌<◌, ◌≤◌, ◌+◌, inl, inr, Bool, true, false, cond, ◌&&◌, ◌||◌, nat_eq, List, [], ◌∷◌, map, filter, refl, ap, ap₂, ◌∙◌, arith}
use Rattle.std.specs.List.{list_any, range_with_len}
use Rattle.std.proofs.lemmas.Bool.{cases_eq, eq-eqb, ne_eqb, or_from, and_left, and_right}
use Rattle.std.proofs.lemmas.List.Folds.{list_any-append}
use Rattle.std.proofs.Math.Bool.{and-true, or-false}
use Rattle.kc_types.specs.Configuration.{Configuration, slot_count}
use Rattle.kc_types.specs.declared.slot.Phase.TheVariants.{Empty}
use Rattle.kc_types.specs.declared.custody.Change.{Change}
use Rattle.kc_types.specs.declared.custody.Change.TheVariants as change
use Rattle.kc_model.specs.State.{State, slot_at}
use Rattle.kc_model.specs.Custody.{has_moved, has_turned, frame_change, phase_change, frame_changes_by, phase_changes_by, changes_by, same_phase}
use Rattle.kc_model.specs.CustodyLaws.{is_of_frame, is_of_slot, is_end_of}

list_any-map : {X Y : Type 0} (test : Y → Bool) (make : X → Y) (xs : List X) → list_any test (map make xs) ≡ list_any (λ x. test (make x)) xs
list_any-map test make [] = refl
list_any-map test make (x ∷ xs) = ap (λ b. test (make x) || b) (list_any-map test make xs)

-- a test that passes nothing
finds-none : {X : Type 0} (test : X → Bool) (xs : List X) → ((x : X) → test x ≡ false) → list_any test xs ≡ false
finds-none test [] fails = refl
finds-none test (x ∷ xs) fails = or_from _ _ (fails x) (finds-none test xs fails)

-- the frames that moved and the slots that turned
abbrev pub moved : State → State → List ℕ
moved old new = filter (has_moved old new) (range_with_len 0 old.config.frames)

abbrev pub turned : State → State → List ℕ
turned old new = filter (has_turned old new) (range_with_len 0 (slot_count old.config))

-- a test looks through the frames that moved and the slots that turned
frames-and-slots : (test : Change → Bool) (n : ℕ) (old new : State) → list_any test (changes_by n old new)
    ≡ (list_any (λ f. test (change.Frame (frame_change n old new f))) (moved old new) || list_any (λ v. test (change.Phase (phase_change n old new v))) (turned old new))
frames-and-slots test n old new =
    list_any-append test (map change.Frame (frame_changes_by n old new)) (map change.Phase (phase_changes_by n old new))
    ∙ ap₂ ◌||◌
    (list_any-map test change.Frame (frame_changes_by n old new) ∙ list_any-map (λ told. test (change.Frame told)) (frame_change n old new) (moved old new))
    (list_any-map test change.Phase (phase_changes_by n old new) ∙ list_any-map (λ told. test (change.Phase told)) (phase_change n old new) (turned old new))

-- a test that only one number passes
abbrev pub IsOfOne : (ℕ → Bool) → ℕ → Type 0
IsOfOne test x = (y : ℕ) → (y ≡ x → ⊥) → test y ≡ false

-- the number is not in a range that lies above it
pub below-range : (test p : ℕ → Bool) (low n x : ℕ) → IsOfOne test x → x < low → list_any test (filter p (range_with_len low n)) ≡ false
below-range test p low zero x one lt = refl
below-range test p low (suc n) x one lt =
    by_test (p low) (filter p (range_with_len (low + 1) n)) (one low (λ same. omega (arith, same, lt))) (below-range test p (low + 1) n x one (omega (arith, lt)))
  where
    by_test : (b : Bool) (ys : List ℕ) → test low ≡ false → list_any test ys ≡ false → list_any test (cond b (low ∷ ys) ys) ≡ false
    by_test true ys other rest = or_from _ _ other rest
    by_test false ys other rest = rest

-- the first of a range, and a later one
first-of-range : (test : ℕ → Bool) (x : ℕ) (b : Bool) (ys : List ℕ) → list_any test ys ≡ false → list_any test (cond b (x ∷ ys) ys) ≡ (b && test x)
first-of-range test x true ys rest = ap (λ b. test x || b) rest ∙ or-false (test x)
first-of-range test x false ys rest = rest

later-of-range : (test : ℕ → Bool) (low : ℕ) (b : Bool) (ys : List ℕ) → test low ≡ false → list_any test (cond b (low ∷ ys) ys) ≡ list_any test ys
later-of-range test low true ys other = ap (λ b. b || list_any test ys) other
later-of-range test low false ys other = refl

-- a number of a range is found among those that pass if it passes and is the tested one
pub among-range : (test p : ℕ → Bool) (low n x : ℕ) → IsOfOne test x → low ≤ x → x < low + n → list_any test (filter p (range_with_len low n)) ≡ (p x && test x)
among-range test p low zero x one from below = absurd (omega (arith, from, below))
among-range test p low (suc n) x one from below = elim (cases_eq low x) [
  | inl here ↦ first-of-range test low (p low) (filter p (range_with_len (low + 1) n)) (below-range test p (low + 1) n x one (omega (arith, here))) ∙ ap (λ y. p y && test y) here
  | inr differs ↦ later-of-range test low (p low) (filter p (range_with_len (low + 1) n)) (one low differs) ∙ among-range test p (low + 1) n x one (omega (arith, from, differs)) (omega (arith, below))
]

-- a test by line and number finds exactly what the call on the line changed, and nothing that other calls did
pub record FindsByLine (test : ℕ → ℕ → Change → Bool) (found : State → State → ℕ → Bool) (count : Configuration → ℕ) : Type 0 where
  pub here : (n : ℕ) (old new : State) (x : ℕ) → x < count old.config → list_any (test n x) (changes_by n old new) ≡ found old new x
  pub other : (n k : ℕ) (old new : State) (x : ℕ) → (n ≡ k → ⊥) → list_any (test k x) (changes_by n old new) ≡ false

same-line : (n x : ℕ) → (nat_eq n n && nat_eq x x) ≡ true
same-line n x = ap₂ ◌&&◌ (eq-eqb n n refl) (eq-eqb x x refl)

other-line : (n k : ℕ) (b : Bool) → (n ≡ k → ⊥) → (nat_eq n k && b) ≡ false
other-line n k b differs = and_left _ _ (ne_eqb n k differs)

other-number : (n x : ℕ) → IsOfOne (λ y. nat_eq n n && nat_eq y x) x
other-number n x y differs = and_right (nat_eq n n) _ (ne_eqb y x differs)

-- the changes of a frame
pub frames-told : FindsByLine is_of_frame has_moved (λ config. config.frames)
frames-told = record {
  here = λ n old new f low.
      frames-and-slots (is_of_frame n f) n old new
      ∙ ap₂ ◌||◌
      (among-range (λ g. nat_eq n n && nat_eq g f) (has_moved old new) 0 old.config.frames f (other-number n f) (omega arith) (omega (arith, low)))
      (finds-none (λ v. false) (turned old new) (λ v. refl))
      ∙ or-false _
      ∙ ap (λ b. has_moved old new f && b) (same-line n f)
      ∙ and-true _;
  other = λ n k old new f differs.
      frames-and-slots (is_of_frame k f) n old new
      ∙ ap₂ ◌||◌ (finds-none (λ g. nat_eq n k && nat_eq g f) (moved old new) (λ g. other-line n k _ differs)) (finds-none (λ v. false) (turned old new) (λ v. refl));
}

-- the changes of a slot
pub slots-told : FindsByLine is_of_slot has_turned slot_count
slots-told = record {
  here = λ n old new v low.
      frames-and-slots (is_of_slot n v) n old new
      ∙ ap₂ ◌||◌
      (finds-none (λ f. false) (moved old new) (λ f. refl))
      (among-range (λ w. nat_eq n n && nat_eq w v) (has_turned old new) 0 (slot_count old.config) v (other-number n v) (omega arith) (omega (arith, low)))
      ∙ ap (λ b. has_turned old new v && b) (same-line n v)
      ∙ and-true _;
  other = λ n k old new v differs.
      frames-and-slots (is_of_slot k v) n old new
      ∙ ap₂ ◌||◌ (finds-none (λ f. false) (moved old new) (λ f. refl)) (finds-none (λ w. nat_eq n k && nat_eq w v) (turned old new) (λ w. other-line n k _ differs));
}

-- whether the slot became empty
abbrev pub has_ended : State → State → ℕ → Bool
has_ended old new v = has_turned old new v && same_phase (slot_at new v).phase Empty

-- the ends of a slot
pub ends-told : FindsByLine is_end_of has_ended slot_count
ends-told = record {
  here = λ n old new v low.
      frames-and-slots (is_end_of n v) n old new
      ∙ ap₂ ◌||◌
      (finds-none (λ f. false) (moved old new) (λ f. refl))
      (among-range (λ w. nat_eq n n && (nat_eq w v && same_phase (slot_at new w).phase Empty)) (has_turned old new) 0 (slot_count old.config) v
      (λ w differs. and_right (nat_eq n n) _ (and_left _ _ (ne_eqb w v differs))) (omega arith) (omega (arith, low)))
      ∙ ap₂ (λ a b. has_turned old new v && (a && (b && same_phase (slot_at new v).phase Empty))) (eq-eqb n n refl) (eq-eqb v v refl);
  other = λ n k old new v differs.
      frames-and-slots (is_end_of k v) n old new
      ∙ ap₂ ◌||◌ (finds-none (λ f. false) (moved old new) (λ f. refl)) (finds-none (λ w. nat_eq n k && (nat_eq w v && same_phase (slot_at new w).phase Empty)) (turned old new) (λ w. other-line n k _ differs));
}
