-- What follows if a list of findings is empty.
use Rattle.std.proofs.Common.{ℕ, zero, suc, ◌≡◌, ◌<◌, ◌≤◌, ◌+◌, inl, inr, Bool, true, false, ◌&&◌, ◌||◌, cond, List, [], ◌∷◌, ◌++◌, length, get_or, nat_eq, refl, sym, ap, ◌∙◌, arith}
use Rattle.std.specs.Prelude.{◌/◌}
use Rattle.std.proofs.lemmas.Bool.{and_from, cases_eq, cases_lt}
use Rattle.kc_model.specs.Lawful.{times_in, has_leaf}
use Rattle.kc_model.specs.Resources.{is_in}
use Rattle.kc_model.proofs.States.Members.{held-times_in, times_in-held}
use Rattle.kc_links.proofs.Times.{times-same, times-other}
use Rattle.kc_dump.specs.declared.line.FrameLine.{FrameLine}
use Rattle.kc_audit.specs.declared.finding.Finding.{Finding}
use Rattle.kc_dump.specs.Dump.{SlotDump, empty_dump}
use Rattle.kc_audit.specs.Findings.{named_where, entries_named, all_entries_named, has_double, all_rooted}

pub none-parts : (xs ys : List Finding) → xs ++ ys ≡ [] → (xs ≡ []) × (ys ≡ [])
none-parts [] ys e = (refl, e)
none-parts (x ∷ xs) ys e = cc

pub parts-none : (xs ys : List Finding) → xs ≡ [] → ys ≡ [] → xs ++ ys ≡ []
parts-none [] ys x y = y
parts-none (z ∷ xs) ys x y = cc

-- nothing is named exactly if nothing is wrong
pub named-none : {X : Type 0} (wrong : X → Bool) (name : ℕ → X → Finding) (i : ℕ) (xs : List X) (d : X) → named_where wrong name i xs ≡ [] → (k : ℕ) → k < length xs → wrong (get_or xs k d) ≡ false
named-none wrong name i [] d e k low = absurd (omega (arith, low))
named-none wrong name i (x ∷ xs) d e zero low = by_test (wrong x) e
  where
    by_test : (b : Bool) → cond b (name i x ∷ named_where wrong name (i + 1) xs) (named_where wrong name (i + 1) xs) ≡ [] → b ≡ false
    by_test true e = cc
    by_test false e = refl
named-none wrong name i (x ∷ xs) d e (suc k) low = named-none wrong name (i + 1) xs d (by_test (wrong x) e) k (omega (arith, low))
  where
    by_test : (b : Bool) → cond b (name i x ∷ named_where wrong name (i + 1) xs) (named_where wrong name (i + 1) xs) ≡ [] → named_where wrong name (i + 1) xs ≡ []
    by_test true e = cc
    by_test false e = e

pub none-named : {X : Type 0} (wrong : X → Bool) (name : ℕ → X → Finding) (i : ℕ) (xs : List X) (d : X) → ((k : ℕ) → k < length xs → wrong (get_or xs k d) ≡ false) → named_where wrong name i xs ≡ []
none-named wrong name i [] d right = refl
none-named wrong name i (x ∷ xs) d right =
    ap (λ b. cond b (name i x ∷ named_where wrong name (i + 1) xs) (named_where wrong name (i + 1) xs)) (right 0 (omega arith))
    ∙ none-named wrong name (i + 1) xs d (λ k low. right (suc k) (omega (arith, low)))

-- each slot's entries agree with their frames
pub entries-none : (lines : List FrameLine) (v : ℕ) (slots : List SlotDump) → all_entries_named lines v slots ≡ [] → (k : ℕ) → k < length slots → entries_named lines (v + k) (get_or slots k empty_dump).entries ≡ []
entries-none lines v [] e k low = absurd (omega (arith, low))
entries-none lines v (slot ∷ slots) e zero low =
    ap (λ w. entries_named lines w slot.entries) (let z : v + 0 ≡ v = omega arith in z) ∙ (none-parts (entries_named lines v slot.entries) (all_entries_named lines (v + 1) slots) e).0
entries-none lines v (slot ∷ slots) e (suc k) low =
    ap (λ w. entries_named lines w (get_or slots k empty_dump).entries) (let z : v + suc k ≡ v + 1 + k = omega arith in z)
    ∙ entries-none lines (v + 1) slots (none-parts (entries_named lines v slot.entries) (all_entries_named lines (v + 1) slots) e).1 k (omega (arith, low))

pub none-entries : (lines : List FrameLine) (v : ℕ) (slots : List SlotDump) → ((k : ℕ) → k < length slots → entries_named lines (v + k) (get_or slots k empty_dump).entries ≡ []) → all_entries_named lines v slots ≡ []
none-entries lines v [] none = refl
none-entries lines v (slot ∷ slots) none = parts-none (entries_named lines v slot.entries) (all_entries_named lines (v + 1) slots)
    (ap (λ w. entries_named lines w slot.entries) (let z : v ≡ v + 0 = omega arith in z) ∙ none 0 (omega arith))
    (none-entries lines (v + 1) slots (λ k low. ap (λ w. entries_named lines w (get_or slots k empty_dump).entries) (let z : v + 1 + k ≡ v + suc k = omega arith in z) ∙ none (suc k) (omega (arith, low))))

zero-of : (n : ℕ) → (0 < n → ⊥) → n ≡ 0
zero-of n never = elim (cases_lt 0 n) [ inl some ↦ absurd (never some) | inr none ↦ omega (arith, none) ]

-- a list has no double exactly if it has each number at most once
pub double-once : (xs : List ℕ) → has_double xs ≡ false → (r : ℕ) → times_in xs r ≤ 1
double-once [] e r = omega arith
double-once (x ∷ xs) e r = by_parts (λ q. double-once xs q r) (is_in xs x) (has_double xs) refl refl e
  where
    by_parts : (has_double xs ≡ false → times_in xs r ≤ 1) → (a b : Bool) → is_in xs x ≡ a → has_double xs ≡ b → (a || b) ≡ false → times_in (x ∷ xs) r ≤ 1
    by_parts rest true b p q e = cc
    by_parts rest false true p q e = cc
    by_parts rest false false p q e = elim (cases_eq r x) [
      | inl same ↦
          let twice : times_in (x ∷ xs) r ≡ 1 + times_in xs r = rw same (times-same x xs) in
          let none : times_in xs r ≡ 0 = zero-of (times_in xs r) (λ some. let there : is_in xs x ≡ true = rw same at (held-times_in xs r some) in let clash : false ≡ true = sym p ∙ there in cc) in
          omega (arith, twice, none)
      | inr other ↦ rw (times-other x xs r other) (rest q)
    ]

pub once-double : (xs : List ℕ) → ((r : ℕ) → times_in xs r ≤ 1) → has_double xs ≡ false
once-double [] once = refl
once-double (x ∷ xs) once =
    let twice = times-same x xs in
    let most = once x in
    by_parts (is_in xs x) (has_double xs) (λ there. let some = times_in-held xs x there in omega (arith, some, twice, most))
    (once-double xs (λ r. let m = once r in omega (arith, m)))
  where
    by_parts : (a b : Bool) → (a ≡ true → ⊥) → b ≡ false → (a || b) ≡ false
    by_parts true b never q = absurd (never refl)
    by_parts false b never q = q

-- a guest frame has a leaf exactly if its root slot is among those with leaves
leaf-in : (leaves : List ℕ) (g : ℕ) → has_leaf leaves g ≡ is_in leaves (g / 512)
leaf-in [] g = refl
leaf-in (x ∷ xs) g = ap (λ b. nat_eq x (g / 512) || b) (leaf-in xs g)

pub rooted-each : (leaves : List ℕ) (es : List (ℕ × ℕ)) (k : ℕ) (d : ℕ × ℕ) → all_rooted leaves es ≡ true → k < length es → has_leaf leaves (get_or es k d).0 ≡ true
rooted-each leaves [] k d all low = absurd (omega (arith, low))
rooted-each leaves (e ∷ es) zero d all low = leaf-in leaves e.0 ∙ first (is_in leaves (e.0 / 512)) (all_rooted leaves es) all
  where
    first : (a b : Bool) → (a && b) ≡ true → a ≡ true
    first true b h = refl
    first false b h = h
rooted-each leaves (e ∷ es) (suc k) d all low = rooted-each leaves es k d (second (is_in leaves (e.0 / 512)) (all_rooted leaves es) all) (omega (arith, low))
  where
    second : (a b : Bool) → (a && b) ≡ true → b ≡ true
    second true b h = h
    second false b h = cc

pub each-rooted : (leaves : List ℕ) (es : List (ℕ × ℕ)) (d : ℕ × ℕ) → ((k : ℕ) → k < length es → has_leaf leaves (get_or es k d).0 ≡ true) → all_rooted leaves es ≡ true
each-rooted leaves [] d each = refl
each-rooted leaves (e ∷ es) d each = and_from (is_in leaves (e.0 / 512)) (all_rooted leaves es) (sym (leaf-in leaves e.0) ∙ each 0 (omega arith)) (each-rooted leaves es d (λ k low. each (suc k) (omega (arith, low))))
