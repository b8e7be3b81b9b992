-- The map and the leaves after each change of the two levels.
use Rattle.std.proofs.Common.{ℕ, zero, suc, ◌≡◌, ◌==◌, ◌<◌, ◌≤◌, ◌+◌, ◌*◌, ◌-◌, ◌/◌, ◌%◌, inl, inr, true, false, List, [], ◌∷◌, ◌++◌, length, length-set, length-append, get_or, set, get_or-set_same, get_or-set_other, replicate, take, eq-eqb, Option, Some, None, refl, sym, ap, ◌∙◌, arith}
use Rattle.std.proofs.lemmas.Bool.{cases_eq, cases_lt, ne_eqb}
use Rattle.std.proofs.Math.Seq.{get_or-append_seam}
use Rattle.std.proofs.lemmas.List.{get_or_append_left, get_or-replicate, length-replicate, take_all}
use Rattle.std.proofs.Math.ListN.{get_or-eq_default}
use Rattle.std.proofs.lemmas.List.Folds.{list_any_at}
use Rattle.std.specs.Ordering.{nat_cmp}
use Rattle.std.specs.FinMap.{get, insert, remove, empty, get-empty}
use Rattle.kc_types.specs.Limits.{leaf_limit}
use Rattle.kc_vms.specs.TablePool.{Pool, IsPool, empty_leaf, entry_at, with_cell, with_taken_leaf}
use Rattle.kc_vms.specs.Stage2.{has_slot}
use Rattle.kc_vms.specs.Levels.{IsTable, look_up, entry_under, mapped_by}
use Rattle.kc_vms.specs.declared.levels.Levels.{Levels}
use Rattle.kc_vms.specs.TwoLevels.{table_of}
use Rattle.kc_vms.proofs.Maps.{inserted-same, inserted-other, removed-same, removed-other, map_of-past, map_of-below, maps-same}
use Rattle.kc_vms.proofs.Lookups.{look-same, look-other}

pub mapped-get : (root : List (Option ℕ)) (pool : Pool) (g : ℕ) → g < 134217728 → get (mapped_by root pool) g ≡ look_up root pool g
unfolding mapped_by
mapped-get root pool g below = map_of-below (look_up root pool) 134217728 g below

pub mapped-past : (root : List (Option ℕ)) (pool : Pool) (g : ℕ) → 134217728 ≤ g → get (mapped_by root pool) g ≡ None
unfolding mapped_by
mapped-past root pool g past = map_of-past (look_up root pool) 134217728 g past

pub mapped-unchanged : (root old_root : List (Option ℕ)) (pool old_pool : Pool) → ((g : ℕ) → look_up root pool g ≡ look_up old_root old_pool g) → mapped_by root pool ≡ mapped_by old_root old_pool
mapped-unchanged root old_root pool old_pool same = maps-same _ _ 134217728
    (λ q past. mapped-past root pool q past ∙ sym (mapped-past old_root old_pool q past))
    (λ q below. mapped-get root pool q below ∙ same q ∙ sym (mapped-get old_root old_pool q below))

pub mapped-empty : (root : List (Option ℕ)) (pool : Pool) → ((g : ℕ) → look_up root pool g ≡ None) → mapped_by root pool ≡ empty
mapped-empty root pool none = maps-same _ _ 134217728
    (λ q past. mapped-past root pool q past ∙ sym (get-empty nat_cmp q))
    (λ q below. mapped-get root pool q below ∙ none q ∙ sym (get-empty nat_cmp q))

pub mapped-inserted : (root : List (Option ℕ)) (leaves : List ℕ) (pool : Pool) (g leaf f : ℕ) → IsTable root leaves pool → g < 134217728 → get_or root (g / 512) None ≡ Some leaf → mapped_by root (with_cell pool leaf (g % 512) (Some f)) ≡ insert (mapped_by root pool) g f
mapped-inserted root leaves pool g leaf f table within is = maps-same _ _ 134217728
    (λ q past. mapped-past root _ q past ∙ sym (inserted-other (mapped_by root pool) g f q (λ same. absurd (omega (arith, same))) ∙ mapped-past root pool q past))
    (λ q below. mapped-get root _ q below ∙ elim (cases_eq q g) [
      | inl same ↦ rw same (look-same root leaves pool g leaf (Some f) table is ∙ sym (inserted-same (mapped_by root pool) g f))
      | inr other ↦ look-other root leaves pool g q leaf (Some f) table is other ∙ sym (inserted-other (mapped_by root pool) g f q other ∙ mapped-get root pool q below)
    ])

pub mapped-removed : (root : List (Option ℕ)) (leaves : List ℕ) (pool : Pool) (g leaf : ℕ) → IsTable root leaves pool → g < 134217728 → get_or root (g / 512) None ≡ Some leaf → mapped_by root (with_cell pool leaf (g % 512) None) ≡ remove (mapped_by root pool) g
mapped-removed root leaves pool g leaf table within is = maps-same _ _ 134217728
    (λ q past. mapped-past root _ q past ∙ sym (removed-other (mapped_by root pool) g q (λ same. absurd (omega (arith, same))) ∙ mapped-past root pool q past))
    (λ q below. mapped-get root _ q below ∙ elim (cases_eq q g) [
      | inl same ↦ rw same (look-same root leaves pool g leaf None table is ∙ sym (removed-same (mapped_by root pool) g))
      | inr other ↦ look-other root leaves pool g q leaf None table is other ∙ sym (removed-other (mapped_by root pool) g q other ∙ mapped-get root pool q below)
    ])

-- a guest frame that is not mapped need not be removed
pub mapped-absent : (root : List (Option ℕ)) (pool : Pool) (g : ℕ) → g < 134217728 → look_up root pool g ≡ None → mapped_by root pool ≡ remove (mapped_by root pool) g
mapped-absent root pool g within none = maps-same _ _ 134217728
    (λ q past. sym (removed-other (mapped_by root pool) g q (λ same. absurd (omega (arith, same)))))
    (λ q below. elim (cases_eq q g) [
      | inl same ↦ rw same (mapped-get root pool g within ∙ none ∙ sym (removed-same (mapped_by root pool) g))
      | inr other ↦ sym (removed-other (mapped_by root pool) g q other)
    ])

pub get-nones : (n k : ℕ) → get_or (replicate {A = Option ℕ} n None) k None ≡ None
get-nones n k = elim (cases_lt k n) [ inl lt ↦ get_or-replicate n k None None lt | inr past ↦ get_or-eq_default (replicate {A = Option ℕ} n None) None (rw (length-replicate {A = Option ℕ} n None) past) ]

pub look-none : (root : List (Option ℕ)) (pool : Pool) (g : ℕ) → get_or root (g / 512) None ≡ None → look_up root pool g ≡ None
look-none root pool g none = rw none refl

pub has_slot-led : (root : List (Option ℕ)) (leaves : List ℕ) (pool : Pool) (s leaf : ℕ) → IsTable root leaves pool → get_or root s None ≡ Some leaf → has_slot leaves s ≡ true
has_slot-led root leaves pool s leaf table is = let led = (table.led s leaf).0 is in list_any_at (λ r. r == s) leaves leaf 0 led.0 (eq-eqb (get_or leaves leaf 0) s led.1)

has_slot-absent : (leaves : List ℕ) (s : ℕ) → ((k : ℕ) → k < length leaves → get_or leaves k 0 ≡ s → ⊥) → has_slot leaves s ≡ false
has_slot-absent [] s absent = refl
has_slot-absent (x ∷ xs) s absent = rw (ne_eqb x s (absent zero (omega arith))) (has_slot-absent xs s (λ k lt. absent (suc k) (omega arith)))

pub has_slot-none : (root : List (Option ℕ)) (leaves : List ℕ) (pool : Pool) (s : ℕ) → IsTable root leaves pool → get_or root s None ≡ None → has_slot leaves s ≡ false
has_slot-none root leaves pool s table none = has_slot-absent leaves s (λ k lt at. let there = (table.led s k).1 (lt, at) in absurd cc)

seam : (leaves : List ℕ) (s k : ℕ) → k ≡ length leaves → get_or (leaves ++ s ∷ []) k 0 ≡ s
seam leaves s k is = rw is (get_or-append_seam leaves s [] 0)

led-after : (root : List (Option ℕ)) (leaves : List ℕ) (pool : Pool) (s leaf t k : ℕ) → IsTable root leaves pool → s < length root → leaf ≡ length leaves → get_or (set root s (Some leaf)) t None ≡ Some k → (k < length (leaves ++ s ∷ [])) × (get_or (leaves ++ s ∷ []) k 0 ≡ t)
led-after root leaves pool s leaf t k table within is there = let long = length-append leaves (s ∷ []) in elim (cases_eq t s) [
  | inl same ↦
      let at_s : get_or (set root s (Some leaf)) s None ≡ Some k = rw same at there in
      let written = get_or-set_same root s (Some leaf) None within in
      let e : leaf ≡ k = cc in
      (omega (arith, long, is, e), seam leaves s k (sym e ∙ is) ∙ sym same)
  | inr other ↦
      let led = (table.led t k).0 (sym (get_or-set_other root s t (Some leaf) None other) ∙ there) in
      let lt = led.0 in
      (omega (arith, long, lt), get_or_append_left leaves (s ∷ []) 0 k lt ∙ led.1)
]

led-before : (root : List (Option ℕ)) (leaves : List ℕ) (pool : Pool) (s leaf t k : ℕ) → IsTable root leaves pool → get_or root s None ≡ None → s < length root → leaf ≡ length leaves → k < length (leaves ++ s ∷ []) → get_or (leaves ++ s ∷ []) k 0 ≡ t → get_or (set root s (Some leaf)) t None ≡ Some k
led-before root leaves pool s leaf t k table none within is lt at = let long = length-append leaves (s ∷ []) in elim (cases_lt k (length leaves)) [
  | inl before ↦
      let there = (table.led t k).1 (before, sym (get_or_append_left leaves (s ∷ []) 0 k before) ∙ at) in
      get_or-set_other root s t (Some leaf) None (λ same. let both : get_or root s None ≡ Some k = rw same at there in absurd cc) ∙ there
  | inr past ↦
      let e : k ≡ length leaves = omega (arith, long) in
      let same : s ≡ t = sym (seam leaves s k e) ∙ at in
      rw (← same) (get_or-set_same root s (Some leaf) None within ∙ ap Some (is ∙ sym e))
]

-- a leaf is taken for a slot that has none
pub table-led : (root : List (Option ℕ)) (leaves : List ℕ) (pool : Pool) (s leaf : ℕ) → IsTable root leaves pool → get_or root s None ≡ None → s < length root → leaf ≡ pool.taken → IsPool (with_taken_leaf pool) → IsTable (set root s (Some leaf)) (leaves ++ s ∷ []) (with_taken_leaf pool)
table-led root leaves pool s leaf table none within is kept =
    let short : s < length root = within in
    record {
      long = rw length-set table.long;
      whole = kept;
      taken = let t = table.taken in let l = length-append leaves (s ∷ []) in omega (arith, t, l);
      led = λ t k. (
        led-after root leaves pool s leaf t k table short (is ∙ table.taken),
        λ p. led-before root leaves pool s leaf t k table none short (is ∙ table.taken) p.0 p.1,
      );
    }

-- the entries of leaves and an empty one, as they are filled up
pub longer-by-leaf : (es : List (Option ℕ)) {new : List (Option ℕ)} (taken : ℕ) {len : ℕ} → length es ≡ taken * 512 → len ≡ length es → new ≡ take ((taken + 1) * 512) es ++ replicate ((taken + 1) * 512 - len) None → new ≡ es ++ empty_leaf
unfolding empty_leaf
longer-by-leaf es taken long is filled =
    filled ∙ rw (take_all ((taken + 1) * 512) es (omega (arith, long)), is, long, let left : (taken + 1) * 512 - taken * 512 ≡ 512 = omega arith in left) refl

-- a list that is longer by an empty leaf has the same entries
beyond-none : (es : List (Option ℕ)) (k : ℕ) → get_or (es ++ empty_leaf) k None ≡ get_or es k None
unfolding empty_leaf
beyond-none [] k = get-nones 512 k
beyond-none (e ∷ es) zero = refl
beyond-none (e ∷ es) (suc k) = beyond-none es k

under-leaf : (v : Option ℕ) (pool : Pool) (at : ℕ) → entry_under v (with_taken_leaf pool) at ≡ entry_under v pool at
under-leaf None pool at = refl
under-leaf (Some leaf) pool at = beyond-none pool.entries (leaf * 512 + at)

pub look-led : (root : List (Option ℕ)) (leaves : List ℕ) (pool : Pool) (s leaf : ℕ) → IsTable root leaves pool → get_or root s None ≡ None → s < length root → leaf ≡ pool.taken → (g : ℕ) → look_up (set root s (Some leaf)) (with_taken_leaf pool) g ≡ look_up root pool g
look-led root leaves pool s leaf table none within is g = elim (cases_eq (g / 512) s) [
  | inl same ↦ rw (same, get_or-set_same root s (Some leaf) None within, none) (beyond-none pool.entries (leaf * 512 + g % 512) ∙ get_or-eq_default pool.entries None (let l = table.whole.long in omega (arith, l)))
  | inr other ↦ under-leaf (get_or (set root s (Some leaf)) (g / 512) None) pool (g % 512) ∙ ap (λ v. entry_under v pool (g % 512)) (get_or-set_other root s (g / 512) (Some leaf) None other)
]

-- a root without leaves over an empty pool
all-none : (root : List (Option ℕ)) → ((s : ℕ) → get_or root s None ≡ None) → (pool : Pool) (g : ℕ) → look_up root pool g ≡ None
all-none root none pool g = rw (none (g / 512)) refl

pub mapped-new : (root : List (Option ℕ)) (pool : Pool) → ((s : ℕ) → get_or root s None ≡ None) → mapped_by root pool ≡ empty
mapped-new root pool none = mapped-empty root pool (all-none root none pool)

pub table-new : (root : List (Option ℕ)) (pool : Pool) → ((s : ℕ) → get_or root s None ≡ None) → length root ≤ leaf_limit → IsPool pool → pool.taken ≡ 0 → IsTable root [] pool
table-new root pool none long kept taken = record {
  long = long;
  whole = kept;
  taken = taken;
  led = λ t k. (λ there. let here = none t in absurd cc, λ p. absurd (let lt = p.0 in omega (arith, lt)));
}

-- what a look-up in two steps finds at a guest frame, or at a copy of its number
pub got-none : (t : Levels) (number g : ℕ) → number ≡ g → number < 134217728 → get_or t.root.items (number / 512) None ≡ None → get (table_of t).mapped g ≡ None
got-none t number g is within none = rw (← is) (mapped-get t.root.items t.pool number within ∙ look-none t.root.items t.pool number none)

pub got-some : (t : Levels) (number g leaf : ℕ) → number ≡ g → number < 134217728 → get_or t.root.items (number / 512) None ≡ Some leaf → get (table_of t).mapped g ≡ entry_at t.pool leaf (number % 512)
got-some t number g leaf is within there = rw (← is) (mapped-get t.root.items t.pool number within ∙ ap (λ v. entry_under v t.pool (number % 512)) there)

-- a root that finds what another finds
pub table-widened : (root wide : List (Option ℕ)) (leaves : List ℕ) (pool : Pool) → IsTable root leaves pool → ((s : ℕ) → get_or wide s None ≡ get_or root s None) → length wide ≤ leaf_limit → IsTable wide leaves pool
table-widened root wide leaves pool table same few = record {
  long = few;
  whole = table.whole;
  taken = table.taken;
  led = λ t k. (λ there. (table.led t k).0 (sym (same t) ∙ there), λ p. same t ∙ (table.led t k).1 p);
}

pub look-widened : (root wide : List (Option ℕ)) (pool : Pool) → ((s : ℕ) → get_or wide s None ≡ get_or root s None) → (g : ℕ) → look_up wide pool g ≡ look_up root pool g
look-widened root wide pool same g = ap (λ v. entry_under v pool (g % 512)) (same (g / 512))
