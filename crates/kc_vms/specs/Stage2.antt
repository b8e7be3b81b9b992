-- A VM's table as a value: the map, the root slots that have leaves, how many root slots there are, and the most leaves
-- it can have.
use Rattle.std.specs.Prelude.{ℕ, suc, ◌≡◌, ◌<◌, ◌≤◌, ◌/◌, ◌==◌, Bool, true, ◌||◌, List, [], ◌∷◌, ◌++◌, length, slice_index_or, All, nat_lt, if◌then◌else◌, refl}
use Rattle.std.specs.Ordering.{nat_cmp}
use Rattle.std.specs.Coded.{Coded, code_by, coded×, coded_list, coded_ℕ}
use Rattle.std.specs.List.{list_any}
use Rattle.std.specs.FinMap as map
use Rattle.kc_types.specs.Limits.{leaf_entries}
use Rattle.kc_model.specs.Lawful.{times_in}

pub record Table : Type 0 where
  pub mapped : map.FinMap nat_cmp ℕ
  pub leaves : List ℕ
  pub roots : ℕ
  pub capacity : ℕ

abbrev pub table_code : Coded Table
table_code = code_by (map.FinMap nat_cmp ℕ × (List ℕ × (ℕ × ℕ))) (coded× (map.code coded_ℕ coded_ℕ) (coded× (coded_list coded_ℕ) (coded× coded_ℕ coded_ℕ)))
    (λ t. (t.mapped, (t.leaves, (t.roots, t.capacity)))) (λ p. record { mapped = p.0; leaves = p.1.0; roots = p.1.1.0; capacity = p.1.1.1 }) (λ _. refl)

abbrev pub new_table : ℕ → ℕ → Table
new_table roots capacity = record { mapped = map.empty; leaves = []; roots = roots; capacity = capacity }

-- the root slot has a leaf
abbrev pub has_slot : List ℕ → ℕ → Bool
has_slot leaves slot = list_any (λ root. root == slot) leaves

-- the guest frame's root slot has a leaf
abbrev pub has_leaf_of : List ℕ → ℕ → Bool
has_leaf_of leaves g = has_slot leaves (g / leaf_entries)

abbrev pub fits : Table → ℕ → Bool
fits t g = has_leaf_of t.leaves g || nat_lt (length t.leaves) t.capacity

-- the leaves, with one for the root slot
abbrev pub with_root_slot : List ℕ → ℕ → List ℕ
with_root_slot leaves slot = if has_slot leaves slot then leaves else leaves ++ slot ∷ []

abbrev pub with_mapping : Table → ℕ → ℕ → Table
with_mapping t g f = record t { mapped = map.insert t.mapped g f; leaves = with_root_slot t.leaves (g / leaf_entries) }

-- a table of this many root slots and at most this many leaves can have leaves in these root slots, each once, and
-- these entries, by ascending guest frame, each of which has a leaf
pub record AreMappings (count capacity : ℕ) (roots : List ℕ) (entries : List (ℕ × ℕ)) : Type 0 where
  pub few : length roots ≤ capacity
  pub low : All (λ root. root < count) roots
  pub once : (root : ℕ) → times_in roots root ≤ 1
  pub rooted : (n : ℕ) → n < length entries → has_leaf_of roots (slice_index_or entries n (0, 0)).0 ≡ true
  pub rising : (n : ℕ) → suc n < length entries → (slice_index_or entries n (0, 0)).0 < (slice_index_or entries (suc n) (0, 0)).0
