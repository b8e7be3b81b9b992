-- A pool of leaf tables as a value.
use Rattle.std.specs.Prelude.{ℕ, ◌≡◌, ◌+◌, ◌*◌, ◌≤◌, ◌++◌, List, [], Option, None, length, replicate, slice_index_or, slice_set}
use Rattle.kc_types.specs.Limits.{leaf_entries, leaf_limit}

-- the entries of the leaves that are taken, one leaf after another
pub record Pool : Type 0 where
  pub entries : List (Option ℕ)
  pub taken : ℕ
  pub capacity : ℕ

-- a leaf that has no entries
unfoldable pub empty_leaf : List (Option ℕ)
empty_leaf = replicate leaf_entries None

abbrev pub new_pool : ℕ → Pool
new_pool leaves = record { entries = []; taken = 0; capacity = leaves }

abbrev pub entry_at : Pool → ℕ → ℕ → Option ℕ
entry_at p leaf at = slice_index_or p.entries (leaf * leaf_entries + at) None

abbrev pub with_cell : Pool → ℕ → ℕ → Option ℕ → Pool
with_cell p leaf at frame = record p { entries = slice_set p.entries (leaf * leaf_entries + at) frame }

abbrev pub with_taken_leaf : Pool → Pool
with_taken_leaf p = record p { entries = p.entries ++ empty_leaf; taken = p.taken + 1 }

pub record IsPool (p : Pool) : Type 0 where
  pub long : length p.entries ≡ p.taken * leaf_entries
  pub within : p.taken ≤ p.capacity
  pub few : p.capacity ≤ leaf_limit
