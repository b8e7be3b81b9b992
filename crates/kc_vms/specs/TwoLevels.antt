-- The two levels of a table as they are in memory.
use Rattle.std.specs.Prelude.{ℕ, List, ◌≡◌, ◌<◌, ◌≤◌, length, Option, Some, None, slice_index_or, vec_capacity}
use Rattle.std.specs.FinMap as finite
use Rattle.kc_types.specs.Limits.{leaf_limit}
use Rattle.kc_vms.specs.declared.levels.Levels.{Levels}
use Rattle.kc_vms.specs.Stage2.{Table, with_root_slot}
use Rattle.kc_vms.specs.Levels.{IsTable, look_up, map_of, mapped_by}

pub record IsLevels (t : Levels) : Type 0 where
  pub table : IsTable t.root.items t.leaves.items t.pool
  pub space : t.pool.capacity ≤ vec_capacity t.leaves
  pub long : length t.root.items ≤ t.roots
  pub few : t.roots ≤ leaf_limit
  -- as many root slots as there can be need no memory
  pub room : t.roots ≤ vec_capacity t.root

abbrev pub table_of : Levels → Table
table_of t = record { mapped = mapped_by t.root.items t.pool; leaves = t.leaves.items; roots = t.roots; capacity = t.pool.capacity }

-- the slot now has this leaf, and nothing else has changed; or it has none, and none is left
abbrev pub Led : Levels → Levels → ℕ → Option ℕ → Type 0
Led old new slot None = (new ≡ old) × (slice_index_or old.root.items slot None ≡ None) × (length old.leaves.items ≡ old.pool.capacity)
Led old new slot (Some leaf) = (slice_index_or new.root.items slot None ≡ Some leaf)
    × ((g : ℕ) → look_up new.root.items new.pool g ≡ look_up old.root.items old.pool g)
    × (new.leaves.items ≡ with_root_slot old.leaves.items slot) × (new.roots ≡ old.roots) × (new.pool.capacity ≡ old.pool.capacity)
    × ((slice_index_or old.root.items slot None ≡ None) → length old.leaves.items < old.pool.capacity)

-- the entries of the guest frames below this one, ascending
abbrev pub entries_below : Levels → ℕ → List (ℕ × ℕ)
entries_below t n = finite.entries (map_of (look_up t.root.items t.pool) n)
