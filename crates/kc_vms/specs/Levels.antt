-- What the root and the leaves say together.
use Rattle.std.specs.Prelude.{ℕ, zero, suc, ◌≡◌, ◌/◌, ◌%◌, ◌<◌, ◌≤◌, ◌↔◌, List, length, Option, Some, None, slice_index, slice_index_or}
use Rattle.std.specs.Ordering.{nat_cmp}
use Rattle.std.specs.FinMap as map
use Rattle.kc_types.specs.Limits.{gfn_limit, leaf_entries, leaf_limit}
use Rattle.kc_vms.specs.TablePool.{Pool, IsPool, entry_at}

-- a root slot after it was emptied
abbrev pub emptied : Option ℕ → Option ℕ
emptied slot = None

abbrev pub entry_under : Option ℕ → Pool → ℕ → Option ℕ
entry_under None pool at = None
entry_under (Some leaf) pool at = entry_at pool leaf at

-- what the two levels have at a guest frame
abbrev pub look_up : List (Option ℕ) → Pool → ℕ → Option ℕ
look_up root pool g = entry_under (slice_index_or root (g / leaf_entries) None) pool (g % leaf_entries)

abbrev pub put : Option ℕ → ℕ → map.FinMap nat_cmp ℕ → map.FinMap nat_cmp ℕ
put None g m = m
put (Some f) g m = map.insert m g f

-- the map of a look-up function, below a guest frame
unfoldable pub map_of : (ℕ → Option ℕ) → ℕ → map.FinMap nat_cmp ℕ
map_of look zero = map.empty
map_of look (suc n) = put (look n) n (map_of look n)

-- the map that the two levels are
unfoldable pub mapped_by : List (Option ℕ) → Pool → map.FinMap nat_cmp ℕ
mapped_by root pool = map_of (look_up root pool) gfn_limit

-- a root slot leads to the leaf that it took
pub record IsTable (root : List (Option ℕ)) (leaves : List ℕ) (pool : Pool) : Type 0 where
  pub long : length root ≤ leaf_limit
  pub whole : IsPool pool
  pub taken : pool.taken ≡ length leaves
  pub led : (slot leaf : ℕ) → (slice_index_or root slot None ≡ Some leaf) ↔ ((leaf < length leaves) × (slice_index leaves leaf ≡ slot))
