-- What each call does to the table as a value.
use Rattle.std.proofs.Common.{ℕ, ◌≡◌, ◌<◌, ◌≤◌, ◌/◌, ◌%◌, Bool, true, false, ◌||◌, cond, List, [], ◌∷◌, ◌++◌, length, get_or, set, get_or-set_same, Option, Some, None, is_some, nat_lt, refl, sym, ap, ◌∙◌, arith}
use Rattle.std.proofs.lemmas.Bool.{ltb-true}
use Rattle.std.specs.FinMap.{get, insert, remove}
use Rattle.kc_types.specs.Limits.{leaf_limit}
use Rattle.kc_vms.specs.TablePool.{Pool, with_cell, with_taken_leaf}
use Rattle.kc_vms.specs.declared.levels.Levels.{Levels}
use Rattle.kc_vms.specs.declared.table.MapFault.TheVariants.{TablesFull}
use Rattle.kc_vms.specs.Stage2 as table
use Rattle.kc_vms.specs.Stage2.{Table, has_slot, with_root_slot, fits}
use Rattle.kc_vms.specs.Faults.{map_fault}
use Rattle.kc_vms.specs.Levels.{look_up, mapped_by}
use Rattle.kc_vms.specs.TwoLevels.{table_of, IsLevels, Led}
use Rattle.kc_vms.proofs.Tables.{mapped-unchanged, mapped-inserted, mapped-removed, mapped-absent, look-none, has_slot-led, has_slot-none, look-led, look-widened, table-widened, mapped-new}

pub unmapped-none : (t : Levels) (number g : ℕ) → number ≡ g → number < 134217728 → get_or t.root.items (number / 512) None ≡ None → table_of t ≡ record (table_of t) { mapped = remove (table_of t).mapped g }
unmapped-none t number g is within none = rw (← is) (ap (λ m. record (table_of t) { mapped = m }) (mapped-absent t.root.items t.pool number within (look-none t.root.items t.pool number none)))

pub unmapped-some : (t : Levels) (pool : Pool) (number g leaf : ℕ) → IsLevels t → number ≡ g → number < 134217728 → get_or t.root.items (number / 512) None ≡ Some leaf → pool ≡ with_cell t.pool leaf (number % 512) None → table_of (record t { pool = pool }) ≡ record (table_of t) { mapped = remove (table_of t).mapped g }
unmapped-some t pool number g leaf kept is within there changed = rw (← is)
    (ap (λ p. table_of (record t { pool = p })) changed
    ∙ ap (λ m. record (table_of t) { mapped = m }) (mapped-removed t.root.items t.leaves.items t.pool number leaf kept.table within there))

same-table : (a b : Table) → a.mapped ≡ b.mapped → a.leaves ≡ b.leaves → a.roots ≡ b.roots → a.capacity ≡ b.capacity → a ≡ b
same-table a b mapped leaves roots capacity = λ i. record { mapped = mapped i; leaves = leaves i; roots = roots i; capacity = capacity i }

pub mapped-ok : (old t : Levels) (pool : Pool) (number g leaf f : ℕ) → IsLevels t → number ≡ g → number < 134217728 → Led old t (number / 512) (Some leaf) → pool ≡ with_cell t.pool leaf (number % 512) (Some f) → table_of (record t { pool = pool }) ≡ table.with_mapping (table_of old) g f
mapped-ok old t pool number g leaf f kept is within led changed = rw (← is) (same-table _ _
    (ap (mapped_by t.root.items) changed ∙ mapped-inserted t.root.items t.leaves.items t.pool number leaf f kept.table within led.0
    ∙ ap (λ m. insert m number f) (mapped-unchanged t.root.items old.root.items t.pool old.pool led.1))
    led.2
    led.3
    (ap (λ p. p.capacity) changed ∙ led.4))

not-below : (n : ℕ) (b : Bool) → nat_lt n n ≡ b → b ≡ false
not-below n true is = absurd (let below = ltb-true n n is in omega (arith, below))
not-below n false is = refl

pub fits-not : (t : Levels) (s : ℕ) → IsLevels t → get_or t.root.items s None ≡ None → length t.leaves.items ≡ t.pool.capacity → (has_slot t.leaves.items s || nat_lt (length t.leaves.items) t.pool.capacity) ≡ false
fits-not t s kept none full = rw (has_slot-none t.root.items t.leaves.items t.pool s kept.table none, full) (not-below t.pool.capacity _ refl)

pub faults-full : (t : Levels) (number g : ℕ) → IsLevels t → number ≡ g → get_or t.root.items (number / 512) None ≡ None → length t.leaves.items ≡ t.pool.capacity → is_some (get (table_of t).mapped g) ≡ false → map_fault (table_of t) g ≡ Some TablesFull
faults-full t number g kept is none full unmapped = let no_room = fits-not t (number / 512) kept none full in rw (unmapped, ← is, no_room) refl

pub led-found : (t : Levels) (s leaf : ℕ) → IsLevels t → get_or t.root.items s None ≡ Some leaf → Led t t s (Some leaf)
led-found t s leaf kept there = (there, λ g. refl, rw (has_slot-led t.root.items t.leaves.items t.pool s leaf kept.table there) refl, refl, refl, λ none. absurd cc)

pub led-fresh : (t : Levels) (wide : List (Option ℕ)) (leaves : List ℕ) (pool : Pool) (s leaf : ℕ) → IsLevels t → get_or t.root.items s None ≡ None → ((k : ℕ) → get_or wide k None ≡ get_or t.root.items k None) → length wide ≤ leaf_limit → s < length wide → leaf ≡ t.pool.taken → t.pool.taken < t.pool.capacity → pool ≡ with_taken_leaf t.pool → leaves ≡ t.leaves.items ++ s ∷ [] →
    (get_or (set wide s (Some leaf)) s None ≡ Some leaf)
    × ((g : ℕ) → look_up (set wide s (Some leaf)) pool g ≡ look_up t.root.items t.pool g)
    × (leaves ≡ with_root_slot t.leaves.items s) × (t.roots ≡ t.roots) × (pool.capacity ≡ t.pool.capacity)
    × ((get_or t.root.items s None ≡ None) → length t.leaves.items < t.pool.capacity)
led-fresh t wide leaves pool s leaf kept none same few within is left taken pushed = (
  get_or-set_same wide s (Some leaf) None within,
  λ g. rw taken (look-led wide t.leaves.items t.pool s leaf (table-widened t.root.items wide t.leaves.items t.pool kept.table same few) (same s ∙ none) within is g ∙ look-widened t.root.items wide t.pool same g),
  rw (has_slot-none t.root.items t.leaves.items t.pool s kept.table none) pushed,
  refl,
  ap (λ p. p.capacity) taken,
  λ still. let l = kept.table.taken in omega (arith, l, left),
)

-- whether a root slot has a leaf, by the list of leaves
pub has_slot-root : (t : Levels) (s : ℕ) (v : Option ℕ) → IsLevels t → get_or t.root.items s None ≡ v → is_some v ≡ has_slot t.leaves.items s
has_slot-root t s None kept is = sym (has_slot-none t.root.items t.leaves.items t.pool s kept.table is)
has_slot-root t s (Some leaf) kept is = sym (has_slot-led t.root.items t.leaves.items t.pool s leaf kept.table is)

either : (a b : Bool) → cond a true b ≡ (a || b)
either true b = refl
either false b = refl

-- the two tests of `fits`, one after another
pub fits-by : (t : Levels) (number g : ℕ) (v : Option ℕ) (led : Bool) → IsLevels t → number ≡ g → get_or t.root.items (number / 512) None ≡ v → is_some v ≡ led → cond led true (nat_lt (length t.leaves.items) t.pool.capacity) ≡ fits (table_of t) g
fits-by t number g v led kept is there told = rw (← is, ← has_slot-root t (number / 512) v kept there, told) (either led _)

pub new-value : (root : List (Option ℕ)) (leaves : List ℕ) (pool : Pool) (roots capacity : ℕ) → ((s : ℕ) → get_or root s None ≡ None) → leaves ≡ [] → pool.capacity ≡ capacity → ◌≡◌ {A = Table} (record { mapped = mapped_by root pool; leaves = leaves; roots = roots; capacity = pool.capacity }) (table.new_table roots capacity)
new-value root leaves pool roots capacity none empty same = same-table _ _ (mapped-new root pool none) empty refl same
