-- What the two levels have at a guest frame after each change.
use Rattle.std.proofs.Common.{ℕ, ◌≡◌, ◌<◌, ◌+◌, ◌*◌, ◌/◌, ◌%◌, List, get_or, get_or-set_same, get_or-set_other, Option, Some, None, refl, sym, ap, ◌∙◌, arith}
use Rattle.kc_vms.specs.TablePool.{Pool, IsPool, entry_at, with_cell}
use Rattle.kc_vms.specs.Levels.{IsTable, look_up, entry_under}

-- two guest frames with the same place in the tables are the same
places-differ : (l k a b : ℕ) → a < 512 → b < 512 → l * 512 + a ≡ k * 512 + b → (l ≡ k) × (a ≡ b)
places-differ l k a b under_a under_b same = (omega arith, omega arith)

-- slots with the same leaf are the same
pub led-same : (root : List (Option ℕ)) (leaves : List ℕ) (pool : Pool) (s t leaf : ℕ) → IsTable root leaves pool → get_or root s None ≡ Some leaf → get_or root t None ≡ Some leaf → s ≡ t
led-same root leaves pool s t leaf table at_s at_t = sym ((table.led s leaf).0 at_s).1 ∙ ((table.led t leaf).0 at_t).1

pub led-taken : (root : List (Option ℕ)) (leaves : List ℕ) (pool : Pool) (s leaf : ℕ) → IsTable root leaves pool → get_or root s None ≡ Some leaf → leaf < pool.taken
led-taken root leaves pool s leaf table is = rw table.taken ((table.led s leaf).0 is).0

entered-under : (leaf place : ℕ) (e : Option ℕ) (pool : Pool) (at : ℕ) → IsPool pool → leaf < pool.taken → at < 512 → entry_at (with_cell pool leaf at e) leaf at ≡ e
entered-under leaf place e pool at is taken within = get_or-set_same pool.entries (leaf * 512 + at) e None (let l = is.long in let w = is.within in omega (arith, l, w))

pub look-same : (root : List (Option ℕ)) (leaves : List ℕ) (pool : Pool) (g leaf : ℕ) (e : Option ℕ) → IsTable root leaves pool → get_or root (g / 512) None ≡ Some leaf → look_up root (with_cell pool leaf (g % 512) e) g ≡ e
look-same root leaves pool g leaf e table is = rw is (entered-under leaf 0 e pool (g % 512) table.whole (led-taken root leaves pool (g / 512) leaf table is) (omega arith))

look-other-by : (root : List (Option ℕ)) (leaves : List ℕ) (pool : Pool) (g q leaf : ℕ) (e : Option ℕ) → IsTable root leaves pool → get_or root (g / 512) None ≡ Some leaf → (q ≡ g → ⊥) → (v : Option ℕ) → get_or root (q / 512) None ≡ v → entry_under v (with_cell pool leaf (g % 512) e) (q % 512) ≡ entry_under v pool (q % 512)
look-other-by root leaves pool g q leaf e table is other None there = refl
look-other-by root leaves pool g q leaf e table is other (Some k) there = get_or-set_other pool.entries (leaf * 512 + g % 512) (k * 512 + q % 512) e None (λ same.
    let places = places-differ k leaf (q % 512) (g % 512) (omega arith) (omega arith) same in
    let there_leaf : get_or root (q / 512) None ≡ Some leaf = there ∙ ap Some places.0 in
    let slots = led-same root leaves pool (q / 512) (g / 512) leaf table there_leaf is in
    let p = places.1 in other (omega (arith, slots, p)))

pub look-other : (root : List (Option ℕ)) (leaves : List ℕ) (pool : Pool) (g q leaf : ℕ) (e : Option ℕ) → IsTable root leaves pool → get_or root (g / 512) None ≡ Some leaf → (q ≡ g → ⊥) → look_up root (with_cell pool leaf (g % 512) e) q ≡ look_up root pool q
look-other root leaves pool g q leaf e table is other = look-other-by root leaves pool g q leaf e table is other (get_or root (q / 512) None) refl
