-- The page that memory holds.
use Rattle.std.proofs.Common.{◌≡◌, ◌-◌, ◌+◌, ◌++◌, ◌∷◌, ◌≤◌, ℕ, Bool, true, false, List, [], length, take, drop, replicate, refl, sym, ap, ap₂, ◌∙◌, arith}
use Rattle.std.specs.Prelude.{if◌then◌else◌}
use Rattle.std.proofs.lemmas.List.{take-replicate, drop-replicate, replicate-append-replicate, length-append, length-map, length-take, length-drop, length-replicate}
use Rattle.kc_model.specs.Bytes.{as_bytes}
use Rattle.kc_model.specs.State.{zero_page, overwritten}
use Rattle.kc_model.proofs.States.ZeroPage.{zero_page-replicate, length-zero_page}
use Rattle.kc_page.specs.PageBytes.{Room, Content, filled_from, IsHeld, zeroed_from}

-- zeroing the end of a page of zero bytes changes nothing
pub zeroed_zero_page : (n : ℕ) → n ≤ 4096 → zero_page ≡ zeroed_from zero_page n
zeroed_zero_page n le =
    let all : n + (4096 - n) ≡ 4096 = omega arith in
    rw zero_page-replicate (sym (ap (λ (l : List ℕ). l ++ replicate (4096 - n) 0) (take-replicate n 4096 0 le) ∙ replicate-append-replicate n (4096 - n) 0 ∙ ap (λ k. replicate k 0) all))

-- writing zeros over a page of zero bytes changes nothing
pub zeros_over_zeros : (n : ℕ) (bytes : List ℕ) → bytes ≡ replicate (length bytes) 0 → as_bytes bytes ≡ bytes → n + length bytes ≤ 4096 → zero_page ≡ overwritten zero_page n bytes
zeros_over_zeros n bytes zeros same le =
    let m = length bytes in
    let front : take n zero_page ≡ replicate n 0 = ap (take n) zero_page-replicate ∙ take-replicate n 4096 0 (omega (arith, le)) in
    let back : drop (n + m) zero_page ≡ replicate (4096 - (n + m)) 0 = ap (drop (n + m)) zero_page-replicate ∙ drop-replicate (n + m) 4096 0 in
    let begun : take n zero_page ++ as_bytes bytes ≡ replicate (n + m) 0 = ap₂ ◌++◌ front (same ∙ zeros) ∙ replicate-append-replicate n m 0 in
    let all : n + m + (4096 - (n + m)) ≡ 4096 = omega (arith, le) in
    zero_page-replicate ∙ sym (ap₂ ◌++◌ begun back ∙ replicate-append-replicate (n + m) (4096 - (n + m)) 0 ∙ ap (λ k. replicate k 0) all)

-- filling empty memory
pub filled : (n : ℕ) (old new : List ℕ) (ok : Bool) → length old ≡ n → n ≡ 0 → ok ≡ true → new ≡ (if ok then take 4096 old ++ replicate (4096 - n) 0 else old) → new ≡ zero_page
filled n [] new ok size none done is =
    let all : new ≡ replicate (4096 - n) 0 = rw done at is in
    all ∙ ap (λ k. replicate (4096 - k) 0) none ∙ sym zero_page-replicate
filled n (x ∷ old) new ok size none done is = absurd (omega (arith, size, none))

-- memory that is filled holds its own bytes
pub filled_as : (bytes : List ℕ) → length bytes ≡ 4096 → filled_from bytes ≡ bytes
filled_as [] whole = absurd (omega (arith, whole))
filled_as (byte ∷ bytes) whole = refl

pub held_whole : (is_zero is_reserved : Bool) (memory : Room) → IsHeld is_zero is_reserved memory → length (filled_from memory.bytes) ≡ 4096
held_whole true is_reserved memory held = ap length (held.zeros refl) ∙ length-zero_page
held_whole false is_reserved memory held = let whole = held.whole refl in ap length (filled_as memory.bytes whole) ∙ whole

-- memory without room is that of a page that is known to be zero
pub roomless : (is_zero is_reserved : Bool) (memory : Room) → IsHeld is_zero is_reserved memory → memory.has_room ≡ false → filled_from memory.bytes ≡ zero_page
roomless true is_reserved memory held none = held.zeros refl
roomless false is_reserved memory held none = let some = sym none ∙ held.filled refl in cc

pub room-is : {a b : Room} → a.bytes ≡ b.bytes → a.has_room ≡ b.has_room → a ≡ b
room-is bytes room = λ i. record { bytes = bytes i; has_room = room i }

pub content-is : {a b : Content} → a.bytes ≡ b.bytes → a.is_reserved ≡ b.is_reserved → a ≡ b
content-is bytes reserved = λ i. record { bytes = bytes i; is_reserved = reserved i }

pub overwritten_whole : (page : List ℕ) (n : ℕ) (bytes : List ℕ) → length page ≡ 4096 → n + length bytes ≤ 4096 → length (overwritten page n bytes) ≡ 4096
overwritten_whole page n bytes whole within = simp (length-append, length-map, length-take, length-drop) (omega (arith, whole, within))

pub zeroed_whole : (page : List ℕ) (n : ℕ) → length page ≡ 4096 → n ≤ 4096 → length (zeroed_from page n) ≡ 4096
zeroed_whole page n whole within = simp (length-append, length-take, length-replicate) (omega (arith, whole, within))

-- a page zeroed from its first byte on
pub zeroed_all : (old new : List ℕ) → new ≡ zeroed_from old 0 → length old ≡ 4096 → filled_from new ≡ zero_page
zeroed_all old new is whole =
    let zeros : new ≡ zero_page = is ∙ sym zero_page-replicate in
    filled_as new (ap length zeros ∙ length-zero_page) ∙ zeros

-- fresh memory counts as a page of zeros
pub fresh : (bytes : List ℕ) → length bytes ≡ 0 → filled_from bytes ≡ zero_page
fresh [] none = refl
fresh (byte ∷ bytes) none = absurd (omega (arith, none))
