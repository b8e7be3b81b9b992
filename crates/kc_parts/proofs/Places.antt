-- A frame and its place.
use Rattle.std.proofs.Common.{ℕ, zero, suc, ◌≡◌, ◌≢◌, ◌<◌, ◌≤◌, Bool, true, false, cond, nat_eq, eq-eqb, List, [], ◌∷◌, length, get_or, refl, ap, arith}
use Rattle.std.proofs.lemmas.Bool.{ne_eqb}
use Rattle.kc_parts.specs.Parts.{IsRising, place_of, is_filled}

pub rising-rest : (n : ℕ) (ns : List ℕ) → IsRising (n ∷ ns) → IsRising ns
rising-rest n ns rising i j less within = rising (suc i) (suc j) (omega (arith, less)) (omega (arith, within))

pub place-found : (ns : List ℕ) (i f : ℕ) → IsRising ns → i < length ns → get_or ns i 0 ≡ f → place_of ns f ≡ i
place-found [] i f rising within is = absurd (omega (arith, within))
place-found (n ∷ ns) zero f rising within is = rw (eq-eqb n f is) refl
place-found (n ∷ ns) (suc i) f rising within is =
    let below : n < get_or ns i 0 = rising 0 (suc i) (omega arith) within in
    rw (ne_eqb n f (λ e. omega (arith, below, is, e))) (ap suc (place-found ns i f (rising-rest n ns rising) (omega (arith, within)) is))

pub place-none : (ns : List ℕ) (f : ℕ) → ((k : ℕ) → k < length ns → get_or ns k 0 ≢ f) → place_of ns f ≡ length ns
place-none [] f none = refl
place-none (n ∷ ns) f none = rw (ne_eqb n f (none 0 (omega arith))) (ap suc (place-none ns f (λ k within. none (suc k) (omega (arith, within)))))

-- the flag at a frame's place says whether it is filled
pub filled-at : (ns : List ℕ) (hs : List Bool) (f : ℕ) (d b : Bool) → place_of ns f < length hs → length hs ≡ length ns → get_or hs (place_of ns f) d ≡ b → is_filled ns hs f ≡ b
filled-at [] [] f d b within same is = absurd (omega (arith, within))
filled-at [] (h ∷ hs) f d b within same is = absurd (omega (arith, same))
filled-at (n ∷ ns) [] f d b within same is = absurd (omega (arith, within))
filled-at (n ∷ ns) (h ∷ hs) f d b within same is = by_first (nat_eq n f) within is (λ low later. filled-at ns hs f d b low (omega (arith, same)) later)
  where
    by_first : (first : Bool) → cond first 0 (suc (place_of ns f)) < suc (length hs) → get_or (h ∷ hs) (cond first 0 (suc (place_of ns f))) d ≡ b
        → (place_of ns f < length hs → get_or hs (place_of ns f) d ≡ b → is_filled ns hs f ≡ b) → cond first h (is_filled ns hs f) ≡ b
    by_first true low is rest = is
    by_first false low is rest = rest (omega (arith, low)) is

pub filled-nowhere : (ns : List ℕ) (hs : List Bool) (f : ℕ) → length hs ≤ place_of ns f → length hs ≡ length ns → is_filled ns hs f ≡ false
filled-nowhere [] hs f le same = refl
filled-nowhere (n ∷ ns) [] f le same = refl
filled-nowhere (n ∷ ns) (h ∷ hs) f le same = by_first (nat_eq n f) le (λ later. filled-nowhere ns hs f later (omega (arith, same)))
  where
    by_first : (first : Bool) → suc (length hs) ≤ cond first 0 (suc (place_of ns f)) → (length hs ≤ place_of ns f → is_filled ns hs f ≡ false) → cond first h (is_filled ns hs f) ≡ false
    by_first true le rest = absurd (omega (arith, le))
    by_first false le rest = rest (omega (arith, le))
