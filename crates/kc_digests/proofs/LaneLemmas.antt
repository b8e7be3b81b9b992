-- Facts of the lanes of a vector.
use Rattle.std.proofs.Common.{◌≡◌, ℕ, zero, suc, ◌<◌, ◌≤◌, ◌+◌, ◌-◌, ◌*◌, ◌/◌, ◌%◌, ◌^◌, ◌∙◌, List, [], length, drop, get_or, replicate, set, slice_index, bit_or, arith, inl, inr, refl, sym, ap, ap₂, subst, take, length-take-le, get_or-drop, get_or-take}
use Rattle.std.proofs.lemmas.Bool.{cases_lt}
use Rattle.std.proofs.lemmas.Simd.{get_or-replicate, get_or-zip2, length-replicate, length-zip2}
use Rattle.std.specs.Borrow.{Bor}
use Rattle.std.specs.Int.{w32, rotate_right}
use Rattle.std.specs.Simd.Lanes.{zip2}
use Rattle.std.specs.Prelude.{slice_set}
use Rattle.std.proofs.lemmas.List.{get_or-map, get_or-set_other, get_or-set_same, map-set}
use Rattle.sha2.specs.Sha256.{word_at}
use Rattle.kc_digests.specs.Lanes.{block, lane, part_of}

-- what is true of each of four
pub below_four : (P : ℕ → Type 0) → P 0 → P 1 → P 2 → P 3 → (j : ℕ) → j < 4 → P j
below_four P p0 p1 p2 p3 zero h = p0
below_four P p0 p1 p2 p3 (suc zero) h = p1
below_four P p0 p1 p2 p3 (suc (suc zero)) h = p2
below_four P p0 p1 p2 p3 (suc (suc (suc zero))) h = p3
below_four P p0 p1 p2 p3 (suc (suc (suc (suc n)))) h = absurd (omega arith)

-- lane j of an operator of two vectors
pub slice_index-zip2 : (f : ℕ → ℕ → ℕ) (n : ℕ) (x y : List ℕ) (j : ℕ) → length x ≡ n → length y ≡ n → j < n → slice_index (zip2 f x y) j ≡ f (slice_index x j) (slice_index y j)
slice_index-zip2 f n x y j left right low = get_or-zip2 f x y j 0 0 0 (omega arith) (omega arith)

-- the same if the second is a number in each lane
pub slice_index-zip2_splat : (f : ℕ → ℕ → ℕ) (n : ℕ) (x : List ℕ) (k j : ℕ) → length x ≡ n → j < n → slice_index (zip2 f x (replicate n k)) j ≡ f (slice_index x j) k
slice_index-zip2_splat f n x k j same low =
    slice_index-zip2 f n x (replicate n k) j same (length-replicate n k) low ∙ ap (f (slice_index x j)) (get_or-replicate n j k 0 low)

-- two shifts of each lane and an or are a rotation
pub shifts_rotate : (k : ℕ) → 0 < k → k < 32 → (n : ℕ) (x : List ℕ) → length x ≡ n → (j : ℕ) → j < n
    → slice_index (zip2 bit_or (zip2 (λ x n. x / 2 ^ n) x (replicate n k)) (zip2 (λ x n. x * 2 ^ n % 2 ^ 32) x (replicate n (32 - k)))) j
    ≡ rotate_right w32 (slice_index x j) k
shifts_rotate k low high n x same j below =
    let right : k % 32 ≡ k = omega arith in
    let left : (32 - k) % 32 ≡ 32 - k = omega arith in
    let long : (f : ℕ → ℕ → ℕ) (m : ℕ) → length (zip2 f x (replicate n m)) ≡ n = λ f m. length-zip2 f x (replicate n m) (same ∙ sym (length-replicate n m)) ∙ same in
    slice_index-zip2 bit_or n _ _ j (long _ k) (long _ (32 - k)) below
    ∙ ap₂ bit_or (slice_index-zip2_splat (λ x n. x / 2 ^ n) n x k j same below) (slice_index-zip2_splat (λ x n. x * 2 ^ n % 2 ^ 32) n x (32 - k) j same below)
    ∙ rw (right, left) refl

-- word i of a block
block_index : (bytes : List ℕ) (at k i : ℕ) → k < 64 → at + k ≡ i → slice_index (block at bytes) k ≡ slice_index bytes i
block_index bytes at k i low is = get_or-take 64 (drop at bytes) k 0 low ∙ get_or-drop at bytes k 0 ∙ ap (slice_index bytes) is

pub word_at-block : (bytes : List ℕ) (at k : ℕ) → k + 4 ≤ 64 → word_at (block at bytes) k ≡ word_at bytes (at + k)
word_at-block bytes at k low = rw (
  block_index bytes at k (at + k) (omega arith) refl,
  block_index bytes at (k + 1) (at + k + 1) (omega arith) (omega arith),
  block_index bytes at (k + 2) (at + k + 2) (omega arith) (omega arith),
  block_index bytes at (k + 3) (at + k + 3) (omega arith) (omega arith),
) refl

-- what is true of the first elements, and of what is written at the next place, is true of one more
pub written-next : {X : Type 0} (P : ℕ → X → Type 0) (xs : List X) (i : ℕ) (x none : X) → i < length xs
    → ((j : ℕ) → j < i → P j (get_or xs j none)) → P i x → (j : ℕ) → j < i + 1 → P j (get_or (set xs i x) j none)
written-next P xs i x none room before here j low =
    elim (cases_lt j i) [
      | inl a ↦ subst (P j) (sym (get_or-set_other xs i j x none (omega arith))) (before j a)
      | inr b ↦
          let at : i ≡ j = omega arith in
          subst (λ k. P k (get_or (set xs i x) k none)) at (subst (P i) (sym (get_or-set_same xs i x none room)) here)
    ]

-- word k of a lane
pub slice_index-lane : {V : Type 0} (word : V → ℕ → ℕ) (w : List V) (k j : ℕ) (none : V) → k < length w → slice_index (lane word j w) k ≡ word (get_or w k none) j
slice_index-lane word w k j none low = get_or-map (λ x. word x j) w k none 0 low

-- a vector written at k writes each lane
pub lane-set : {V : Type 0} (word : V → ℕ → ℕ) (w : List V) (k : ℕ) (x : V) (j : ℕ) → lane word j (slice_set w k x) ≡ slice_set (lane word j w) k (word x j)
lane-set word w k x j = map-set (λ y. word y j) w k x

-- the same message in each place
pub part_of-repeated : (message : Bor (List ℕ)) (n most j : ℕ) → j < n → n ≤ most → part_of j (take n (replicate most message)) ≡ message.now
part_of-repeated message n most j low fits =
    let long = length-replicate most message in
    get_or-map (λ part. part.now) (take n (replicate most message)) j message [] (omega (arith, length-take-le n (replicate most message) (omega (arith, long, fits))))
    ∙ ap (λ part. part.now) (get_or-take n (replicate most message) j message low ∙ get_or-replicate most j message message (omega (arith, low, fits)))
