-- Lines of one kind, one after another.
use Rattle.std.proofs.Common.{ℕ, ◌≡◌, ◌<◌, ◌≤◌, ◌+◌, List, [], ◌∷◌, ◌++◌, length, All, refl, sym, ap, ◌∙◌, append_assoc, arith, length-append}
use Rattle.std.specs.List.{flat_map}
use Rattle.std.proofs.lemmas.List.{append-nil}
use Rattle.std.proofs.lemmas.Grind.{flat_map-append}
use Rattle.kc_dump_text.specs.DumpText.{line}
use Rattle.kc_state_text.specs.Refused.{HasNone}
use Rattle.kc_state_text.specs.Reading.{BeginsAs, AreRead, Lacks}
use Rattle.kc_state_text.proofs.Lines.{AreWords, line-same, line-long}
use Rattle.kc_state_text.proofs.Spelled.{head-of, tail-of}
use Rattle.kc_state_text.proofs.Gathered.{all-more, left-of}

-- none yet
pub none-read : {X : Type 0} (Is : X → Type 0) (spelled : X → List ℕ) (text : List ℕ) → AreRead Is spelled 0 text [] text
none-read Is spelled text = record { many = refl; each = λ k d lt. absurd (omega (arith, lt)); whole = refl }

-- one more
pub read-more : {X : Type 0} (Is : X → Type 0) (spelled : X → List ℕ) (n : ℕ) (text : List ℕ) (xs : List X) (rest : List ℕ) (x : X) (more : List ℕ) → AreRead Is spelled n text xs rest → BeginsAs Is spelled rest x more
    → AreRead Is spelled (n + 1) text (xs ++ x ∷ []) more
read-more Is spelled n text xs rest x more read next = record {
  many = (let l = length-append xs (x ∷ []) in let m = read.many in omega (arith, l, m));
  each = all-more Is xs x read.each next.is;
  whole = read.whole ∙ ap (λ l. flat_map spelled xs ++ l) next.whole ∙ sym (append_assoc (flat_map spelled xs) (spelled x) more)
      ∙ ap (λ l. l ++ more) (ap (λ l. flat_map spelled xs ++ l) (sym (append-nil (spelled x))) ∙ sym (flat_map-append spelled xs (x ∷ [])));
}

-- none more
pub read-lacks : {X : Type 0} (Is : X → Type 0) (spelled : X → List ℕ) (first count n : ℕ) (text : List ℕ) (xs : List X) (rest : List ℕ) → n < count → AreRead Is spelled n text xs rest → HasNone Is spelled rest
    → Lacks Is spelled first count text (first + n)
read-lacks Is spelled first count n text xs rest few read none = record {
  xs = xs;
  rest = rest;
  read = record { many = refl; each = read.each; whole = read.whole };
  few = (let m = read.many in omega (arith, m, few));
  none = none;
  number = (let m = read.many in omega (arith, m));
}

module _ {X : Type 0} (Is : X → Type 0) (name : List ℕ) (spelled : X → List (List ℕ)) where
  -- there are at least as many bytes as lines
  pub many-lines : (xs : List X) → length xs ≤ length (flat_map (λ x. line name (spelled x)) xs)
  many-lines [] = omega arith
  many-lines (x ∷ xs) =
      let rest = many-lines xs in
      let some = line-long name (spelled x) in
      let both = length-append (line name (spelled x)) (flat_map (λ x. line name (spelled x)) xs) in
      omega (arith, rest, some, both)

  pub lines-fit : (n : ℕ) (text : List ℕ) (xs : List X) (rest : List ℕ) → AreRead Is (λ x. line name (spelled x)) n text xs rest → n + length rest ≤ length text
  lines-fit n text xs rest read =
      let m = read.many in
      let l = many-lines xs in
      let a = length-append (flat_map (λ x. line name (spelled x)) xs) rest in
      let w = ap length read.whole in
      omega (arith, m, l, a, w)

  module _ (words : (x : X) → Is x → AreWords (name ∷ spelled x)) (same : (x y : X) → Is x → Is y → spelled x ≡ spelled y → x ≡ y) where
    pub first-same : (x y : X) (c d : List ℕ) → Is x → Is y → line name (spelled x) ++ c ≡ line name (spelled y) ++ d → (x ≡ y) × (c ≡ d)
    first-same x y c d a b e = let both = line-same name name (spelled x) (spelled y) c d (words x a) (words y b) e in (same x y a b (let w : spelled x ≡ spelled y = cc (both.0) in w), both.1)

    -- as many first lines of one text are the same lines
    pub lines-same : (xs ys : List X) (c d : List ℕ) → All Is xs → All Is ys → length xs ≡ length ys → flat_map (λ x. line name (spelled x)) xs ++ c ≡ flat_map (λ x. line name (spelled x)) ys ++ d → (xs ≡ ys) × (c ≡ d)
    lines-same [] [] c d a b long e = (refl, e)
    lines-same [] (y ∷ ys) c d a b long e = absurd (omega (arith, long))
    lines-same (x ∷ xs) [] c d a b long e = absurd (omega (arith, long))
    lines-same (x ∷ xs) (y ∷ ys) c d a b long e =
        let first = first-same x y (flat_map (λ x. line name (spelled x)) xs ++ c) (flat_map (λ x. line name (spelled x)) ys ++ d) (head-of Is x xs a) (head-of Is y ys b)
        (sym (append_assoc (line name (spelled x)) (flat_map (λ x. line name (spelled x)) xs) c) ∙ e ∙ append_assoc (line name (spelled y)) (flat_map (λ x. line name (spelled x)) ys) d) in
        let rest = lines-same xs ys c d (tail-of Is x xs a) (tail-of Is y ys b) (omega (arith, long)) first.1 in
        (ap (λ z. z ∷ xs) first.0 ∙ ap (λ l. y ∷ l) rest.0, rest.1)

    -- if fewer lines come first, another one follows
    pub lines-go-on : (xs ys : List X) (c d : List ℕ) → All Is xs → All Is ys → length xs < length ys → flat_map (λ x. line name (spelled x)) xs ++ c ≡ flat_map (λ x. line name (spelled x)) ys ++ d
        → HasNone Is (λ x. line name (spelled x)) c → ⊥
    lines-go-on xs ys c d a b few e none =
        let r = left-of Is (λ x. line name (spelled x)) (λ x y c d p q e. (first-same x y c d p q e).1) xs ys c d a b (omega (arith, few)) e in
        by_rest r.rest r.each r.whole (let l = r.long in omega (arith, l, few))
      where
        by_rest : (left : List X) → All Is left → c ≡ flat_map (λ x. line name (spelled x)) left ++ d → 0 < length left → ⊥
        by_rest [] each whole some = omega (arith, some)
        by_rest (z ∷ zs) each whole some =
            none z (flat_map (λ x. line name (spelled x)) zs ++ d) (head-of Is z zs each) (whole ∙ append_assoc (line name (spelled z)) (flat_map (λ x. line name (spelled x)) zs) d)
