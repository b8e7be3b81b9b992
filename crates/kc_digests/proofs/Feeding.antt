-- The hash value of a message that is fed in whole blocks, and ended by its last bytes and its padding.
use Rattle.std.proofs.Common.{◌≡◌, ℕ, zero, suc, ◌+◌, ◌-◌, ◌*◌, ◌/◌, ◌%◌, ◌^◌, ◌<◌, ◌≤◌, List, ◌++◌, ◌∷◌, length, get_or, map, take, drop, replicate, set, slice_index, refl, sym, ap, ap₂, ◌∙◌, arith, append_assoc, length-append, length-drop}
use Rattle.std.proofs.lemmas.List.{drop-drop, drop_at, drop-replicate, length-replicate, set_at, take-append-drop, take-replicate, take_rest}
use Rattle.std.proofs.lemmas.Slice.{take-put_mid}
use Rattle.std.proofs.Math.ListN as list
use Rattle.std.proofs.Math.Seq.{take-append-add}
use Rattle.std.specs.Int.{to_be_bytes, w64}
use borrow.Rule.Slice.PartMut.{put_mid}
use Rattle.sha2.specs.Sha256.{compress, digest_bytes, hash_after, initial_hash_256, padded_message, padding, sha256}
use Rattle.sha2.proofs.Absorbing256.{hash_after-append, hash_after_next}
use Rattle.kc_digests.specs.declared.measure.MeasureFour.{MeasureFour}
use Rattle.kc_digests.specs.Lanes.{of_four, state_lane}
use Rattle.kc_digests.specs.MeasureFour.{LaneWasFed}
use Rattle.kc_digests.proofs.LaneLemmas.{below_four}

-- what is done to each of four lists
pub of_four-map : (f : List ℕ → List ℕ) (a b c d : List ℕ) (j : ℕ) → j < 4 → of_four (f a) (f b) (f c) (f d) j ≡ f (of_four a b c d j)
of_four-map f a b c d = below_four _ refl refl refl refl

-- a fact of each of four lists
pub of_four-each : (P : List ℕ → Type 0) (a b c d : List ℕ) → P a → P b → P c → P d → (j : ℕ) → j < 4 → P (of_four a b c d j)
of_four-each P a b c d = below_four (λ j. P (of_four a b c d j))

-- blocks that follow a message of whole blocks
hash_after_more : (ini m p : List ℕ) (k : ℕ) → length m % 64 ≡ 0 → hash_after (hash_after ini m (length m / 64)) p k ≡ hash_after ini (m ++ p) (length m / 64 + k)
unfolding hash_after
hash_after_more ini m p zero whole =
    let at : length m / 64 + 0 ≡ length m / 64 = omega arith in
    rw at (sym (hash_after-append ini m p (length m / 64) (omega (arith, whole))))
hash_after_more ini m p (suc k) whole =
    let q : ℕ = length m / 64 in
    let next : q + suc k ≡ (q + k) + 1 = omega arith in
    let start : (q + k) * 64 ≡ length m + k * 64 = omega (arith, whole) in
    let block = ap (λ n. drop n (m ++ p)) start ∙ sym (drop-drop (k * 64) (length m) (m ++ p)) ∙ ap (drop (k * 64)) (drop_at m p (length m) refl) in
    ap₂ compress (hash_after_more ini m p k whole) (sym (ap (take 64) block)) ∙ sym (hash_after_next ini (m ++ p) (q + k)) ∙ ap (hash_after ini (m ++ p)) (sym next)

-- more whole blocks are fed
pub fed-more : (measure next : MeasureFour) (j : ℕ) (m p : List ℕ) → length p % 64 ≡ 0 → next.len ≡ (measure.len + length p) % 2 ^ 64
    → state_lane slice_index j next.state ≡ hash_after (state_lane slice_index j measure.state) p (length p / 64) → LaneWasFed measure j m → LaneWasFed next j (m ++ p)
fed-more measure next j m p whole count hash fed =
    let len = length-append m p in
    let before = fed.whole in
    let counted = fed.count in
    let blocks : length (m ++ p) / 64 ≡ length m / 64 + length p / 64 = omega arith in
    record {
      count = omega arith;
      whole = omega arith;
      hash = hash
          ∙ ap (λ (h : List ℕ). hash_after h p (length p / 64)) fed.hash
          ∙ hash_after_more initial_hash_256 m p (length p / 64) before
          ∙ ap (hash_after initial_hash_256 (m ++ p)) (sym blocks);
    }

-- the padding reads a length modulo 2^64
padding-modulo : (n k : ℕ) → k ≡ n % 2 ^ 64 → padding k ≡ padding n
padding-modulo n k is =
    let short : k % 64 ≡ n % 64 = omega arith in
    let bits : k * 8 % 2 ^ 64 ≡ n * 8 % 2 ^ 64 = omega arith in
    rw (short, bits) refl

-- the last bytes of a message and its padding, as they are written into zeros
pub last-blocks : (tail front bytes : List ℕ) (len end n k : ℕ) → front ≡ tail → bytes ≡ to_be_bytes w64 (len * 8 % 2 ^ 64)
    → end ≡ length tail + 9 + (119 - length tail) % 64 → n ≡ end → length tail ≡ len % 64
    → take n (put_mid (end - 8) k (set (front ++ drop (length tail) (replicate 128 0)) (length tail) 0x80) bytes) ≡ tail ++ padding len
last-blocks tail front bytes len end n k same is to at short =
    let t : ℕ = length tail in
    let zeros : ℕ = (119 - len % 64) % 64 in
    let rest : List ℕ = replicate (127 - t) 0 in
    let fits : t + 9 + zeros ≤ 128 = omega (arith, short) in
    let eight : length bytes ≡ 8 = ap length is in
    let left : 128 - t ≡ suc (127 - t) = omega (arith, short) in
    let before : end - 8 ≡ t + suc zeros = rw (← short) (omega (arith, to)) in
    let zeroed : drop t (replicate 128 0) ≡ 0 ∷ rest = drop-replicate {X = ℕ} t 128 0 ∙ ap (λ (i : ℕ). replicate {A = ℕ} i 0) left in
    let written : set (front ++ drop t (replicate 128 0)) t 0x80 ≡ tail ++ 0x80 ∷ rest = rw (same, zeroed) (set_at tail 0 rest 0x80 t refl) in
    let room : length (tail ++ 0x80 ∷ rest) ≡ t + suc (127 - t) = length-append tail (0x80 ∷ rest) ∙ ap (λ (i : ℕ). t + suc i) (length-replicate {A = ℕ} (127 - t) 0) in
    let head : take (end - 8) (tail ++ 0x80 ∷ rest) ≡ tail ++ 0x80 ∷ replicate zeros 0 =
    ap (λ (i : ℕ). take i (tail ++ 0x80 ∷ rest)) before ∙ take-append-add tail (0x80 ∷ rest) (suc zeros)
    ∙ ap (λ (xs : List ℕ). tail ++ 0x80 ∷ xs) (take-replicate {X = ℕ} zeros (127 - t) 0 (omega (arith, fits))) in
    rw written (take-put_mid (end - 8) k (tail ++ 0x80 ∷ rest) bytes n (omega (arith, at, eight, before)) (omega (arith, room, before, fits)))
    ∙ ap₂ ◌++◌ head is
    ∙ append_assoc tail (0x80 ∷ replicate zeros 0) (to_be_bytes w64 (len * 8 % 2 ^ 64))

-- the digest of a message whose last part and padding were fed
pub digest-ended : (measure : MeasureFour) (j : ℕ) (m part last : List ℕ) (whole len : ℕ) → last ≡ drop whole part ++ padding len → len ≡ length (m ++ part) % 2 ^ 64
    → LaneWasFed measure j ((m ++ take whole part) ++ last) → digest_bytes (state_lane slice_index j measure.state) 8 ≡ sha256 (m ++ part)
unfolding sha256
digest-ended measure j m part last whole len ends is fed =
    let message : (m ++ take whole part) ++ drop whole part ≡ m ++ part =
    append_assoc m (take whole part) (drop whole part) ∙ ap (λ (p : List ℕ). m ++ p) (take-append-drop whole part) in
    let padded : (m ++ take whole part) ++ last ≡ padded_message (m ++ part) =
    ap (λ (end : List ℕ). (m ++ take whole part) ++ end) ends
    ∙ sym (append_assoc (m ++ take whole part) (drop whole part) (padding len))
    ∙ ap₂ ◌++◌ message (padding-modulo (length (m ++ part)) len is) in
    ap (λ (h : List ℕ). digest_bytes h 8) (fed.hash ∙ ap (λ (xs : List ℕ). hash_after initial_hash_256 xs (length xs / 64)) padded)

-- the parts of each message, by their numbers
pub of_four-parts : {X : Type 0} (now : X → List ℕ) (xs : List X) (none : X) (j : ℕ) → j < 4
    → of_four (now (get_or xs 0 none)) (now (get_or xs 1 none)) (now (get_or xs 2 none)) (now (get_or xs 3 none)) j ≡ get_or (map now xs) j (now none)
of_four-parts now xs none = below_four _ (at 0) (at 1) (at 2) (at 3)
  where
    at : (i : ℕ) → now (get_or xs i none) ≡ get_or (map now xs) i (now none)
    at i = sym (list.get_or-map now xs i none)

-- the last blocks of a part: the bytes after its whole blocks, and the padding
pub ended-part : (part blocks : List ℕ) (n whole end len : ℕ)
    → (length (take (length part - whole) (drop whole part)) ≡ len % 64
    → take (length (take (length part - whole) (drop whole part)) + 9 + (119 - length (take (length part - whole) (drop whole part))) % 64) blocks
    ≡ take (length part - whole) (drop whole part) ++ padding len)
    → end ≡ n - whole + 9 + (119 - (n - whole)) % 64 → n - whole ≡ len % 64 → length part ≡ n → take end blocks ≡ drop whole part ++ padding len
ended-part part blocks n whole end len ended to short same =
    let tail = take_rest part whole in
    let left : length (drop whole part) ≡ n - whole = length-drop whole part ∙ ap (λ (k : ℕ). k - whole) same in
    rw (to, ← left) (rw tail at ended (left ∙ short))

-- the digest of a page, whose blocks and then its padding were fed
pub page-digest : (page last : List ℕ) → length page ≡ 4096 → take 64 last ≡ padding 4096
    → digest_bytes (hash_after (hash_after initial_hash_256 page 64) last 1) 8 ≡ sha256 page
unfolding sha256 hash_after
page-digest page last same ends =
    let whole : length page % 64 ≡ 0 = omega (arith, same) in
    let blocks : length page / 64 ≡ 64 = omega (arith, same) in
    let padded : padding 4096 ≡ padding (length page) = ap padding (sym same) in
    let both = length-append page (padding (length page)) in
    let count : length page / 64 + 1 ≡ length (page ++ padding (length page)) / 64 = omega (arith, both, same, ap length (sym padded)) in
    ap (λ (h : List ℕ). digest_bytes h 8) (
    ap₂ compress (ap (hash_after initial_hash_256 page) (sym blocks)) ends
    ∙ hash_after_more initial_hash_256 page (padding 4096) 1 whole
    ∙ ap₂ (λ (p : List ℕ) (n : ℕ). hash_after initial_hash_256 (page ++ p) n) padded count)
