-- A digest is bytes.
use Rattle.std.proofs.Common.{ℕ, zero, suc, ◌≡◌, ◌<◌, true, List, [], ◌∷◌, ◌++◌, refl, arith}
use Rattle.std.specs.Prelude.{nat_lt, slice_index}
use Rattle.std.specs.Int.{byte_at, bytes_high_first, to_be_bytes, w32}
use Rattle.std.specs.List.{list_all}
use Rattle.std.proofs.lemmas.Bool.{and_parts, and_from, lt-ltb}
use Rattle.sha2.specs.Sha256.{digest_bytes, sha256}

abbrev pub AreBytes : List ℕ → Type 0
AreBytes xs = list_all (λ b. nat_lt b 256) xs ≡ true

byte-small : (i n : ℕ) → byte_at i n < 256
byte-small zero n = omega arith
byte-small (suc i) n = omega arith

word-bytes : (k n : ℕ) → AreBytes (bytes_high_first k n)
word-bytes zero n = refl
word-bytes (suc k) n = and_from _ _ (lt-ltb (byte_at k n) 256 (byte-small k n)) (word-bytes k n)

bytes-append : (xs ys : List ℕ) → AreBytes xs → AreBytes ys → AreBytes (xs ++ ys)
bytes-append [] ys x y = y
bytes-append (b ∷ xs) ys x y =
    let parts = and_parts (nat_lt b 256) (list_all (λ b. nat_lt b 256) xs) x in
    and_from (nat_lt b 256) (list_all (λ b. nat_lt b 256) (xs ++ ys)) parts.0 (bytes-append xs ys parts.1 y)

words-bytes : (h : List ℕ) (n : ℕ) → AreBytes (digest_bytes h n)
unfolding digest_bytes
words-bytes h zero = refl
words-bytes h (suc n) = bytes-append (digest_bytes h n) (to_be_bytes w32 (slice_index h n)) (words-bytes h n) (word-bytes 4 (slice_index h n))

pub digest-bytes : (m : List ℕ) → AreBytes (sha256 m)
unfolding sha256
digest-bytes m = words-bytes _ 8
