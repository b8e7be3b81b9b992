-- Steps over bytes that a source or a sink reports.
use Rattle.std.proofs.Common.{◌≡◌, ◌≤◌, ◌+◌, ◌-◌, ℕ, List, ◌++◌, length, take, drop, Option, sym, ap, ◌∙◌, arith, length-append}
use Rattle.std.proofs.lemmas.List.{take_at, take-take, take-append-drop, take-append-le, length-take, length-drop, drop-drop}
use Rattle.std.proofs.Math.Seq.{take-add, take-append-add}
use Rattle.std.specs.Io.KnownBytes.{Appends}
use Rattle.std.proofs.KnownBytes.{Appends-trans}

-- what a read copies to the front of a buffer
pub read_part : (bytes buffer : List ℕ) (from n : ℕ) → n ≤ length (drop from bytes) → drop from bytes ≡ take n (take n (drop from bytes) ++ drop n buffer) ++ drop (from + n) bytes
read_part bytes buffer from n le =
    let front : take n (take n (drop from bytes) ++ drop n buffer) ≡ take n (drop from bytes) = take_at (take n (drop from bytes)) (drop n buffer) n (omega (arith, length-take n (drop from bytes))) in
    rw (front, ← drop-drop n from bytes) (sym (take-append-drop n (drop from bytes)))

-- what a read copies to a place after the bytes at the front
pub read_after : (front buffer after rest : List ℕ) (used n len : ℕ) → length front ≡ used → n ≤ length buffer → used + n ≤ len → take (used + n) (take len (front ++ (buffer ++ after) ++ rest)) ≡ front ++ take n buffer
read_after front buffer after rest used n len is le within =
    let fits : used + n ≤ length (front ++ (buffer ++ after)) = omega (arith, is, le, length-append front (buffer ++ after), length-append buffer after) in
    let here : take (used + n) (front ++ (buffer ++ after)) ≡ front ++ take n (buffer ++ after) = rw (sym is) (take-append-add front (buffer ++ after) n) in
    take-take (used + n) len (front ++ (buffer ++ after) ++ rest) within ∙ take-append-le (used + n) (front ++ (buffer ++ after)) rest fits ∙ here ∙ ap (λ xs. front ++ xs) (take-append-le n buffer after le)

-- there are at least as many bytes as in a beginning of them
pub begun_with : (bytes front : List ℕ) (n : ℕ) → take n bytes ≡ front → length front ≡ n → n ≤ length bytes
begun_with bytes front n is len = omega (arith, length-take n bytes, ap length is, len)

-- how far a list has been sent
pub record IsSent (bytes rest : List ℕ) (old new : Option (List ℕ)) : Type 0 where
  pub count : ℕ
  pub within : count ≤ length bytes
  pub rest_is : rest ≡ drop count bytes
  pub taken : Appends old new (take count bytes)

-- some more bytes are sent
pub sent_on : (bytes rest : List ℕ) (n : ℕ) (old mid new : Option (List ℕ)) → IsSent bytes rest old mid → n ≤ length rest → Appends mid new (take n rest) → IsSent bytes (drop n rest) old new
sent_on bytes rest n old mid new sent le more =
    let k = sent.count in
    let len : length rest ≡ length bytes - k = ap length sent.rest_is ∙ length-drop k bytes in
    let both : take k bytes ++ take n rest ≡ take (k + n) bytes = rw sent.rest_is (sym (take-add k n bytes)) in
    record { count = k + n; within = omega (arith, len, sent.within); rest_is = rw sent.rest_is (drop-drop n k bytes); taken = rw both at (Appends-trans old mid new (take k bytes) (take n rest) sent.taken more) }
