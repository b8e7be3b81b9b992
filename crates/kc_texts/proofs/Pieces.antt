-- A text that is given in pieces.
use Rattle.std.proofs.Common.{◌≡◌, ◌≤◌, ◌+◌, ℕ, List, [], ◌∷◌, ◌++◌, length, take, drop, Option, refl, sym, ap, ◌∙◌, append_assoc, arith, inl, inr}
use Rattle.std.proofs.lemmas.Bool.{cases_lt}
use Rattle.std.proofs.lemmas.List.{take_all, take-append-drop, append-nil, map-id}
use Rattle.std.proofs.lemmas.List.FromFn.{length-range_with_len, take-map-range_with_len, map-range_with_len_more}
use Rattle.std.proofs.lemmas.Grind.{flat_map-append}
use Rattle.std.proofs.lemmas.List.Concat.{flat_map-cons}
use Rattle.std.proofs.Math.Seq.{take-append-add, take-append-le}
use Rattle.std.specs.Io.KnownBytes.{Appends}
use Rattle.std.proofs.KnownBytes.{Appends-trans}
use Rattle.std.specs.List.{flat_map, range_with_len}

-- of this text the sink took a beginning, and the rest of it is in the buffer
pub record IsGiven (text piece : List ℕ) (old new : Option (List ℕ)) : Type 0 where
  pub sent : List ℕ
  pub taken : Appends old new sent
  pub joined : text ≡ sent ++ piece

pub given_whole : (text piece : List ℕ) (old mid new : Option (List ℕ)) → IsGiven text piece old mid → Appends mid new piece → IsGiven text [] old new
given_whole text piece old mid new given more = record {
  sent = given.sent ++ piece;
  taken = Appends-trans old mid new given.sent piece given.taken more;
  joined = given.joined ∙ sym (append-nil (given.sent ++ piece));
}

pub given_all : (text : List ℕ) (old new : Option (List ℕ)) → IsGiven text [] old new → Appends old new text
given_all text old new given = rw (given.joined, append-nil given.sent) given.taken

-- the lines of some values, after a front
abbrev pub text_of : {X : Type 0} → (X → List ℕ) → List ℕ → List X → List ℕ
text_of line front xs = front ++ flat_map line xs

-- one more line, which the buffer took
pub given_more : {X : Type 0} (line : X → List ℕ) (front : List ℕ) (xs : List X) (x : X) (piece more : List ℕ) (old new : Option (List ℕ)) → IsGiven (text_of line front xs) piece old new → more ≡ piece ++ line x
    → IsGiven (text_of line front (xs ++ x ∷ [])) more old new
given_more line front xs x piece more old new given grown =
    let lines : flat_map line (xs ++ x ∷ []) ≡ flat_map line xs ++ line x =
    flat_map-append line xs (x ∷ []) ∙ ap (λ (t : List ℕ). flat_map line xs ++ t) (flat_map-cons line x [] ∙ append-nil (line x)) in
    record {
      sent = given.sent;
      taken = given.taken;
      joined = ap (λ (t : List ℕ). front ++ t) lines ∙ sym (append_assoc front (flat_map line xs) (line x)) ∙ ap (λ (t : List ℕ). t ++ line x) given.joined ∙ append_assoc given.sent piece (line x) ∙ ap (λ (t : List ℕ). given.sent ++ t) (sym grown);
    }

cut_short : (sent piece rest : List ℕ) (n : ℕ) → (m : ℕ) × (sent ++ take n piece ≡ take m ((sent ++ piece) ++ rest))
cut_short sent piece rest n =
    elim (cases_lt (length piece) n) [
      | inl past ↦ (length sent + length piece, rw (take_all n piece (omega arith), append_assoc sent piece rest, take-append-add sent (piece ++ rest) (length piece), take-append-le (length piece) piece rest (omega arith), take_all (length piece) piece (omega arith)) refl)
      | inr le ↦ (length sent + n, rw (append_assoc sent piece rest, take-append-add sent (piece ++ rest) n, take-append-le n piece rest le) refl)
    ]

-- if a piece is cut short after some of the lines, the sink has taken a beginning of the whole text
pub begun : {X : Type 0} (line : X → List ℕ) (front : List ℕ) (xs all : List X) (piece : List ℕ) (old mid new : Option (List ℕ)) → xs ≡ take (length xs) all → IsGiven (text_of line front xs) piece old mid → ((k : ℕ) × Appends mid new (take k piece)) → (m : ℕ) × Appends old new (take m (text_of line front all))
begun line front xs all piece old mid new first given cut =
    let others = drop (length xs) all in
    let rest = flat_map line others in
    let whole : text_of line front all ≡ (given.sent ++ piece) ++ rest =
    ap (text_of line front) (sym (take-append-drop (length xs) all) ∙ ap (λ ys. ys ++ others) (sym first)) ∙ ap (λ (t : List ℕ). front ++ t) (flat_map-append line xs others)
    ∙ sym (append_assoc front (flat_map line xs) rest) ∙ ap (λ (t : List ℕ). t ++ rest) given.joined in
    let begins = cut_short given.sent piece rest cut.0 in
    (begins.0, rw (whole, ← begins.1) (Appends-trans old mid new given.sent (take cut.0 piece) given.taken cut.1))

-- the numbers below one that is one more, and the first numbers of a range
pub range-more : (i : ℕ) → range_with_len 0 (i + 1) ≡ range_with_len 0 i ++ i ∷ []
range-more i = sym (map-id (range_with_len 0 (i + 1))) ∙ map-range_with_len_more (λ (k : ℕ). k) 0 i i (omega arith) ∙ ap (λ ks. ks ++ i ∷ []) (map-id (range_with_len 0 i))

pub range-taken : (i n : ℕ) → i ≤ n → range_with_len 0 i ≡ take (length (range_with_len 0 i)) (range_with_len 0 n)
range-taken i n le =
    sym (ap (λ k. take k (range_with_len 0 n)) (length-range_with_len 0 i) ∙ ap (take i) (sym (map-id (range_with_len 0 n))) ∙ take-map-range_with_len (λ (k : ℕ). k) 0 n i le ∙ map-id (range_with_len 0 i))
