-- Where texts differ that are compared a piece at a time.
use Rattle.std.proofs.Common.{ℕ, ◌≡◌, ◌≢◌, ◌<◌, ◌≤◌, ◌+◌, List, [], ◌∷◌, ◌++◌, length, take, get_or, inl, inr, sym, ap, ◌∙◌, arith}
use Rattle.std.proofs.lemmas.Bool.{cases_lt}
use Rattle.std.proofs.lemmas.List.{append_cancel_left, take-append-le, take_all, take_more, length-take-le}
use Rattle.std.proofs.Math.Seq.{take-append-add}
use Rattle.kc_state_text.specs.Differences.{PartAfter}

same-head : (x y : ℕ) → x ∷ [] ≡ y ∷ [] → x ≡ y
same-head x y e = cc

-- texts whose first difference is within some bytes differ there, whatever comes after these
pub part-within : (text bytes more : List ℕ) (n : ℕ) → n < length bytes → take n text ≡ take n bytes → (n < length text → get_or text n 0 ≢ get_or bytes n 0) → PartAfter n text (bytes ++ more)
part-within text bytes more n low same differs =
    let bytes_to : (k : ℕ) → k ≤ length bytes → take k (bytes ++ more) ≡ take k bytes = λ k le. take-append-le k bytes more le in
    record {
      same = same ∙ sym (bytes_to n (omega (arith, low)));
      apart = λ e. let equal : take (n + 1) text ≡ take (n + 1) bytes = e ∙ bytes_to (n + 1) (omega (arith, low)) in
          elim (cases_lt n (length text)) [
            | inl lt ↦
                let ends = sym (take_more text n 0 lt) ∙ equal ∙ take_more bytes n 0 low in
                absurd (differs lt (same-head _ _ (append_cancel_left (take n text) _ _ (ends ∙ ap (λ front. front ++ get_or bytes n 0 ∷ []) (sym same)))))
            | inr past ↦
                let short = ap length (take_all (n + 1) text (omega (arith, past))) in
                let long = length-take-le (n + 1) bytes (omega (arith, low)) in
                let both = ap length equal in
                absurd (omega (arith, past, short, long, both))
          ];
    }

-- and so do texts that begin with the same bytes
pub part-later : (front text other : List ℕ) (n : ℕ) → PartAfter n text other → PartAfter (length front + n) (front ++ text) (front ++ other)
part-later front text other n h =
    let further : (length front + n) + 1 ≡ length front + (n + 1) = omega arith in
    record {
      same = take-append-add front text n ∙ ap (λ rest. front ++ rest) h.same ∙ sym (take-append-add front other n);
      apart = λ e. h.apart (append_cancel_left front _ _ (sym (take-append-add front text (n + 1)) ∙ (rw further at e) ∙ take-append-add front other (n + 1)));
    }
