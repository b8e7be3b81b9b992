-- There is one way to cut a line into words.
use Rattle.std.proofs.Common.{ℕ, ◌≡◌, ◌<◌, true, List, [], ◌∷◌, ◌++◌, length, refl, sym, ap, ◌∙◌, append_assoc, arith, length-append}
use Rattle.std.specs.Prelude.{◌==◌, not}
use Rattle.std.specs.List.{list_all, slice_split, join_with_byte}
use Rattle.std.proofs.lemmas.Bool.{and_parts, eqb-false, not-true}
use Rattle.std.proofs.lemmas.List.{append-nil}
use Rattle.std.proofs.lemmas.List.Splits.{join_with_byte-slice_split}
use Rattle.kc_lines.specs.Lines.{IsOneLine}
use Rattle.kc_lines.proofs.Words.{is_space, is_word, split_join, join_is_one_line}
use Rattle.kc_dump_text.specs.DumpText.{spaced, line}
use Rattle.kc_trace.proofs.Newlines.{cut-same, no-newline}
use Rattle.kc_trace.specs.HeadReading.{words_in}
use Rattle.kc_state_text.specs.Reading.{LacksWhole, BeginsAs, IsWhole, after_name}
use Rattle.kc_state_text.specs.Refused.{HasNone}

joined-spaced : (name : List ℕ) (words : List (List ℕ)) → join_with_byte 32 (name ∷ words) ≡ name ++ spaced words
joined-spaced name [] = sym (append-nil name)
joined-spaced name (word ∷ words) = ap (λ (l : List ℕ). name ++ 32 ∷ l) (joined-spaced word words)

line-joined : (name : List ℕ) (words : List (List ℕ)) (more : List ℕ) → line name words ++ more ≡ join_with_byte 32 (name ∷ words) ++ 10 ∷ more
line-joined name words more =
    ap (λ (l : List ℕ). l ++ more) (sym (append_assoc name (spaced words) (10 ∷ [])) ∙ ap (λ (l : List ℕ). l ++ 10 ∷ []) (sym (joined-spaced name words)))
    ∙ append_assoc (join_with_byte 32 (name ∷ words)) (10 ∷ []) more

abbrev pub AreWords : List (List ℕ) → Type 0
AreWords words = list_all is_word words ≡ true

-- a line of words is cut into them
pub line-cut : (name : List ℕ) (words : List (List ℕ)) (more l rest : List ℕ) → AreWords (name ∷ words) → IsOneLine l → l ++ 10 ∷ rest ≡ line name words ++ more → (words_in l ≡ name ∷ words) × (rest ≡ more)
line-cut name words more l rest are one e =
    let both = cut-same l (join_with_byte 32 (name ∷ words)) rest more one (join_is_one_line name words are) (e ∙ line-joined name words more) in
    (ap (slice_split is_space) both.0 ∙ split_join name words are, both.1)

-- what is cut into these words is the line of them
pub line-made : (name : List ℕ) (words : List (List ℕ)) (l rest : List ℕ) → words_in l ≡ name ∷ words → l ++ 10 ∷ rest ≡ line name words ++ rest
line-made name words l rest e =
    ap (λ (l : List ℕ). l ++ 10 ∷ rest) (sym (join_with_byte-slice_split 32 l) ∙ ap (join_with_byte 32) e) ∙ sym (line-joined name words rest)

-- two equal lines of words have the same words
pub line-same : (name other : List ℕ) (a b : List (List ℕ)) (c d : List ℕ) → AreWords (name ∷ a) → AreWords (other ∷ b) → line name a ++ c ≡ line other b ++ d → (name ∷ a ≡ other ∷ b) × (c ≡ d)
line-same name other a b c d h g e =
    let both = cut-same (join_with_byte 32 (name ∷ a)) (join_with_byte 32 (other ∷ b)) c d (join_is_one_line name a h) (join_is_one_line other b g)
    (sym (line-joined name a c) ∙ e ∙ line-joined other b d) in
    (sym (split_join name a h) ∙ ap (slice_split is_space) both.0 ∙ split_join other b g, both.1)

-- a line is at least some bytes
pub line-long : (name : List ℕ) (words : List (List ℕ)) → 0 < length (line name words)
line-long name words = let a = length-append name (spaced words ++ 10 ∷ []) in let b = length-append (spaced words) (10 ∷ []) in omega (arith, a, b)

module _ {X : Type 0} (Is : X → Type 0) (name : List ℕ) (spelled : X → List (List ℕ)) (words : (x : X) → Is x → AreWords (name ∷ spelled x)) where
  -- a text of one line that does not end begins with no line
  pub none-no-end : (text : List ℕ) → IsOneLine text → HasNone Is (λ x. line name (spelled x)) text
  none-no-end text one x more is e = no-newline (join_with_byte 32 (name ∷ spelled x)) more text one (e ∙ line-joined name (spelled x) more)

  -- nor does one whose first line has other words
  pub none-unread : (text l rest : List ℕ) → IsOneLine l → text ≡ l ++ 10 ∷ rest → LacksWhole Is (after_name name spelled) (words_in l) → HasNone Is (λ x. line name (spelled x)) text
  none-unread text l rest one cut lacks x more is e = lacks x is (line-cut name (spelled x) more l rest (words x is) one (sym cut ∙ e)).0

  pub begins : (text l rest : List ℕ) (x : X) → text ≡ l ++ 10 ∷ rest → IsWhole Is (after_name name spelled) (words_in l) x → BeginsAs Is (λ x. line name (spelled x)) text x rest
  begins text l rest x cut whole = record { is = whole.is; whole = cut ∙ line-made name (spelled x) l rest whole.whole }
