-- Texts of states with a position, and without one.
use Rattle.std.proofs.Common.{ℕ, ◌≡◌, ◌≤◌, List, [], ◌∷◌, ◌++◌, length, get_or, drop, Option, Some, None, refl, sym, ap, ◌∙◌, append_assoc, arith, length-append}
use Rattle.std.specs.Prelude.{IfSome}
use Rattle.std.proofs.lemmas.Option.{same_Some}
use Rattle.kc_lines.specs.Lines.{IsOneLine}
use Rattle.kc_trace.specs.declared.header.Position.{Position}
use Rattle.kc_trace.specs.Header.{IsPosition, position_line}
use Rattle.kc_trace.specs.HeadReading.{position_in, words_in}
use Rattle.kc_trace.proofs.HeadWidths.{position_fits}
use Rattle.kc_trace.proofs.HeadWords.{position_spelled, position_again}
use Rattle.kc_state_text.specs.StateText.{state_header, second_header, volume_line, header_of, placed_text}
use Rattle.kc_state_text.specs.Refused.{HasNone, HasHeader}
use Rattle.kc_state_text.specs.Reading.{BeginsAs}
use Rattle.kc_trace.proofs.Newlines.{cut-same}

-- ---- the line of a position

volume-cut : (position : Position) (more : List ℕ) → volume_line position ++ more ≡ position_line position ++ 10 ∷ more
volume-cut position more = append_assoc (position_line position) (10 ∷ []) more

pub none-some : {X : Type 0} (x : X) → None ≡ Some x → ⊥
none-some x e = cc

pub volumes-same : (p q : Position) (a b : List ℕ) → IsPosition p → IsPosition q → volume_line p ++ a ≡ volume_line q ++ b → (p ≡ q) × (a ≡ b)
volumes-same p q a b is-p is-q e =
    let both = cut-same (position_line p) (position_line q) a b (position_fits p is-p).0 (position_fits q is-q).0 (sym (volume-cut p a) ∙ e ∙ volume-cut q b) in
    (same_Some p q (sym (position_again p is-p) ∙ ap (λ l. position_in (words_in l)) both.0 ∙ position_again q is-q), both.1)

-- a text whose first line is not read as such a line begins with none
pub no-volume : (text line rest : List ℕ) → IsOneLine line → text ≡ line ++ 10 ∷ rest → position_in (words_in line) ≡ None → HasNone IsPosition volume_line text
no-volume text line rest one cut none position more is e =
    let both = cut-same line (position_line position) rest more one (position_fits position is).0 (sym cut ∙ e ∙ volume-cut position more) in
    none-some position (sym none ∙ ap (λ l. position_in (words_in l)) both.0 ∙ position_again position is)

pub volume-begins : (text line rest : List ℕ) (position : Position) → text ≡ line ++ 10 ∷ rest → position_in (words_in line) ≡ Some position → BeginsAs IsPosition volume_line text position rest
volume-begins text line rest position cut some =
    let spelled = position_spelled line position some in
    record { is = spelled.1; whole = cut ∙ ap (λ (l : List ℕ). l ++ 10 ∷ rest) spelled.0 ∙ sym (volume-cut position rest) }

-- ---- headers

pub not-both : (a b : List ℕ) → state_header ++ a ≡ second_header ++ b → ⊥
not-both a b e = let digit : 49 ≡ 50 = ap (λ (l : List ℕ). get_or l 12 0) e in absurd (omega (arith, digit))

-- a text has one header
pub headers-same : (p q : Option Position) (a b : List ℕ) → IfSome p IsPosition → IfSome q IsPosition → header_of p ++ a ≡ header_of q ++ b → (p ≡ q) × (a ≡ b)
headers-same None None a b is-p is-q e = (refl, ap (drop 14) e)
headers-same None (Some q) a b is-p is-q e = absurd (not-both a (volume_line q ++ b) e)
headers-same (Some p) None a b is-p is-q e = absurd (not-both b (volume_line p ++ a) (sym e))
headers-same (Some p) (Some q) a b is-p is-q e = let both = volumes-same p q a b is-p is-q (ap (drop 14) e) in (ap Some both.0, both.1)

-- what a text with the first header is with a position or none
pub placed-after : (position : Option Position) (rest : List ℕ) → placed_text position (state_header ++ rest) ≡ header_of position ++ rest
placed-after None rest = refl
placed-after (Some position) rest = refl

-- a text is no shorter than with the first header in the place of its own
pub first-short : (text rest : List ℕ) (position : Option Position) → HasHeader text position rest → length (state_header ++ rest) ≤ length text
first-short text rest position has = rw has.whole (by_position position)
  where
    by_position : (position : Option Position) → length (state_header ++ rest) ≤ length (header_of position ++ rest)
    by_position None = omega arith
    by_position (Some p) = let long = length-append (volume_line p) rest in omega (arith, long)
