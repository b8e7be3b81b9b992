-- The word of a page.
use Rattle.std.proofs.Common.{ℕ, zero, suc, ◌≡◌, ◌<◌, ◌+◌, Bool, true, false, List, [], ◌∷◌, ◌++◌, length, drop, replicate, get_or, All, Some, None, refl, sym, ap, subst, ◌∙◌, arith}
use Rattle.std.specs.Prelude.{codes, IsTrue, ◌↔◌}
use Rattle.std.specs.List.{list_all}
use Rattle.std.specs.Str.{bytes_eq}
use Rattle.std.proofs.lemmas.List.{append-nil, drop_all}
use Rattle.hex.specs.Hex.{encode_lower, lower_digits}
use Rattle.hex.proofs.HexLemmas.{length-encode_with}
use Rattle.kc_model.specs.State.{zero_page, overwritten}
use Rattle.kc_model.specs.Lawful.{IsPage}
use Rattle.kc_model.proofs.States.Pages.{as_bytes-same}
use Rattle.kc_model.proofs.States.ZeroPage.{zero_page-replicate, length-zero_page, zero_page-is}
use Rattle.kc_lines.specs.Words.{is_lower_digit, data_of}
use Rattle.kc_lines.proofs.Digits.{data_of-encode_lower, no_digits}
use Rattle.kc_lines.proofs.Words.{name_is}
use Rattle.kc_state_text.specs.StateText.{is_zero, page_word, page_words, page_line}
use Rattle.kc_state_text.proofs.Lines.{begins}
use Rattle.kc_state_text.specs.Reading.{LacksWhole, IsWhole, BeginsAs, after_name, AreDigits}
use Rattle.kc_state_text.proofs.Spelled.{tail-of, zeros-same, page-are-words, data-page, page-undashed, digits-same}
use Rattle.kc_trace.specs.HeadReading.{words_in}

zeros-blank : (n : ℕ) → is_zero (replicate n 0) ≡ true
zeros-blank zero = refl
zeros-blank (suc n) = zeros-blank n

pub zero-blank : (bytes : List ℕ) → bytes ≡ zero_page → is_zero bytes ≡ true
zero-blank bytes e = ap is_zero (e ∙ zero_page-replicate) ∙ zeros-blank 4096

-- a page of zeros is the zero page
pub zero-tested : (bytes : List ℕ) (zero : Bool) → length bytes ≡ 4096 → IsTrue zero ↔ (bytes ≡ zero_page) → is_zero bytes ≡ zero
zero-tested bytes true size is = zero-blank bytes (is.0 refl)
zero-tested bytes false size is = by_test (is_zero bytes) refl
  where
    by_test : (b : Bool) → is_zero bytes ≡ b → b ≡ false
    by_test true blank = sym (is.1 (zeros-same bytes zero_page (size ∙ sym length-zero_page) blank (zero-blank zero_page refl)))
    by_test false some = refl

blank-word : (bytes : List ℕ) → is_zero bytes ≡ true → page_word bytes ≡ codes "-"
blank-word bytes e = rw e refl

digits-word : (bytes : List ℕ) → is_zero bytes ≡ false → page_word bytes ≡ encode_lower bytes
digits-word bytes e = rw e refl

-- a dash is a page of zeros
pub blank-page : (word page : List ℕ) → bytes_eq word (codes "-") ≡ true → page ≡ zero_page → IsWhole IsPage page_word word page
blank-page word page dash e = record { is = subst IsPage (sym e) zero_page-is; whole = name_is word (codes "-") dash ∙ sym (blank-word page (zero-blank page e)) }

-- other words are of 8,192 digits
pub long-refused : (word : List ℕ) → bytes_eq word (codes "-") ≡ false → (length word ≡ 8192 → ⊥) → LacksWhole IsPage page_word word
long-refused word other short bytes is e =
    let spelled = page-undashed bytes word is other e in
    let size = ap length spelled.0 ∙ length-encode_with lower_digits bytes in
    let whole = is.whole in
    short (omega (arith, size, whole))

pub digits-refused : (word : List ℕ) → bytes_eq word (codes "-") ≡ false → list_all is_lower_digit word ≡ false → LacksWhole IsPage page_word word
digits-refused word other bad bytes is e =
    let spelled = page-undashed bytes word is other e in
    let no : None ≡ Some bytes = sym (no_digits word bad) ∙ ap data_of spelled.0 ∙ data_of-encode_lower bytes (data-page bytes is) in
    absurd cc

-- zeros are not spelled by digits
pub zeros-refused : (word digits : List ℕ) → word ≡ encode_lower digits → IsPage digits → is_zero digits ≡ true → bytes_eq word (codes "-") ≡ false → LacksWhole IsPage page_word word
zeros-refused word digits made page blank other bytes is e =
    let spelled = page-undashed bytes word is other e in
    let same = digits-same digits bytes (data-page digits page) (data-page bytes is) (sym made ∙ spelled.0) in
    let no : true ≡ false = sym blank ∙ ap is_zero same ∙ spelled.1 in
    absurd cc

bytes-low : (bytes : List ℕ) → All (λ b. b < 256) bytes → (k : ℕ) → get_or bytes k 0 < 256
bytes-low [] all k = omega arith
bytes-low (b ∷ bytes) all zero = all 0 0 (omega arith)
bytes-low (b ∷ bytes) all (suc k) = bytes-low bytes (tail-of (λ b. b < 256) b bytes all) k

pub written-whole : (digits : List ℕ) → IsPage digits → overwritten zero_page 0 digits ≡ digits
written-whole digits page =
    let whole = page.whole in
    let long = length-zero_page in
    ap (λ (l : List ℕ). l ++ drop (0 + length digits) zero_page) (as_bytes-same digits (bytes-low digits page.each_byte)) ∙ ap (λ (l : List ℕ). digits ++ l) (drop_all (0 + length digits) zero_page (omega (arith, whole, long))) ∙ append-nil digits

pub digits-page : (word page : List ℕ) → AreDigits word page → IsWhole IsPage page_word word page
digits-page word page are = record { is = are.page; whole = are.whole ∙ sym (digits-word page are.some) }

-- a line with another word is not a page's
pub other-word : (name line word : List ℕ) → words_in line ≡ name ∷ word ∷ [] → LacksWhole IsPage page_word word → LacksWhole IsPage (after_name name page_words) (words_in line)
other-word name line word e lacks bytes is g = lacks bytes is (let both : name ∷ word ∷ [] ≡ name ∷ page_word bytes ∷ [] = sym e ∙ g in ap (λ (ws : List (List ℕ)). get_or ws 1 []) both)

pub begins-page : (text line rest word bytes : List ℕ) → text ≡ line ++ 10 ∷ rest → words_in line ≡ codes "page" ∷ word ∷ [] → IsWhole IsPage page_word word bytes → BeginsAs IsPage page_line text bytes rest
begins-page text line rest word bytes cut e whole =
    begins IsPage (codes "page") page_words page-are-words text line rest bytes cut (record { is = whole.is; whole = e ∙ ap (λ (w : List ℕ). codes "page" ∷ w ∷ []) whole.whole })
