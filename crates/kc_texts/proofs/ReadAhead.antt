-- Bytes that were read ahead, and the head that they begin with.
use Rattle.std.proofs.Common.{◌≡◌, ◌≤◌, ◌⊎◌, ℕ, List, [], ◌∷◌, ◌++◌, length, take, drop, Option, Some, None, refl, sym, ap, ◌∙◌, inl, inr, arith, append_assoc, append-nil, length-append}
use Rattle.std.specs.Io.KnownBytes.{Keeps, Consumes, IsAtEnd, prepend_known}
use Rattle.kc_trace.specs.declared.header.Head.{Head}
use Rattle.kc_trace.specs.declared.header.Header.TheVariants.{Three}
use Rattle.kc_trace.specs.Header.{IsHead, trace_header}
use Rattle.kc_trace.specs.Spelling.{longest_call}
use Rattle.kc_trace.proofs.HeadWidths.{head_width}
use Rattle.kc_texts.specs.Headed.{HasHead, IsHeadOf}

-- nothing comes before the bytes that are left
pub prepended_nothing : (left : Option (List ℕ)) → prepend_known [] left ≡ left
prepended_nothing None = refl
prepended_nothing (Some bytes) = refl

-- bytes that are moved ahead stay left
pub kept_ahead : (ahead given : List ℕ) (first old new : Option (List ℕ)) → Keeps first (prepend_known ahead old) → Consumes old new given → Keeps first (prepend_known (ahead ++ given) new)
kept_ahead ahead given None old new same moved = tt
kept_ahead ahead given (Some all) None new same moved = absurd same
kept_ahead ahead given (Some all) (Some bytes) None same moved = absurd moved
kept_ahead ahead given (Some all) (Some bytes) (Some rest) same moved = append_assoc ahead given rest ∙ ap (λ b. ahead ++ b) (sym moved) ∙ same

-- the head of the bytes ahead is that of all bytes
pub found_head : (ahead rest : List ℕ) (left : Option (List ℕ)) (head : Head) → IsHead head → ahead ≡ trace_header (Three head) ++ rest → IsHeadOf (prepend_known ahead left) (Some head)
found_head ahead rest None head is e = (is, tt)
found_head ahead rest (Some bytes) head is e = (is, record { calls = rest ++ bytes; text_is = ap (λ a. a ++ bytes) e ∙ append_assoc (trace_header (Three head)) rest bytes })

-- what two texts begin with, one begins with if it is long enough
front : (a b c d : List ℕ) → a ++ b ≡ c ++ d → length c ≤ length a → (rest : List ℕ) × (a ≡ c ++ rest)
front a b [] d e le = (a, refl)
front [] b (y ∷ c) d e le = absurd (omega (arith, le))
front (x ∷ a) b (y ∷ c) d e le =
    let head : x ≡ y = cc in
    let tail : a ++ b ≡ c ++ d = cc in
    let later = front a b c d tail (omega (arith, le)) in
    (later.0, ap (λ z. z ∷ a) head ∙ ap (λ l. y ∷ l) later.1)

-- if the bytes ahead have no head, all bytes have none: a whole head would be ahead
pub no_head : (ahead : List ℕ) (left : Option (List ℕ)) → (longest_call ≤ length ahead) ⊎ IsAtEnd left
    → ((head : Head) (rest : List ℕ) → IsHead head → ahead ≡ trace_header (Three head) ++ rest → ⊥) → IsHeadOf (prepend_known ahead left) None
no_head ahead None enough none = tt
no_head ahead (Some bytes) (inr ended) none = λ head is has. none head has.calls is (sym (append-nil ahead) ∙ ap (λ b. ahead ++ b) (sym ended) ∙ has.text_is)
no_head ahead (Some bytes) (inl long) none = λ head is has.
    let width = head_width head is in
    let begins = front ahead bytes (trace_header (Three head)) has.calls has.text_is (omega (arith, long, width)) in
    none head begins.0 is begins.1
