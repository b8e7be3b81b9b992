-- Whether a trace has a head.
use Rattle.std.specs.Prelude.{◌≡◌, ◌≢◌, ◌++◌, ℕ, List, Option, Some, None, IfSome}
use Rattle.kc_trace.specs.declared.header.Head.{Head}
use Rattle.kc_trace.specs.declared.header.Header.TheVariants.{Three}
use Rattle.kc_trace.specs.Header.{IsHead, trace_header}

-- the text begins with this head
pub record HasHead (text : List ℕ) (head : Head) : Type 0 where
  pub calls : List ℕ
  pub text_is : text ≡ trace_header (Three head) ++ calls

-- this is the head of the trace, or it has none, as far as its text is known
abbrev pub IsHeadOf : Option (List ℕ) → Option Head → Type 0
IsHeadOf trace (Some head) = IsHead head × IfSome trace (λ text. HasHead text head)
IsHeadOf trace None = IfSome trace (λ text. (head : Head) → IsHead head → HasHead text head → ⊥)
