use Rattle.std.proofs.Common.{◌≡◌, ◌≢◌, ◌∙◌, refl, ap, ℕ, List, Bool, true, false, length, replicate}
use Rattle.std.specs.Prelude.{IsTrue, MatchBool, ◌↔◌, ◌==◌}
use Rattle.std.specs.Cmp.Lexicographic.{told_text, pointwise}
use Rattle.std.proofs.lemmas.List.{take-replicate}
use Rattle.kc_page.proofs.page.are_zero.Goals as goal

is_told : (r : Bool) (xs ys : List ℕ) → MatchBool r (xs ≡ ys) (xs ≢ ys) → IsTrue r ↔ (xs ≡ ys)
is_told true xs ys same = (λ _. same, λ _. refl)
is_told false xs ys other = (λ no. cc, λ same. absurd (other same))

pub returns : goal.returns
returns c =
    let bytes = c.args.bytes.now in
    let n = length bytes in
    is_told c.eq.result bytes (replicate n 0) (told_text bytes (replicate n 0) c.eq.result (c.eq.ensures ∙ ap (pointwise ◌==◌ bytes) (take-replicate n 4096 0 c.requires)))
