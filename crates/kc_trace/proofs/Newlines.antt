-- There is one way to cut a line off a text.
use Rattle.std.proofs.Common.{ℕ, ◌≡◌, List, [], ◌∷◌, ◌++◌, refl, ap, ◌∙◌}
use Rattle.std.specs.Prelude.{◌==◌, not}
use Rattle.std.specs.List.{list_all}
use Rattle.std.proofs.lemmas.Bool.{and_parts, eqb-false, not-true}
use Rattle.kc_lines.specs.Lines.{IsOneLine}

newline-in : (y : ℕ) (b : List ℕ) → IsOneLine (y ∷ b) → y ≡ 10 → ⊥
newline-in y b h e = eqb-false y 10 (not-true (y == 10) (and_parts (not (y == 10)) (list_all (λ b. not (b == 10)) b) h).0) e

rest-one : (y : ℕ) (b : List ℕ) → IsOneLine (y ∷ b) → IsOneLine b
rest-one y b h = (and_parts (not (y == 10)) (list_all (λ b. not (b == 10)) b) h).1

-- a text has one first line, and one rest
pub cut-same : (a b c d : List ℕ) → IsOneLine a → IsOneLine b → a ++ 10 ∷ c ≡ b ++ 10 ∷ d → (a ≡ b) × (c ≡ d)
cut-same [] [] c d h g e = (refl, cc)
cut-same [] (y ∷ b) c d h g e = absurd (newline-in y b g (let z : y ≡ 10 = cc in z))
cut-same (x ∷ a) [] c d h g e = absurd (newline-in x a h (let z : x ≡ 10 = cc in z))
cut-same (x ∷ a) (y ∷ b) c d h g e =
    let head : x ≡ y = cc in
    let tail : a ++ 10 ∷ c ≡ b ++ 10 ∷ d = cc in
    let rest = cut-same a b c d (rest-one x a h) (rest-one y b g) tail in
    (ap (λ z. z ∷ a) head ∙ ap (λ l. y ∷ l) rest.0, rest.1)

-- a line has no newline in it
pub no-newline : (a c l : List ℕ) → IsOneLine l → l ≡ a ++ 10 ∷ c → ⊥
no-newline [] c [] h e = absurd cc
no-newline [] c (y ∷ l) h e = newline-in y l h (let z : y ≡ 10 = cc in z)
no-newline (x ∷ a) c [] h e = absurd cc
no-newline (x ∷ a) c (y ∷ l) h e = no-newline a c l (rest-one y l h) (let z : l ≡ a ++ 10 ∷ c = cc in z)
