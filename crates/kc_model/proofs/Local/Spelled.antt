-- A list is determined by its links and ends.
use Rattle.std.proofs.Common.{ℕ, ◌≡◌, ◌<◌, ◌≤◌, ◌+◌, Bool, true, false, cond, Option, Some, None, nat_eq, List, [], ◌∷◌, refl, sym, ap, subst, ◌∙◌, arith}
use Rattle.std.proofs.lemmas.Option.{same_Some}
use Rattle.kc_model.specs.Lawful.{times_in}
use Rattle.kc_model.specs.Resources.{is_in}
use Rattle.kc_model.specs.Links.{Link, link_after, link_in, first_of}
use Rattle.kc_model.proofs.States.Members.{is_in-first, is_in-later, same_number, times_in-held, IsOnce, once-rest}

-- a number of the rest is not the first
not-first : (x f : ℕ) (xs : List ℕ) → IsOnce (x ∷ xs) → is_in xs f ≡ true → nat_eq x f ≡ false
not-first x f xs once listed = by_test (nat_eq x f) (times_in xs f) (once f) (times_in-held xs f listed)
  where
    by_test : (b : Bool) (n : ℕ) → cond b 1 0 + n ≤ 1 → 0 < n → b ≡ false
    by_test true n h some = absurd (omega (arith, h, some))
    by_test false n h some = refl

spelled-after : (before : Option ℕ) (xs ys : List ℕ) → IsOnce xs → first_of xs ≡ first_of ys → ((f : ℕ) → is_in xs f ≡ true → link_after before xs f ≡ link_after before ys f) → xs ≡ ys
spelled-after before [] [] once first links = refl
spelled-after before [] (y ∷ ys) once first links = cc
spelled-after before (x ∷ xs) [] once first links = cc
spelled-after before (x ∷ xs) (y ∷ ys) once first links =
    let same : x ≡ y = same_Some x y first in
    let next : first_of xs ≡ first_of ys =
    sym (ap (λ b. (cond b (record { prev = before; next = first_of xs }) (link_after (Some x) xs x)).next) (same_number x))
    ∙ ap (λ (l : Link). l.next) (links x (is_in-first x xs))
    ∙ ap (λ b. (cond b (record { prev = before; next = first_of ys }) (link_after (Some y) ys x)).next) (subst (λ z. nat_eq z x ≡ true) same (same_number x)) in
    let rest : xs ≡ ys = spelled-after (Some x) xs ys (once-rest x xs once) next (λ f listed.
    let other : nat_eq x f ≡ false = not-first x f xs once listed in
    sym (ap (λ b. cond b (record { prev = before; next = first_of xs }) (link_after (Some x) xs f)) other)
    ∙ links f (is_in-later x xs f listed)
    ∙ ap (λ b. cond b (record { prev = before; next = first_of ys }) (link_after (Some y) ys f)) (subst (λ z. nat_eq z f ≡ false) same other)
    ∙ ap (λ z. link_after (Some z) ys f) (sym same)) in
    ap (λ z. z ∷ xs) same ∙ ap (λ zs. y ∷ zs) rest

-- a list that has each number once is the only one with its head and with its links at its members
pub spelled : (xs ys : List ℕ) → IsOnce xs → first_of xs ≡ first_of ys → ((f : ℕ) → is_in xs f ≡ true → link_in xs f ≡ link_in ys f) → xs ≡ ys
spelled xs ys once first links = spelled-after None xs ys once first links
