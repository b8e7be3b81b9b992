-- The changes of a trace that one more call follows.
use Rattle.std.proofs.Common.{ℕ, zero, suc, ◌≡◌, ◌<◌, ◌+◌, List, [], ◌∷◌, ◌++◌, length, take, get_or, refl, sym, ap, ◌∙◌, arith, append_assoc, append-nil}
use Rattle.std.proofs.lemmas.List.{take_more}
use Rattle.kc_types.specs.declared.call.Call.{Call}
use Rattle.kc_model.specs.State.{State}
use Rattle.kc_model.specs.Next.{next, state_after}
use Rattle.kc_types.specs.declared.custody.Change.{Change}
use Rattle.kc_model.specs.Custody.{changes_by, custody_from}

-- calls after others
pub custody-append : (n : ℕ) (m : State) (xs ys : List Call) → custody_from n m (xs ++ ys) ≡ custody_from n m xs ++ custody_from (n + length xs) (state_after m xs) ys
custody-append n m [] ys = let e : n ≡ n + 0 = omega arith in ap (λ k. custody_from k m ys) e
custody-append n m (x ∷ xs) ys =
    let there : (n + 1) + length xs ≡ n + suc (length xs) = omega arith in
    let rest = custody-append (n + 1) (next m x).1 xs ys ∙ ap (λ k. custody_from (n + 1) (next m x).1 xs ++ custody_from k (state_after (next m x).1 xs) ys) there in
    ap (λ (more : List Change). changes_by n m (next m x).1 ++ more) rest
    ∙ sym (append_assoc (changes_by n m (next m x).1) (custody_from (n + 1) (next m x).1 xs) (custody_from (n + suc (length xs)) (state_after (next m x).1 xs) ys))

length-front : {X : Type 0} (i : ℕ) (xs : List X) → i < length xs → length (take i xs) ≡ i
length-front zero xs lt = refl
length-front (suc i) [] lt = absurd (omega (arith, lt))
length-front (suc i) (x ∷ xs) lt = let rest = length-front i xs (omega (arith, lt)) in omega (arith, rest)

-- one more call
pub custody-more : (n : ℕ) (m : State) (calls : List Call) (i : ℕ) (call : Call) → i < length calls → call ≡ get_or calls i call
    → custody_from n m (take (i + 1) calls) ≡ custody_from n m (take i calls) ++ changes_by (n + i) (state_after m (take i calls)) (next (state_after m (take i calls)) call).1
custody-more n m calls i call lt is =
    let front = take i calls in
    let old = state_after m front in
    let last : take (i + 1) calls ≡ front ++ call ∷ [] = take_more calls i call lt ∙ ap (λ x. front ++ x ∷ []) (sym is) in
    ap (custody_from n m) last
    ∙ custody-append n m front (call ∷ [])
    ∙ ap (λ k. custody_from n m front ++ custody_from (n + k) old (call ∷ [])) (length-front i calls lt)
    ∙ ap (λ (xs : List Change). custody_from n m front ++ xs) (append-nil (changes_by (n + i) old (next old call).1))

-- the same after what was reported before
pub calls-told : (n : ℕ) (m old new : State) (calls : List Call) (i : ℕ) (call : Call) (before told now : List Change) → i < length calls → call ≡ get_or calls i call
    → told ≡ before ++ custody_from n m (take i calls) → old ≡ state_after m (take i calls) → new ≡ (next old call).1 → now ≡ told ++ changes_by (n + i) old new → now ≡ before ++ custody_from n m (take (i + 1) calls)
calls-told n m old new calls i call before told now lt is so_far from to added =
    added
    ∙ ap (λ (xs : List Change). xs ++ changes_by (n + i) old new) so_far
    ∙ append_assoc before (custody_from n m (take i calls)) (changes_by (n + i) old new)
    ∙ ap (λ (s : State). before ++ (custody_from n m (take i calls) ++ changes_by (n + i) old s)) to
    ∙ ap (λ (s : State). before ++ (custody_from n m (take i calls) ++ changes_by (n + i) s (next s call).1)) from
    ∙ ap (λ (xs : List Change). before ++ xs) (sym (custody-more n m calls i call lt is))
