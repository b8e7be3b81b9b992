-- The events of calls that go on by one call.
use Rattle.std.proofs.Common.{ℕ, zero, suc, ◌≡◌, ◌<◌, ◌+◌, List, [], ◌∷◌, ◌++◌, length, take, get_or, refl, sym, ap, ◌∙◌, arith, append_assoc, append-nil}
use Rattle.std.proofs.lemmas.List.{take_more}
use Rattle.kc_types.specs.declared.call.Call.{Call}
use Rattle.kc_model.specs.State.{State}
use Rattle.kc_model.specs.Next.{state_after}
use Rattle.kc_types.specs.declared.custody.Event.{Event}
use Rattle.kc_model.specs.Events.{events_by, events_from}
use Rattle.kc_model.proofs.Custody.Events.{events-append}

length-front : {X : Type 0} (i : ℕ) (xs : List X) → i < length xs → length (take i xs) ≡ i
length-front zero xs lt = refl
length-front (suc i) [] lt = absurd (omega (arith, lt))
length-front (suc i) (x ∷ xs) lt = let rest = length-front i xs (omega (arith, lt)) in omega (arith, rest)

-- one call more
pub events-more : (n : ℕ) (m : State) (calls : List Call) (i : ℕ) (call : Call) → i < length calls → call ≡ get_or calls i call
    → events_from n m (take (i + 1) calls) ≡ events_from n m (take i calls) ++ events_by (n + i) (state_after m (take i calls)) call
events-more n m calls i call lt is =
    let front = take i calls in
    let old = state_after m front in
    let last : take (i + 1) calls ≡ front ++ call ∷ [] = take_more calls i call lt ∙ ap (λ x. front ++ x ∷ []) (sym is) in
    ap (events_from n m) last
    ∙ events-append n m front (call ∷ [])
    ∙ ap (λ k. events_from n m front ++ events_from (n + k) old (call ∷ [])) (length-front i calls lt)
    ∙ ap (λ (xs : List Event). events_from n m front ++ xs) (append-nil (events_by (n + i) old call))

-- the same after what came before
pub calls-told : (n : ℕ) (m old : State) (calls : List Call) (i : ℕ) (call : Call) (before told now : List Event) → i < length calls → call ≡ get_or calls i call
    → told ≡ before ++ events_from n m (take i calls) → old ≡ state_after m (take i calls) → now ≡ told ++ events_by (n + i) old call → now ≡ before ++ events_from n m (take (i + 1) calls)
calls-told n m old calls i call before told now lt is so_far from added =
    added
    ∙ ap (λ (xs : List Event). xs ++ events_by (n + i) old call) so_far
    ∙ append_assoc before (events_from n m (take i calls)) (events_by (n + i) old call)
    ∙ ap (λ (s : State). before ++ (events_from n m (take i calls) ++ events_by (n + i) s call)) from
    ∙ ap (λ (xs : List Event). before ++ xs) (sym (events-more n m calls i call lt is))
