-- A trace that one more call follows.
use Rattle.std.proofs.Common.{ℕ, ◌≡◌, ◌<◌, ◌+◌, List, [], ◌∷◌, ◌++◌, length, take, get_or, refl, ap, sym, ◌∙◌}
use Rattle.std.proofs.lemmas.List.{take_more}
use Rattle.kc_types.specs.declared.call.Call.{Call}
use Rattle.kc_model.specs.State.{State}
use Rattle.kc_model.specs.Next.{next, replies_from, state_after}

pub state_after-append : (m : State) (xs ys : List Call) → state_after m (xs ++ ys) ≡ state_after (state_after m xs) ys
state_after-append m [] ys = refl
state_after-append m (x ∷ xs) ys = state_after-append (next m x).1 xs ys

pub replies_from-append : (m : State) (xs ys : List Call) → replies_from m (xs ++ ys) ≡ replies_from m xs ++ replies_from (state_after m xs) ys
replies_from-append m [] ys = refl
replies_from-append m (x ∷ xs) ys = ap (λ rs. (next m x).0 ∷ rs) (replies_from-append (next m x).1 xs ys)

-- the state after one more call
pub state_after-more : (m : State) (calls : List Call) (n : ℕ) (call : Call) → n < length calls → call ≡ get_or calls n call → state_after m (take (n + 1) calls) ≡ (next (state_after m (take n calls)) call).1
state_after-more m calls n call lt is = ap (state_after m) (take_more calls n call lt) ∙ state_after-append m (take n calls) _ ∙ ap (λ c. (next (state_after m (take n calls)) c).1) (sym is)

-- the replies after one more call
pub replies_from-more : (m : State) (calls : List Call) (n : ℕ) (call : Call) → n < length calls → call ≡ get_or calls n call → replies_from m (take (n + 1) calls) ≡ replies_from m (take n calls) ++ (next (state_after m (take n calls)) call).0 ∷ []
replies_from-more m calls n call lt is = ap (replies_from m) (take_more calls n call lt) ∙ replies_from-append m (take n calls) _ ∙ ap (λ c. replies_from m (take n calls) ++ (next (state_after m (take n calls)) c).0 ∷ []) (sym is)
