-- How many calls are denied, and for what, if one more is made.
use Rattle.std.proofs.Common.{ℕ, ◌≡◌, ◌<◌, ◌≤◌, ◌+◌, Bool, true, false, cond, List, [], ◌∷◌, ◌++◌, length, filter, take, get_or, sym, ap, ◌∙◌, arith, append_assoc, subst}
use Rattle.std.specs.Prelude.{◌^◌}
use Rattle.kc_types.specs.declared.call.Call.{Call}
use Rattle.kc_types.specs.declared.reply.Reply.{Reply}
use Rattle.kc_model.specs.State.{State}
use Rattle.kc_model.specs.Next.{next, replies_from, state_after}
use Rattle.kc_model.proofs.States.Runs.{replies_from-more}
use Rattle.kc_remarks.specs.declared.denials.Denials.{Denials}
use Rattle.kc_remarks.specs.declared.remark.Note.{Note}
use Rattle.kc_remarks.specs.Remarks.{notes_by, notes_from}
use Rattle.kc_remarks.specs.Denials.{is_denied, is_denial, Counts}
use Rattle.kc_remarks.proofs.Runs.{notes-more}
use Rattle.kc_remarks.proofs.Counted.{both, of-call}

-- after a number of others
pub denied-more : (n : ℕ) (m old : State) (calls : List Call) (i : ℕ) (call : Call) (reply : Reply) (before counted now : ℕ) → i < length calls → call ≡ get_or calls i call → old ≡ state_after m (take i calls) → reply ≡ (next old call).0
    → counted ≡ before + length (filter is_denied (notes_from n m (take i calls))) → now ≡ counted + cond (is_denial reply) 1 0 → now ≡ before + length (filter is_denied (notes_from n m (take (i + 1) calls)))
denied-more n m old calls i call reply before counted now lt is from answered so_far added =
    let front = state_after m (take i calls) in
    let grown =
    ap (λ (told : List Note). length (filter is_denied told)) (notes-more n m calls i call lt is)
    ∙ both (notes_from n m (take i calls)) (notes_by (n + i) front call) in
    let one : length (filter is_denied (notes_by (n + i) front call)) ≡ cond (is_denial reply) 1 0 = rw (answered, from) (of-call (n + i) front call) in
    omega (arith, grown, one, so_far, added)

-- there is room for one more, if all calls can be counted
pub room : (before counted i n : ℕ) → before + n < 2 ^ 32 → counted ≤ before + i → i < n → counted + 1 < 2 ^ 32
room before counted i n all few lt = omega (arith, all, few, lt)

pub denied-few : (denied : Bool) (before counted now i : ℕ) → counted ≤ before + i → now ≡ counted + cond denied 1 0 → now ≤ before + (i + 1)
denied-few true before counted now i few added = omega (arith, few, added)
denied-few false before counted now i few added = omega (arith, few, added)

-- the counts go on by that call's reply
pub counted-more : (m old : State) (calls : List Call) (i : ℕ) (call : Call) (reply : Reply) (before counted now : Denials) → i < length calls → call ≡ get_or calls i call → old ≡ state_after m (take i calls) → reply ≡ (next old call).0
    → ((replies : List Reply) → Counts replies before → Counts (replies ++ replies_from m (take i calls)) counted) → ((replies : List Reply) → Counts replies counted → Counts (replies ++ reply ∷ []) now)
    → (replies : List Reply) → Counts replies before → Counts (replies ++ replies_from m (take (i + 1) calls)) now
counted-more m old calls i call reply before counted now lt is from answered so_far added replies h =
    let front = replies_from m (take i calls) in
    let last : reply ≡ (next (state_after m (take i calls)) call).0 = answered ∙ ap (λ (s : State). (next s call).0) from in
    let grown : (replies ++ front) ++ reply ∷ [] ≡ replies ++ replies_from m (take (i + 1) calls) =
    append_assoc replies front (reply ∷ [])
    ∙ ap (λ r. replies ++ (front ++ r ∷ [])) last
    ∙ ap (λ (rs : List Reply). replies ++ rs) (sym (replies_from-more m calls i call lt is)) in
    subst (λ (rs : List Reply). Counts rs now) grown (added (replies ++ front) (so_far replies h))
