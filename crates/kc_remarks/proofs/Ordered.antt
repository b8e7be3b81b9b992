-- Attempts are in the order of their lines, so those of a life are between two places.
use Rattle.std.proofs.Common.{ℕ, zero, suc, ◌≡◌, ◌<◌, ◌≤◌, ◌+◌, Bool, true, false, cond, List, [], ◌∷◌, ◌++◌, take, drop, length, get_or, leb, ltb, leb-true, Option, Some, None, refl, sym, ap, subst, ◌∙◌, arith, rules}
use Rattle.std.specs.Prelude.{IfSome, nat_lt, filter, slice_index_or}
use Rattle.std.specs.Option.{option_map, option_to_list}
use Rattle.kc_types.specs.Slots.{vm_of}
use Rattle.kc_types.specs.declared.call.Call.{Call}
use Rattle.kc_types.specs.declared.custody.Life.{Life}
use Rattle.kc_types.specs.declared.refusal.Refusal.{Refusal}
use Rattle.kc_types.specs.declared.reply.Reply.{Reply}
use Rattle.kc_types.specs.declared.reply.Reply.TheVariants as reply
use Rattle.kc_model.specs.State.{State}
use Rattle.kc_model.specs.Next.{next}
use Rattle.kc_remarks.specs.declared.attempt.Attempt.{Attempt}
use Rattle.kc_remarks.specs.declared.remark.NamedFrame.{NamedFrame}
use Rattle.kc_remarks.specs.Remarks.{named_by, notes_by, notes_from}
use Rattle.kc_remarks.specs.Attempts.{AreInOrder, attempt_at, attempt_on, attempt_told, attempts_in, is_before, is_in_life, attempts_in_life}
use Rattle.kc_remarks.proofs.Attempts.{of-call, both}

-- ---- those of a life are between two places

too_early : (life : Life) (a : Attempt) → a.line ≤ life.registered → is_in_life life a ≡ false
too_early life a le = search rules

too_late : (life : Life) (end : ℕ) (a : Attempt) → life.cleared ≡ Some end → end ≤ a.line → is_in_life life a ≡ false
too_late life end a is le = search rules

-- the first ones can be left out if they are too early
pub first_left_out : (life : Life) (xs : List Attempt) (n : ℕ) → ((k : ℕ) (d : Attempt) → k < n → k < length xs → (slice_index_or xs k d).line ≤ life.registered) → attempts_in_life life (drop n xs) ≡ attempts_in_life life xs
first_left_out life xs zero early = refl
first_left_out life [] (suc n) early = refl
first_left_out life (x ∷ xs) (suc n) early =
    first_left_out life xs n (λ k d lt inside. early (suc k) d (omega arith) (omega arith))
    ∙ sym (ap (λ b. cond b (x ∷ attempts_in_life life xs) (attempts_in_life life xs)) (too_early life x (early 0 x (omega arith) (omega arith))))

-- and the last ones if they are too late
pub last_left_out : (life : Life) (end : ℕ) (xs : List Attempt) (n : ℕ) → life.cleared ≡ Some end → ((k : ℕ) (d : Attempt) → n ≤ k → k < length xs → end ≤ (slice_index_or xs k d).line) → attempts_in_life life (take n xs) ≡ attempts_in_life life xs
last_left_out life end [] zero is late = refl
last_left_out life end [] (suc n) is late = refl
last_left_out life end (x ∷ xs) zero is late =
    last_left_out life end xs zero is (λ k d le lt. late (suc k) d (omega arith) (omega arith))
    ∙ sym (ap (λ b. cond b (x ∷ attempts_in_life life xs) (attempts_in_life life xs)) (too_late life end x is (late 0 x (omega arith) (omega arith))))
last_left_out life end (x ∷ xs) (suc n) is late =
    ap (λ rest. cond (is_in_life life x) (x ∷ rest) rest) (last_left_out life end xs n is (λ k d le lt. late (suc k) d (omega arith) (omega arith)))

-- ---- the attempts among the notes on calls

-- they are on lines from this one on
abbrev AreFrom : ℕ → List Attempt → Type 0
AreFrom n xs = (k : ℕ) (d : Attempt) → k < length xs → n ≤ (slice_index_or xs k d).line

in_order_cons : (x : Attempt) (xs : List Attempt) → AreFrom x.line xs → AreInOrder xs → AreInOrder (x ∷ xs)
in_order_cons x xs above order zero zero d le lt = omega arith
in_order_cons x xs above order zero (suc j) d le lt = above j d (omega arith)
in_order_cons x xs above order (suc i) zero d le lt = absurd (omega (arith, le))
in_order_cons x xs above order (suc i) (suc j) d le lt = order i j d (omega arith) (omega arith)

from_cons : (n : ℕ) (x : Attempt) (xs : List Attempt) → x.line ≡ n → AreFrom (n + 1) xs → AreFrom n (x ∷ xs)
from_cons n x xs is above zero d lt = omega (arith, is)
from_cons n x xs is above (suc k) d lt = omega (arith, above k d (omega arith))

joined : (n : ℕ) (found : Option Attempt) (xs : List Attempt) → IfSome found (λ a. a.line ≡ n) → AreInOrder xs → AreFrom (n + 1) xs → AreInOrder (option_to_list found ++ xs) × AreFrom n (option_to_list found ++ xs)
joined n None xs is order above = (order, λ k d lt. omega (arith, above k d lt))
joined n (Some a) xs is order above = (in_order_cons a xs (λ k d lt. omega (arith, is, above k d lt)) order, from_cons n a xs is above)

line_at : (n : ℕ) (reason : Refusal) (vm : Option ℕ) → IfSome (option_map (attempt_at n reason) vm) (λ a. a.line ≡ n)
line_at n reason None = tt
line_at n reason (Some v) = refl

line_on : (n : ℕ) (named : Option NamedFrame) (reason : Refusal) → IfSome (attempt_on n named reason) (λ a. a.line ≡ n)
line_on n None reason = tt
line_on n (Some named) reason = line_at n reason (vm_of named.owner)

line_told : (n : ℕ) (named : Option NamedFrame) (answer : Reply) → IfSome (attempt_told n named answer) (λ a. a.line ≡ n)
line_told n named (reply.Refused reason) = line_on n named reason
line_told n named _ = tt

told_from : (n : ℕ) (m : State) (calls : List Call) → AreInOrder (attempts_in (notes_from n m calls)) × AreFrom n (attempts_in (notes_from n m calls))
told_from n m [] = (λ i j d le lt. absurd (omega (arith, lt)), λ k d lt. absurd (omega (arith, lt)))
told_from n m (call ∷ calls) =
    let rest = told_from (n + 1) (next m call).1 calls in
    let more = attempts_in (notes_from (n + 1) (next m call).1 calls) in
    let split : attempts_in (notes_from n m (call ∷ calls)) ≡ option_to_list (attempt_told n (named_by m call) (next m call).0) ++ more =
    both (notes_by n m call) (notes_from (n + 1) (next m call).1 calls) ∙ ap (λ (xs : List Attempt). xs ++ more) (of-call n m call) in
    rw split (joined n (attempt_told n (named_by m call) (next m call).0) more (line_told n (named_by m call) (next m call).0) rest.0 rest.1)

pub told_in_order : (n : ℕ) (m : State) (calls : List Call) → AreInOrder (attempts_in (notes_from n m calls))
told_in_order n m calls = (told_from n m calls).0
