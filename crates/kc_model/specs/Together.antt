-- Calls that are served together: all of them or none.
use Rattle.std.specs.Prelude.{ℕ, zero, suc, ◌+◌, List, [], ◌∷◌, Option, Some, None}
use Rattle.kc_types.specs.declared.call.Call.{Call}
use Rattle.kc_types.specs.declared.reply.Reply.TheVariants as reply
use Rattle.kc_types.specs.declared.refusal.Refusal.{Refusal}
use Rattle.kc_model.specs.State.{State}
use Rattle.kc_model.specs.Refusals.{refusal, or_else}
use Rattle.kc_model.specs.Effects.{Outcome}
use Rattle.kc_model.specs.Next.{next, state_after}

-- the first refusal of calls that are made one after another
abbrev pub first_refusal : State → List Call → Option Refusal
first_refusal m [] = None
first_refusal m (call ∷ calls) = or_else (refusal m call) (first_refusal (next m call).1 calls)

abbrev pub unless_one_refused : Option Refusal → State → List Call → Outcome
unless_one_refused (Some refusal) m calls = (reply.Refused refusal, m)
unless_one_refused None m calls = (reply.Done, state_after m calls)

-- if none of the calls would be refused, all are made; otherwise nothing changes
abbrev pub all_or_none : State → List Call → Outcome
all_or_none m calls = unless_one_refused (first_refusal m calls) m calls

-- a call for each of `n` numbers from `g` on
abbrev pub each_call : (ℕ → Call) → ℕ → ℕ → List Call
each_call single g zero = []
each_call single g (suc n) = single g ∷ each_call single (g + 1) n

-- a condition holds of one of two calls
abbrev pub either : List (Option Refusal) → List (Option Refusal) → List (Option Refusal)
either (first ∷ rest) (second ∷ others) = or_else first second ∷ either rest others
either _ _ = []
