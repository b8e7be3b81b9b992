-- A grant is a grant of a range of one guest frame, and so is a revoke.
use Rattle.std.proofs.Common.{ℕ, Option, Some, None, ◌≡◌, ◌+◌, Bool, true, false, ◌||◌, nat_le, nat_lt, refl, ap, ◌∙◌, arith}
use Rattle.std.proofs.lemmas.Grind.{common_steps}
use Rattle.kc_types.specs.Limits.{share_limit}
use Rattle.kc_types.specs.Configuration.{gfns_of}
use Rattle.kc_types.specs.declared.call.Call.TheVariants.{Grant, GrantRange}
use Rattle.std.specs.Option.{is_none}
use Rattle.kc_types.specs.declared.refusal.Refusal.{Refusal}
use Rattle.kc_model.specs.State.{State, mapped_at}
use Rattle.kc_model.specs.Refusals.{refusal, share_at}
use Rattle.kc_model.specs.Next.{next, unless_refused}

or-none : (b : Bool) → (b || false) ≡ b
or-none true = refl
or-none false = refl

one-gfn : (limit g : ℕ) → (nat_le limit g || nat_lt limit (g + 1)) ≡ nat_le limit g
one-gfn limit g = grind (arith, common_steps)

pub refused-as-one : (m : State) (v c g : ℕ) → refusal m (GrantRange v c g 1) ≡ refusal m (Grant v c g)
refused-as-one m v c g = rw (one-gfn (gfns_of m.config.version) g, or-none (is_none (mapped_at m v g)), or-none (nat_le share_limit (share_at m v g))) refl

served-as-one : (r : Option Refusal) (m : State) (v c g : ℕ) → unless_refused r m (GrantRange v c g 1) ≡ unless_refused r m (Grant v c g)
served-as-one None m v c g = refl
served-as-one (Some r) m v c g = refl

pub grant-is-range : (m : State) (v c g : ℕ) → next m (GrantRange v c g 1) ≡ next m (Grant v c g)
unfolding next
grant-is-range m v c g = served-as-one (refusal m (GrantRange v c g 1)) m v c g ∙ ap (λ r. unless_refused r m (Grant v c g)) (refused-as-one m v c g)
