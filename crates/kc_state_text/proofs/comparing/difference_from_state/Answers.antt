use Rattle.std.proofs.Common.{◌+◌, ap, rules, subst, List, ℕ}
use Rattle.kc_state_text.specs.Differences.{PartAfter}
use Rattle.kc_state_text.proofs.comparing.difference_from_state.Goals as goal

pub returns-in-Some : goal.returns-in-Some
returns-in-Some g c = (c.in-Some.count, subst (λ (other : List ℕ). PartAfter c.in-Some.count c.args.text.now other) c.in_ok-pieces.ensures c.in-Some.ensures, ap (λ n. 1 + n) c.newlines.ensures.number)
