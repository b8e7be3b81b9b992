use Rattle.std.proofs.Common.{◌≡◌, map}
use Rattle.kc_cli.proofs.live.calls_in.Given as goal

abbrev pub invariant-loop-entry : goal.invariant-loop-entry
invariant-loop-entry l = l.calls.items ≡ map (λ e. e.call) l.yielded
