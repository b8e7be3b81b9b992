use Rattle.std.proofs.Common.{None}
use Rattle.kc_state_text.proofs.OneRun.{one-run}
use Rattle.kc_state_text.proofs.laws.one_run.Goals as goal

pub returns : goal.returns
returns c = one-run (λ m n has is-m is-n short e. (c.one_text.ensures None None m n tt tt has is-m is-n short e).1)
