use Rattle.std.proofs.lemmas.Bool.{eqb-true, eq-eqb}
use Rattle.std.proofs.lemmas.Slice.Eq.{strip_prefix_is}
use Rattle.kc_state_text.proofs.header.after.Goals as goal

pub returns : goal.returns
returns c = strip_prefix_is (λ a b. (eqb-true a b, eq-eqb a b)) c.args.text.now c.args.bytes.now c.strip_prefix.result c.strip_prefix.ensures.cases
