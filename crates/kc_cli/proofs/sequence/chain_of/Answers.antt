use Rattle.std.proofs.Common.{◌∙◌, length, ap, arith}
use Rattle.kc_cli.proofs.Volumes.{listed_short, chain_so}
use Rattle.kc_cli.proofs.sequence.chain_of.Goals as goal

pub overflow_cast-chain : goal.overflow_cast-chain
overflow_cast-chain c =
    let short = listed_short c.args.entries.items in
    let same = ap length c.listed-volumes.ensures in
    let few = c.requires.few in
    omega (arith, short, same, few)

pub returns-clause-chain : goal.returns-clause-chain
returns-clause-chain c =
    chain_so c.args.entries.items _ _ (c.len.ensures ∙ c.listed-volumes.result.ok.0 ∙ ap length c.listed-volumes.ensures) (rw c.as_slice.ensures.value at c.order_of-order.ensures)
