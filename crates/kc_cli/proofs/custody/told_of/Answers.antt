use Rattle.kc_cli.proofs.Volumes.{heading_so}
use Rattle.kc_cli.proofs.custody.told_of.Goals as goal

pub returns-clause-heading : goal.returns-clause-heading
returns-clause-heading c =
    heading_so c.args.order.scope c.args.order.origin c.args.start c.args.entries.items _ _ (rw (c.trace_digest-trace.ensures, c.as_slice.ensures.value, c.first_number-first.ensures, c.as_slice-2.ensures.value) at c.digests_by.ensures)
    c.chain_of-volumes.ensures.chain
