use Rattle.std.proofs.Common.{arith}
use Rattle.kc_live.proofs.Logs.{served_none}
use Rattle.kc_live.proofs.journal.Journal.of.Goals as goal

pub invariant_of-result : goal.invariant_of-result
invariant_of-result c = (
  rw c.in_ok-with_capacity.ensures.items (served_none 0 c.args.core.state c.requires.lawful),
  c.in_ok-with_capacity.ensures.capacity,
  omega arith,
  c.in_ok-new.ensures,
  rw (c.in_ok-header.ensures, c.config.ensures.value) c.requires.header,
)
