use Rattle.std.proofs.Common.{sym, arith}
use Rattle.kc_dump_text.proofs.ReadLines.{all-bytes}
use Rattle.kc_dump_text.proofs.ranges.are_bytes.Goals as goal

pub returns : goal.returns
returns c = sym (all-bytes c.args.bytes.now (λ k. omega (arith, c.type_inv.bytes k)))
