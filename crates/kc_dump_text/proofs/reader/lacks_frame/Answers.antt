use Rattle.std.proofs.Common.{inr, arith}
use Rattle.kc_dump_text.proofs.reader.lacks_frame.Goals as goal

pub returns-clause-yes : goal.returns-clause-yes
returns-clause-yes c lacks = (omega (arith, c.if-place-slots.false, c.slots.ensures.value), omega (arith, c.if-sizes-place.false), inr (c.in-Some._other.0, c.in-Some._other.1, c.in-Some._other.2.now, c.in-Some.ensures.0, c.in-Some.ensures.1))
