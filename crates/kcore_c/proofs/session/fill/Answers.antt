use Rattle.std.proofs.Common.{length, drop, refl}
use Rattle.std.proofs.lemmas.List.{take_at, drop_at}
use Rattle.kcore_c.proofs.session.fill.Goals as goal

pub returns-clause-front : goal.returns-clause-front
returns-clause-front c = rw c.copy_from_slice.ensures.after (take_at c.args.bytes.now (drop (length c.args.bytes.now) c.args.out.now) (length c.args.bytes.now) refl)

pub returns-clause-rest : goal.returns-clause-rest
returns-clause-rest c = rw c.copy_from_slice.ensures.after (drop_at c.args.bytes.now (drop (length c.args.bytes.now) c.args.out.now) (length c.args.bytes.now) refl)
