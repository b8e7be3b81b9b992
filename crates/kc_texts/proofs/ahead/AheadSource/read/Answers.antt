use Rattle.std.proofs.Common.{◌≡◌, [], drop, arith}
use Rattle.std.proofs.lemmas.List.{drop_all}
use Rattle.kc_texts.proofs.ReadAhead.{prepended_nothing}
use Rattle.kc_texts.proofs.ahead.AheadSource.read.Goals as goal

pub returns-then-self-len-clause-bytes : goal.returns-then-self-len-clause-bytes
returns-then-self-len-clause-bytes g c =
    let ahead = c.args.self.now.ahead.items in
    let none : drop c.args.self.now.position ahead ≡ [] = drop_all c.args.self.now.position ahead (omega (arith, c.if-self-len.true, c.len.ensures)) in
    rw (none, prepended_nothing, prepended_nothing) c.read.ensures.bytes
