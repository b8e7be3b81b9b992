use Rattle.std.proofs.Common.{◌++◌, take, arith, inr, length-append}
use Rattle.std.proofs.lemmas.List.{length-take}
use Rattle.std.proofs.KnownBytes.{Consumes-trans}
use Rattle.kc_texts.proofs.whole.read_whole.Goals as goal

pub returns-then-n-len-clause-read : goal.returns-then-n-len-clause-read
returns-then-n-len-clause-read g c =
    let given = take c.in-Ok.n c.read.new.buffer in
    λ e. inr (
      c.loop-n.all.items ++ given,
      Consumes-trans _ _ _ c.loop-n.all.items given c.loop-n.invariant.read c.in-Ok.ensures.bytes.0,
      omega (arith, length-append c.loop-n.all.items given, length-take c.in-Ok.n c.read.new.buffer, c.in-Ok.ensures.bound, c.loop-n.all.ok.0),
    )
