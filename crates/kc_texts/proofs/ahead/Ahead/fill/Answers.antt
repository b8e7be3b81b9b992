use Rattle.std.proofs.Common.{◌≡◌, ◌++◌, drop, take, arith}
use Rattle.std.proofs.lemmas.List.{drop-append-le}
use Rattle.kc_texts.proofs.ReadAhead.{kept_ahead}
use Rattle.kc_texts.proofs.ahead.Ahead.fill.Goals as goal

pub loop-self-preserved : goal.loop-self-preserved
loop-self-preserved g c =
    let ahead = c.loop-self.self.ahead.items in
    let given = take c.in-Ok.n c.read.new.buffer in
    let moved : c.extend_from_slice.new.self.items ≡ ahead ++ given = rw c.if-is_err.ensures.negation at c.extend_from_slice.ensures.items in
    let within = c.loop-self.self.within in
    record {
      same = rw (moved, drop-append-le c.loop-self.self.position ahead given (omega (arith, within))) (kept_ahead (drop c.loop-self.self.position ahead) given _ _ _ c.loop-self.invariant.same c.in-Ok.ensures.bytes.0);
      ready = c.in-Ok.ensures.mark;
    }
