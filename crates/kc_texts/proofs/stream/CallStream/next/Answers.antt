use Rattle.std.proofs.Common.{◌≡◌, ◌+◌, length, take, arith, refl, rules, ◌∙◌, ap}
use Rattle.std.proofs.lemmas.List.{length-take}
use Rattle.kc_texts.specs.Streamed.{Streamed}
use Rattle.kc_trace.specs.Machine.{Progress}
use Rattle.kc_texts.proofs.Fed.{goes_on_ok, goes_on_err, header_kept, too_many}
use Rattle.kc_texts.proofs.stream.CallStream.next.Goals as goal

pub returns-then-n-self-clause-read : goal.returns-then-n-self-clause-read
returns-then-n-self-clause-read g c e =
    let n : length (take c.in-Ok.n c.read.new.buffer) ≡ c.in-Ok.n = omega (arith, length-take c.in-Ok.n c.read.new.buffer, c.in-Ok.ensures.bound) in
    too_many c.args.self.now _ (take c.in-Ok.n c.read.new.buffer) c.loop-alloc.calls.items c.in-Ok.n _ (g.T.Source.left c.args.source.now) (g.T.Source.left c.loop-alloc.source) (g.T.Source.left c.read.new.self)
    c.loop-alloc.invariant.on c.in-Ok.ensures.bytes.0 n (omega (arith, c.if-n-self.true, c.loop-alloc.invariant.few))

pub loop-alloc-preserved-in-Ok-joined : goal.loop-alloc-preserved-in-Ok-joined
loop-alloc-preserved-in-Ok-joined g c =
    let after : Streamed = record { reader = c.feed.new.self; total = c.loop-alloc.self-inside.total + c.in-Ok.n } in
    record {
      on = goes_on_ok c.args.self.now _ after (c.split_at.result.0.now) c.loop-alloc.calls.items c.in-Ok-feed.more.items c.in-Ok-joined.all.items c.in-Ok.n (g.T.Source.left c.args.source.now) (g.T.Source.left c.loop-alloc.source) (g.T.Source.left c.read.new.self)
          c.loop-alloc.invariant.on (rw c.split_at.ensures.front c.in-Ok.ensures.bytes.0) c.in-Ok-feed.ensures.answer c.in-Ok-feed.ensures.ok c.split_at.ensures.front_len refl c.in-Ok-joined.ensures;
      header = λ header is. header_kept _ _ _ _ header (c.loop-alloc.invariant.header header is) c.in-Ok-feed.ensures.answer;
      more = λ some. let past = c.if-n-eq0.false in omega (arith, c.loop-alloc.invariant.up, past);
      up = omega (arith, c.loop-alloc.invariant.up);
      few = search rules;
      whole = c.in-Ok.ensures.mark;
    }

pub loop-alloc-preserved : goal.loop-alloc-preserved
loop-alloc-preserved g c =
    let after : Streamed = record { reader = c.feed.new.self; total = c.loop-alloc.self-inside.total + c.in-Ok.n } in
    record {
      on = goes_on_err c.args.self.now _ after (c.split_at.result.0.now) c.loop-alloc.calls.items c.in-Err-feed.fault c.in-Ok.n (g.T.Source.left c.args.source.now) (g.T.Source.left c.loop-alloc.source) (g.T.Source.left c.read.new.self)
          c.loop-alloc.invariant.on (rw c.split_at.ensures.front c.in-Ok.ensures.bytes.0) c.in-Err-feed.ensures.answer c.in_default.not-Memory (c.in-Err-feed.ensures.fault c.in_default.not-Memory) c.split_at.ensures.front_len refl c.in-Err-feed.ensures.kept;
      header = λ header is. ap (λ (p : Progress). p.header) c.in-Err-feed.ensures.kept ∙ c.loop-alloc.invariant.header header is;
      more = λ some. let past = c.if-n-eq0.false in omega (arith, c.loop-alloc.invariant.up, past);
      up = omega (arith, c.loop-alloc.invariant.up);
      few = search rules;
      whole = c.in-Ok.ensures.mark;
    }
