use Rattle.std.proofs.Common.{◌≡◌, length, length-set, ap, ◌∙◌, arith}
use Rattle.kc_parts.proofs.Chunked.{length-of}
use Rattle.kc_parts.proofs.chunk.Chunk.get_mut.Goals as goal

pub invariant_of-self-lent : goal.invariant_of-self-lent
invariant_of-self-lent c = λ _.
    let p = c.self.inside in
    let was = c.self.invariant in
    let long : length c.make.new.pages.items ≡ p.count = ap length c.make.ensures.items ∙ length-of p.layout p.first p.count p.pages.items was.whole in (
      λ w. record { few = was.few; within = was.within; small = was.small; whole = λ some. length-set c.make.new.pages.items c.args.at w ∙ long; room = omega (arith, was.room, c.make.ensures.capacity) },
      record { few = was.few; within = was.within; small = was.small; whole = λ some. long; room = omega (arith, was.room, c.make.ensures.capacity) },
    )
