use Rattle.std.proofs.Common.{refl}
use Rattle.kc_parts.specs.Marks.{scrubbed_if_marked}
use Rattle.kc_parts.proofs.Blanks.{held-changed}
use Rattle.kc_parts.proofs.parts.Parts.scrub_marked.Goals as goal

pub invariant_of-self : goal.invariant_of-self
invariant_of-self c =
    let p = c.self.inside in
    rw c.scrub_marked.ensures (held-changed (scrubbed_if_marked c.args.marks.now) p.numbers p.filled p.pages refl c.self.invariant)
