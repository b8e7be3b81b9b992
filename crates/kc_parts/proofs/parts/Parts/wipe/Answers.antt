use Rattle.std.proofs.Common.{refl}
use Rattle.kc_page.specs.Page.{scrubbed_page}
use Rattle.kc_parts.proofs.Blanks.{held-changed}
use Rattle.kc_parts.proofs.parts.Parts.wipe.Goals as goal

pub invariant_of-self : goal.invariant_of-self
invariant_of-self g c =
    let p = c.self.inside in
    rw c.scrub.ensures (held-changed scrubbed_page p.numbers p.filled p.pages refl c.self.invariant)
