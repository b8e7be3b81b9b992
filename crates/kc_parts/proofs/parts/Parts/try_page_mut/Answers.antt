use Rattle.kc_parts.proofs.Blanks.{held-page}
use Rattle.kc_parts.proofs.parts.Parts.try_page_mut.Goals as goal

pub invariant_of-self-lent : goal.invariant_of-self-lent
invariant_of-self-lent c = λ _. let p = c.self.inside in
    (λ w. rw c.place_in-at.ensures (held-page p.numbers p.filled p.pages c.args.frame w c.self.invariant), c.self.invariant)
