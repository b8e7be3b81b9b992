use Rattle.kc_parts.proofs.Taking.{still-here}
use Rattle.kc_parts.proofs.parts.Parts.lift_pages.Goals as goal

pub lift_page-requires-clause-here : goal.lift_page-requires-clause-here
lift_page-requires-clause-here c =
    still-here c.args.numbers.now c.loop-at.at c.args.self.now c.loop-at.self c.requires.rising c.loop-at-test.true c.loop-at.invariant.rest (c.requires.here c.loop-at.at c.loop-at-test.true)
