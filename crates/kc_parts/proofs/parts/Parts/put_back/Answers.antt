use Rattle.kc_parts.proofs.parts.Parts.put_back.Goals as goal
use Rattle.kc_parts.proofs.parts.Parts.put_back.Goals.{then-is_some, else-is_some}

pub put_back-requires : goal.put_back-requires
put_back-requires c = λ v vm e. rw (← c.self.view_is, ← c.other.view_is) at (c.requires.slots v vm) e

pub lay_pages-requires-clause-fits : goal.lay_pages-requires-clause-fits
lay_pages-requires-clause-fits c = λ f page e.
    let was = rw (← c.self.view_is, ← c.other.view_is) at (c.requires.pages f page) in
    elim c.if-is_some.branch [
      | then-is_some w ↦ rw w.self-is (was e)
      | else-is_some w ↦ rw w.self-is (was e)
    ]
