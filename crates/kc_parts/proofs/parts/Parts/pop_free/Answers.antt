use Rattle.std.proofs.Common.{◌≡◌, Some, sym, refl}
use Rattle.kc_types.specs.declared.owner.Owner.TheVariants.{Free}
use Rattle.kc_links.specs.Ending.{listed}
use Rattle.kc_parts.specs.Parts.{links_of}
use Rattle.kc_parts.proofs.FreeMoves.{free-moved, loose-first, popped-within}
use Rattle.kc_parts.proofs.parts.Parts.pop_free.Goals as goal

pub pop_front-frame-requires : goal.pop_front-frame-requires
pop_front-frame-requires c = c.requires.lists.spelled Free c.in_ok-ends.field-0.now (sym c.in_ok-ends.ensures)

pub returns-clause-loose : goal.returns-clause-loose
returns-clause-loose c =
    let old = c.args.self.now in
    let ends = c.in_ok-ends.field-0.now in
    let free_is : old.free ≡ Some ends = sym c.in_ok-ends.ensures in
    rw c.set_free.ensures (loose-first old c.pop_front-frame.new.store ends c.pop_front-frame.new.ends (listed (links_of old) ends) c.pop_front-frame.ensures.rest free_is c.requires.lists c.pop_front-frame.ensures.others
    (λ g some. c.requires.lists.owned Free ends g free_is some) c.pop_front-frame.result c.pop_front-frame.ensures.frames refl c.pop_front-frame.ensures.alone)

pub returns-clause-rest : goal.returns-clause-rest
returns-clause-rest c =
    let old = c.args.self.now in
    let ends = c.in_ok-ends.field-0.now in
    let free_is : old.free ≡ Some ends = sym c.in_ok-ends.ensures in
    rw c.set_free.ensures (free-moved old c.pop_front-frame.new.store ends c.pop_front-frame.new.ends (listed (links_of old) ends) c.pop_front-frame.ensures.rest free_is c.requires.lists c.pop_front-frame.ensures.others
    (λ g some. c.requires.lists.owned Free ends g free_is some) c.pop_front-frame.ensures.list (popped-within _ _ c.pop_front-frame.result c.pop_front-frame.ensures.frames))
