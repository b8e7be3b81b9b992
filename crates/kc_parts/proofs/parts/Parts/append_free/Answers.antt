use Rattle.std.proofs.Common.{◌≡◌, ◌++◌, ◌∷◌, [], Some, sym}
use Rattle.kc_types.specs.declared.owner.Owner.TheVariants.{Free}
use Rattle.kc_links.specs.Ending.{listed}
use Rattle.kc_parts.specs.Parts.{links_of}
use Rattle.kc_parts.specs.States.{owner_at}
use Rattle.kc_parts.proofs.FreeMoves.{free-moved, owned-appended}
use Rattle.kc_parts.proofs.parts.Parts.append_free.Goals as goal

pub append-requires-clause-list : goal.append-requires-clause-list
append-requires-clause-list c = c.requires.lists.spelled Free c.in-Some.ends.now (sym c.in-Some.ensures)

pub append-requires-clause-apart : goal.append-requires-clause-apart
append-requires-clause-apart c = c.requires.loose.absent Free c.in-Some.ends.now (sym c.in-Some.ensures)

pub returns-in-Some-clause-rest : goal.returns-in-Some-clause-rest
returns-in-Some-clause-rest c =
    let old = c.args.self.now in
    let ends = c.in-Some.ends.now in
    let free_is : old.free ≡ Some ends = sym c.in-Some.ensures in
    rw c.set_free.ensures (free-moved old c.append.new.store ends c.append.new.ends (listed (links_of old) ends ++ c.args.frame ∷ []) c.append.ensures.rest free_is c.requires.lists c.append.ensures.others
    (owned-appended (owner_at old) Free (listed (links_of old) ends) c.args.frame (λ g some. c.requires.lists.owned Free ends g free_is some) c.requires.free)
    c.append.ensures.list (λ g some. rw c.append.ensures.frames at some))
