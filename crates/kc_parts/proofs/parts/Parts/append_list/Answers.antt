use Rattle.std.proofs.Common.{ℕ, ◌≡◌, ◌<◌, inl, inr, List, ◌++◌, Some, sym, arith}
use Rattle.kc_types.specs.declared.owner.Owner.{Owner}
use Rattle.kc_types.specs.declared.owner.Owner.TheVariants.{Free}
use Rattle.kc_model.specs.Lawful.{times_in}
use Rattle.kc_model.proofs.States.Members.{times_in-append}
use Rattle.kc_links.specs.Ending.{listed}
use Rattle.kc_parts.specs.Parts.{links_of}
use Rattle.kc_parts.specs.States.{owner_at}
use Rattle.kc_parts.proofs.FreeMoves.{free-moved}
use Rattle.kc_parts.proofs.Moving.{none-or-some}
use Rattle.kc_parts.proofs.parts.Parts.append_list.Goals as goal

-- the frames of two lists of one owner
owned-joined : (owner_at : ℕ → Owner) (owner : Owner) (a b : List ℕ) → ((g : ℕ) → 0 < times_in a g → owner_at g ≡ owner) → ((g : ℕ) → 0 < times_in b g → owner_at g ≡ owner)
    → (g : ℕ) → 0 < times_in (a ++ b) g → owner_at g ≡ owner
owned-joined owner_at owner a b in_a in_b g some = elim (none-or-some (times_in a g)) [
  | inl none ↦ in_b g (let whole = times_in-append a b g in omega (arith, whole, none, some))
  | inr more ↦ in_a g more
]

pub splice-requires-clause-list : goal.splice-requires-clause-list
splice-requires-clause-list c = c.requires.lists.spelled Free c.in-Some.ends.now (sym c.in-Some.ensures)

pub returns-in-Some-clause-rest : goal.returns-in-Some-clause-rest
returns-in-Some-clause-rest c =
    let old = c.args.self.now in
    let ends = c.in-Some.ends.now in
    let free_is : old.free ≡ Some ends = sym c.in-Some.ensures in
    rw c.set_free.ensures (free-moved old c.splice.new.store ends c.splice.new.to (listed (links_of old) ends ++ listed (links_of old) c.args.list) c.splice.ensures.rest free_is c.requires.lists c.splice.ensures.others
    (owned-joined (owner_at old) Free (listed (links_of old) ends) (listed (links_of old) c.args.list) (λ g some. c.requires.lists.owned Free ends g free_is some) c.requires.free)
    c.splice.ensures.list (λ g some. rw c.splice.ensures.frames at some))
