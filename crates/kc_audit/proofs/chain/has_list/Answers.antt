use Rattle.std.proofs.Common.{◌≡◌, sym, ◌∙◌}
use Rattle.std.proofs.lemmas.Bool.{eqb-true}
use Rattle.kc_audit.specs.Walking.{count_owned}
use Rattle.kc_audit.proofs.Chained.{has-list, list-walks}
use Rattle.kc_audit.proofs.chain.has_list.Goals as goal

pub returns-then-ends-owned : goal.returns-then-ends-owned
returns-then-ends-owned c =
    let lines = c.args.lines.now in
    let owner = c.args.owner.now in
    let ends = c.args.ends.now in
    let count : ends.count ≡ count_owned lines owner = c.if-ends-owned.true ∙ c.requires.owned in (
      λ yes. has-list lines owner c.requires.listed ends count (c.walks.ensures.0 yes),
      λ h. c.walks.ensures.1 (list-walks lines owner c.requires.listed ends h).1,
    )

pub returns-else-ends-owned : goal.returns-else-ends-owned
returns-else-ends-owned c =
    let lines = c.args.lines.now in
    let owner = c.args.owner.now in
    let ends = c.args.ends.now in (
      λ t. absurd (c.if-ends-owned.false (eqb-true ends.count c.args.owned t)),
      λ h. absurd (c.if-ends-owned.false ((list-walks lines owner c.requires.listed ends h).0 ∙ sym c.requires.owned)),
    )
