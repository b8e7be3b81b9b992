use Rattle.std.proofs.Common.{◌≡◌, ◌<◌, ℕ, true, false, length, get_or, [], sym, ◌∙◌, arith}
use Rattle.std.proofs.lemmas.Grind.{common_steps}
use Rattle.kc_footprints.specs.Members.{has_member}
use Rattle.kc_footprints.specs.Planner.{Reached}
use Rattle.kc_footprints.proofs.Joins.{related_more}
use Rattle.kc_footprints.proofs.reaches.Reaches.relate.Goals as goal
use Rattle.kc_footprints.proofs.reaches.Reaches.relate.Goals.{then-contains+in_ok-add, else-contains}

pub loop-other-preserved : goal.loop-other-preserved
loop-other-preserved c =
    let inside = c.loop-other.self-inside in
    let b : Reached = record { sets = inside.sets; near = inside.near; freed = inside.freed.items } in
    let n : ℕ = c.loop-other.other in
    let so_far = c.loop-other.invariant in
    let as_many : length c.args.self.now.near ≡ length c.args.self.now.sets = c.requires.near in
    let low : c.args.principal < length inside.near = let l = so_far.near_len in let r = c.requires.sets in omega arith in
    elim c.if-contains.branch [
      | then-contains+in_ok-add w ↦
          (let has : has_member (get_or c.args.self.now.sets n []) c.args.frame ≡ true = rw (← so_far.sets) (sym c.contains.ensures ∙ w.if-contains.true) in
          rw w.self-inside-is
          (related_more n c.args.principal c.args.frame c.args.self.now b w.add.new.self low c.requires.has has w.in_ok-add.ensures.ok so_far))
      | else-contains w ↦
          (let has_not : has_member (get_or c.args.self.now.sets n []) c.args.frame ≡ false = rw (← so_far.sets) (sym c.contains.ensures ∙ w.if-contains.false) in
          rw w.self-inside-is (grind (arith, common_steps)))
    ]
