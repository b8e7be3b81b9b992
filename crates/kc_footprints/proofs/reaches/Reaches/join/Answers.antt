use Rattle.std.proofs.Common.{arith, rules, length}
use Rattle.std.proofs.lemmas.Grind.{common_steps}
use Rattle.kc_footprints.specs.Planner.{Reached}
use Rattle.kc_footprints.proofs.Joins.{joined}
use Rattle.kc_footprints.proofs.reaches.Reaches.join.Goals as goal

pub returns : goal.returns
returns c =
    let inside = c.self.inside in
    let m : Reached = record { sets = c.add.new.self; near = inside.near; freed = inside.freed.items } in
    joined (length c.args.self.now.sets) c.args.free c.args.principal c.args.frame (length m.sets) c.args.self.now m c.relate.new.self c.requires.principal c.requires.exact
    (grind (arith, common_steps)) (search rules) (search rules) (grind (arith, common_steps)) c.in_ok-relate.ensures
