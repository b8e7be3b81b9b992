use Rattle.std.proofs.Common.{◌≡◌, ◌+◌, ◌*◌, ◌<◌, ◌≤◌, length, get_or, [], arith, rules}
use Rattle.std.proofs.lemmas.Grind.{common_steps}
use Rattle.kc_footprints.specs.Members.{with_member, AreFlags}
use Rattle.kc_footprints.proofs.Added.{flags_same, flags_added}
use Rattle.kc_footprints.proofs.reach_sets.ReachSets.add.Goals as goal

pub invariant_of-self-2 : goal.invariant_of-self-2
invariant_of-self-2 c =
    let inside = c.self.inside in
    let low : c.args.principal < length inside.sets.items = rw c.self.view_is c.requires in
    let count : c.len.result ≡ length inside.sets.items = search rules in
    let more : length inside.flags.items ≤ c.max-room.result = grind (arith, common_steps) in
    let are : AreFlags inside.sets.items c.resize.new.self.items = flags_same inside.sets.items inside.flags.items c.resize.new.self.items c.max-room.result _ more c.in_ok-resize.ensures.items c.self.invariant in
    let room : c.args.number * length inside.sets.items + c.args.principal < length c.resize.new.self.items = rw (← count) (grind (arith, common_steps)) in
    let new : c.add.new.self ≡ with_member (get_or inside.sets.items c.args.principal []) c.args.number = grind (arith, common_steps) in
    rw (count, new) (flags_added inside.sets.items c.resize.new.self.items c.args.principal c.args.number low room are)
