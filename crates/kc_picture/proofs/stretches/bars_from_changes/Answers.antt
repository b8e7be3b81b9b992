use Rattle.std.proofs.Common.{◌≡◌, ◌<◌, ◌+◌, ◌-◌, length, arith, slice_index_or}
use Rattle.std.proofs.lemmas.Grind.{common_steps}
use Rattle.kc_picture.proofs.Noted.{AreNoted, in-at, noted-frame}
use Rattle.kc_picture.proofs.stretches.bars_from_changes.Goals as goal

pub index-requires : goal.index-requires
index-requires c =
    let low : c.loop-i.i - 1 < length c.args.events.now = omega arith in
    let within = in-at c.args.frames (c.loop-i.i - 1) c.args.events.now c.index-events-i.result c.in-Some.told low c.index-events-i.is c.in-Some.ensures c.requires in
    let long = c.loop-i.invariant.lines.long in
    grind (arith, common_steps, within, long)

pub index_mut-requires : goal.index_mut-requires
index_mut-requires c =
    let low : c.loop-i.i - 1 < length c.args.events.now = omega arith in
    let within = in-at c.args.frames (c.loop-i.i - 1) c.args.events.now c.index-events-i.result c.in-Some.told low c.index-events-i.is c.in-Some.ensures c.requires in
    let long = c.loop-i.invariant.lines.long in
    grind (arith, common_steps, within, long)

pub loop-i-preserved-in-Some : goal.loop-i-preserved-in-Some
loop-i-preserved-in-Some c =
    let low : c.loop-i.i - 1 < length c.args.events.now = omega arith in
    let up : c.loop-i.i ≡ c.loop-i.i - 1 + 1 = omega arith in
    let before : AreNoted c.args.frames c.args.end (c.loop-i.i - 1 + 1) c.args.events.now c.loop-i.bars.items c.loop-i.next.items = rw (← up) c.loop-i.invariant in
    let after = noted-frame c.args.frames c.args.end (c.loop-i.i - 1) c.args.events.now c.index-events-i.result c.in-Some.told c.loop-i.bars.items c.loop-i.next.items low c.index-events-i.is c.in-Some.ensures c.requires before in
    let pushed = c.in_ok-push.ensures.items in
    let within = in-at c.args.frames (c.loop-i.i - 1) c.args.events.now c.index-events-i.result c.in-Some.told low c.index-events-i.is c.in-Some.ensures c.requires in
    let long : c.in-Some.told.frame < length c.loop-i.next.items = rw (c.loop-i.invariant.lines.long) within in
    let read : c.index.result.now ≡ slice_index_or c.loop-i.next.items c.in-Some.told.frame 0 = grind (arith, common_steps, c.index.ensures, long) in
    rw (pushed, read) after
