use Rattle.std.proofs.Common.{◌≡◌, ◌<◌, ◌+◌, ◌-◌, ◌++◌, map, reverse, length, arith, slice_index_or}
use Rattle.std.proofs.lemmas.Grind.{common_steps}
use Rattle.std.specs.List.{range_with_len}
use Rattle.kc_model.specs.Boot.{boot}
use Rattle.kc_model.specs.Events.{changes_in}
use Rattle.kc_model.specs.Bars.{later_bars, first_bar, next_line}
use Rattle.kc_picture.proofs.Noted.{more-first}
use Rattle.kc_picture.proofs.stretches.bars.Goals as goal

pub loop-frame-preserved : goal.loop-frame-preserved
loop-frame-preserved c =
    let m = boot c.args.config.now in
    let changes = changes_in c.args.events.now in
    let later = later_bars c.args.end changes in
    let g = c.loop-frame.frame - 1 in
    let low : c.loop-frame.frame - 1 < c.args.config.now.frames = omega (arith, c.frames-frame.ensures.value) in
    let up : c.loop-frame.frame ≡ c.loop-frame.frame - 1 + 1 = omega arith in
    let before : reverse c.loop-frame.bars.items ≡ map (first_bar m c.args.end changes) (range_with_len (c.loop-frame.frame - 1 + 1) (c.args.config.now.frames - (c.loop-frame.frame - 1 + 1))) ++ later = rw (← up) c.loop-frame.invariant in
    let after = more-first g c.args.config.now.frames m c.args.end changes c.loop-frame.bars.items later low before in
    let count : c.frames.result ≡ c.args.config.now.frames = c.frames.ensures.value in
    let to : slice_index_or c.in_ok-bars.next.items g 0 ≡ next_line c.args.end g changes = c.in_ok-bars.ensures.lines.each g (rw count low) in
    let long : g < length c.in_ok-bars.next.items = rw (c.in_ok-bars.ensures.lines.long, count) low in
    let read : c.index.result.now ≡ slice_index_or c.in_ok-bars.next.items g 0 = grind (arith, common_steps, c.index.ensures, long) in
    let bar : c.first_bar.result ≡ first_bar m c.args.end changes g = rw (← to, ← read) c.first_bar.ensures in
    rw (c.in_ok-push.ensures.items, bar) after
