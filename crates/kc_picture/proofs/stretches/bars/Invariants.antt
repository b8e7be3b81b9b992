use Rattle.std.proofs.Common.{◌≡◌, ◌-◌, ◌++◌, map, reverse}
use Rattle.std.specs.List.{range_with_len}
use Rattle.kc_model.specs.Boot.{boot}
use Rattle.kc_model.specs.Events.{changes_in}
use Rattle.kc_model.specs.Bars.{later_bars, first_bar}
use Rattle.kc_picture.proofs.stretches.bars.Given as goal

abbrev pub invariant-loop-frame : goal.invariant-loop-frame
invariant-loop-frame l =
    let changes = changes_in l.events in
    reverse l.bars.items ≡ map (first_bar (boot l.config) l.end changes) (range_with_len l.frame (l.config.frames - l.frame)) ++ later_bars l.end changes
