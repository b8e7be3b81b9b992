use Rattle.std.proofs.Common.{◌≡◌, false, length, ◌≤◌, ◌-◌}
use Rattle.std.specs.Io.KnownBytes.{Consumes}
use Rattle.kc_texts.proofs.whole.read_whole.Given as goal

abbrev pub invariant-loop-n : goal.invariant-loop-n
invariant-loop-n g l = record {
  read : Consumes (g.S.Source.left l.fn.source) (g.S.Source.left l.source) l.all.items;
  few : length l.all.items ≤ 1073741824;
  whole : g.S.Source.failed l.source ≡ false;
}

abbrev pub decreases-loop-n : goal.decreases-loop-n
decreases-loop-n g l = 1073741824 - length l.all.items
