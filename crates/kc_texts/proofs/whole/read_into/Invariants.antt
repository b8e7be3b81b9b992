use Rattle.std.proofs.Common.{◌≡◌, ◌≤◌, ◌-◌, false, length, take}
use Rattle.std.specs.Io.KnownBytes.{Consumes}
use Rattle.kc_texts.proofs.whole.read_into.Given as goal

-- what was read is at the front
abbrev pub invariant-loop-used : goal.invariant-loop-used
invariant-loop-used g l = record {
  read : Consumes (g.S.Source.left l.fn.source) (g.S.Source.left l.source) (take l.used l.text);
  within : l.used ≤ length l.text;
  few : l.used ≤ 1073741824;
  whole : g.S.Source.failed l.source ≡ false;
}

abbrev pub decreases-loop-used : goal.decreases-loop-used
decreases-loop-used g l = 1073741824 - l.used
