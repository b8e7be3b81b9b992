use Rattle.std.proofs.Common.{◌≡◌, drop}
use Rattle.kc_picture.specs.VmRows.{rows, rows_after}
use Rattle.kc_picture.proofs.vm_rows.rows_of.Given as goal

abbrev pub invariant-loop-bar : goal.invariant-loop-bar
invariant-loop-bar l = rows_after l.rows.keys (drop l.bar-index l.bars) ≡ rows l.bars
