use Rattle.std.proofs.Common.{ℕ, ◌≡◌, ◌≤◌, ◌<◌, false}
use Rattle.kcore_c.specs.Record.{is_of}
use Rattle.kcore_c.proofs.record.next_of.Given as goal

-- none of the frames so far has this owner
abbrev pub invariant-loop-frame : goal.invariant-loop-frame
invariant-loop-frame l = (g : ℕ) → l.from ≤ g → g < l.frame → is_of l.core.state l.owner l.vm g ≡ false
