use Rattle.std.proofs.Common.{◌≡◌, ◌++◌}
use Rattle.kc_links.specs.Chain.{spelled}
use Rattle.kc_links.specs.Ending.{listed}
use Rattle.kc_parts.specs.Parts.{links_of}
use Rattle.kc_core.proofs.look_ups.listed.Given as goal

-- the frames so far and those to come are the list
abbrev pub invariant-loop-frame : goal.invariant-loop-frame
invariant-loop-frame l = l.frames.items ++ spelled (links_of l.frame-iterator.store.now) l.frame-iterator.left l.frame-iterator.at ≡ listed (links_of l.parts) l.ends
