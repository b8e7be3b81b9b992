use Rattle.std.proofs.Common.{◌≡◌, replicate}
use Rattle.kc_custody.specs.Endings.{no_endings}
use Rattle.kc_custody.proofs.endings.Endings.none.Given as goal

-- none of each frame so far
abbrev pub invariant-loop : goal.invariant-loop
invariant-loop l = l.all.items ≡ replicate l.counter no_endings
