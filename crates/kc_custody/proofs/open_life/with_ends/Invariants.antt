use Rattle.std.proofs.Common.{◌≡◌, map}
use Rattle.kc_custody.specs.Growing.{sharing_of}
use Rattle.kc_custody.proofs.open_life.with_ends.Given as goal

-- the stretches so far
abbrev pub invariant-loop-stretch : goal.invariant-loop-stretch
invariant-loop-stretch l = l.ended.items ≡ map (sharing_of l.endings) l.yielded
