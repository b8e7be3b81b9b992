use Rattle.std.proofs.Common.{◌≡◌, map}
use Rattle.kc_custody.specs.Growing.{finished}
use Rattle.kc_custody.proofs.register.Register.into_lives.Given as goal

-- the lives so far
abbrev pub invariant-loop-life : goal.invariant-loop-life
invariant-loop-life l = l.lives.items ≡ map (finished l.endings) l.yielded
