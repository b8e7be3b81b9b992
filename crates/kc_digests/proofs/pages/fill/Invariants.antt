use Rattle.std.proofs.Common.{◌≡◌, length, replicate, take}
use Rattle.kc_digests.proofs.pages.fill.Given as goal

abbrev pub invariant-places : goal.invariant-places
invariant-places l = (length l.out ≡ length l.initial.out) × (take l.i l.out ≡ replicate l.i l.digest)
