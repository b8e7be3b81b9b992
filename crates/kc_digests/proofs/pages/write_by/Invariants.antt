use Rattle.std.proofs.Common.{◌≡◌, ◌-◌, ◌≤◌, length, take, map}
use Rattle.kc_digests.specs.Digests.{digest_by}
use Rattle.kc_digests.proofs.pages.write_by.Given as goal

abbrev pub invariant-turns : goal.invariant-turns
invariant-turns g l = (length l.out ≡ length l.pages) × (l.at ≤ length l.pages) × (take l.at l.out ≡ map (digest_by g.P.Bytes.bytes) (take l.at l.pages))

abbrev pub decreases-turns : goal.decreases-turns
decreases-turns g l = length l.pages - l.at

abbrev pub invariant-rest : goal.invariant-rest
invariant-rest g l = (length l.out ≡ length l.pages) × (take l.i l.out ≡ map (digest_by g.P.Bytes.bytes) (take l.i l.pages))
