use Rattle.std.proofs.Common.{All, take}
use Rattle.kc_model.specs.Volumes.{IsDigest}
use Rattle.kc_live.proofs.journal.see_digests.Given as goal

-- the first digests are digests
abbrev pub invariant-loop-digest : goal.invariant-loop-digest
invariant-loop-digest l = All IsDigest (take l.digest-index l.digest-items)
