use Rattle.kc_cli.proofs.Witnessed.{digest_seen}
use Rattle.kc_cli.proofs.telling.digest_of.Goals as goal

pub returns-in-Some : goal.returns-in-Some
returns-in-Some c = λ asked volume h. let seen = rw c.in-Some.is at h in digest_seen _ c.digest.result volume seen.0 (c.digest.ensures volume.header volume.calls seen.1)
