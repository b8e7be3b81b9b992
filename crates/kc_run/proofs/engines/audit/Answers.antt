use Rattle.std.proofs.Common.{refl}
use Rattle.kc_run.proofs.Carried.{audits_dump}
use Rattle.kc_run.proofs.engines.audit.Goals as goal

pub returns : goal.returns
returns g c =
    let done = c.audit_text.ensures in
    λ held. rw c.judged.ensures (audits_dump _ _ c.audit_text.result refl done.ok done.sources done.sink done.dump done.others)
