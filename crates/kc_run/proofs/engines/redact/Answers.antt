use Rattle.std.proofs.Common.{refl}
use Rattle.kc_run.proofs.Carried.{redacts_trace}
use Rattle.kc_run.proofs.engines.redact.Goals as goal

pub returns : goal.returns
returns g c =
    let done = c.redact_text.ensures in
    λ held. rw c.done.ensures (redacts_trace _ c.redact_text.result refl done.ok done.sources done.sink done.trace done.others)
