use Rattle.std.proofs.Common.{refl, Err, ap}
use Rattle.kc_run.proofs.Reading.{volume_told, volume_refused, volume_failed}
use Rattle.kc_run.proofs.reporting.read_volume.Goals as goal

pub returns-in-Ok : goal.returns-in-Ok
returns-in-Ok g c =
    volume_told g.A.Account.kind _ _ _ c.args.number c.args.is_followed (λ order m sources h. c.in-Ok.ensures.ok order m sources h) (λ order m start h. c.in-Ok.ensures.begun order m start h) c.in-Ok.ensures.first c.in-Ok.ensures.ended (λ bad. let e = c.in-Ok.ensures.source bad in absurd cc)

pub returns-in-Err-Trace : goal.returns-in-Err-Trace
returns-in-Err-Trace g c =
    let is = c.in-Err-Trace.is in
    volume_refused g.A.Account.kind _ _ _ _ c.args.is_followed c.in-Err-Trace.fault
    (λ order m sources h. c.read.ensures.trace c.in-Err-Trace.fault (let e = c.in-Err-Trace.is in cc) order m sources h)
    (λ bad. let e = c.read.ensures.source bad in absurd cc)
