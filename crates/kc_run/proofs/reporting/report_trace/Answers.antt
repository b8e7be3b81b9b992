use Rattle.std.proofs.Common.{rules, ◌≡◌, [], Err, refl, ap}
use Rattle.kc_faults.specs.declared.fault.TextFault.TheVariants as texts
use Rattle.kc_run.proofs.Reading.{refused_first, some_told}
use Rattle.kc_run.proofs.Reported.{trace_given, trace_failed}
use Rattle.kc_run.proofs.reporting.report_trace.Goals as goal

pub read-requires-clause-told : goal.read-requires-clause-told
read-requires-clause-told g c = (c.requires.begun.0, c.requires.begun.1, [], c.requires.begun.3.told)

pub give-requires-clause-told : goal.give-requires-clause-told
give-requires-clause-told g c =
    let told = some_told g.A.Account.kind _ _ _ _ (c.in-Ok.ensures.ok c.requires.begun.0 c.requires.begun.1 [] c.requires.begun.3.told).0 in
    search rules

pub returns-in-Ok : goal.returns-in-Ok
returns-in-Ok g c = λ order m start held begun.
    rw c.counted.ensures (trace_given g.A.Account.kind order c.args.account _ m start _ c.give.result begun refl (c.in-Ok.ensures.ok order m [] begun.told).0 (c.in-Ok.ensures.begun order m start.had begun.begun) c.in-Ok.ensures.ended (λ bad. let e = c.in-Ok.ensures.source bad in absurd cc)
    record { answered = c.give.ensures.answered; ok = c.give.ensures.ok; sink = c.give.ensures.sink; fault = c.give.ensures.fault })

pub returns-in-Err : goal.returns-in-Err
returns-in-Err g c = λ order m start held begun.
    trace_failed g.A.Account.kind order c.args.account m start _ c.in-Err.fault begun refl (λ same. c.in-Err.ensures.read (ap Err same)) (λ bad. let e = c.in-Err.ensures.source bad in let same : c.in-Err.fault ≡ texts.Read = cc in same)
    (λ said same. refused_first m.config _ _ said (c.in-Err.ensures.trace said (ap Err same) order m [] begun.told))
    c.in-Err.ensures.fault (λ same. c.in-Err.ensures.started (ap Err same) order m [] begun.told) c.requires.out refl
