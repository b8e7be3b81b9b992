use Rattle.std.proofs.Common.{rules, refl}
use Rattle.kc_run.proofs.Reading.{some_first, all_told}
use Rattle.kc_run.proofs.Reported.{volumes_given, volumes_refused, volumes_failed}
use Rattle.kc_run.proofs.reporting.report_volumes.Goals as goal

pub read_all-requires-clause-told : goal.read_all-requires-clause-told
read_all-requires-clause-told g c =
    let begun = c.requires.begun in
    let first = some_first g.A.Account.kind begun.0 c.args.account begun.1 begun.3.told in
    search rules

pub give-requires-clause-told : goal.give-requires-clause-told
give-requires-clause-told g c =
    let told = all_told g.A.Account.kind _ _ _ _ _ _ _ c.requires.begun.0 c.requires.begun.1 c.in-Ok.ensures.read.3 c.in-None.is c.requires.begun.3.told in
    search rules

pub returns-in-None : goal.returns-in-None
returns-in-None g c = λ order m start begun.
    let read = c.in-Ok.ensures.read in
    rw c.counted.ensures (volumes_given g.A.Account.kind order c.args.account _ m start c.args.after.now _ read.0 c.give.result begun read.1 ((rw c.in-None.is at read.2) refl) (rw c.in-None.is at read.3)
    record { answered = c.give.ensures.answered; ok = c.give.ensures.ok; sink = c.give.ensures.sink; fault = c.give.ensures.fault })

pub returns-in-Some : goal.returns-in-Some
returns-in-Some g c = λ order m start begun.
    let read = c.in-Ok.ensures.read in
    volumes_refused g.A.Account.kind order c.args.account _ m start c.args.after.now _ read.0 c.in-Some.ending begun read.1 (rw c.in-Some.is at read.3) c.requires.out refl

pub returns-in-Err : goal.returns-in-Err
returns-in-Err g c = λ order m start begun.
    let read = c.in-Err.ensures.read in
    volumes_failed g.A.Account.kind order c.args.account _ m start c.args.after.now _ read.0 c.in-Err.fault begun read.1 read.3 c.requires.out refl
