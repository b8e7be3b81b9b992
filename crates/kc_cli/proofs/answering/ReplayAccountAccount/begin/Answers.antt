use Rattle.std.proofs.Common.{◌∙◌, Err, ap, sym}
use Rattle.std.specs.Prelude.{IfSome}
use Rattle.std.proofs.Common.{subst}
use Rattle.std.proofs.lemmas.Result.{err_from_is_err_and}
use Rattle.kc_replay.specs.Replayer.{Replaying}
use Rattle.kc_trace.specs.declared.expected.Expected.{Expected}
use Rattle.kc_faults.specs.Origins.{BeginsIn}
use Rattle.kc_faults.proofs.Told.{texts_start}
use Rattle.kc_cli.proofs.Chained.{none_replayed}
use Rattle.kc_cli.proofs.answering.ReplayAccountAccount.begin.Goals as goal

pub returns-in_err-core-clause-texts : goal.returns-in_err-core-clause-texts
returns-in_err-core-clause-texts g c =
    let made = err_from_is_err_and c.from_residual.result c.from_residual.ensures.1 in
    λ trace. rw (made.1, made.2) (texts_start _ _ _ _ c.in_err-core.field-0.0 (λ said same. c.in_err-core.ensures.config said (ap Err same)) (λ said same. c.in_err-core.ensures.state said (ap Err same)) c.in_err-core.ensures.fault tt)

pub returns-clause-ok : goal.returns-clause-ok
returns-clause-ok g c =
    let start = c.in_ok-core.field-0 in (
      start.core.state,
      subst (λ (e : Expected). IfSome (g.C.Source.left c.args.start.now) (λ text. BeginsIn c.args.order.origin text start.core.state e)) (sym c.new-3.ensures.first) c.in_ok-core.ensures.ok,
      none_replayed c.args.order _ start.core.state (c.new-3.ensures.next ∙ sym c.new-3.ensures.first) c.in_ok-core.ensures.lawful c.new-3.ensures.none c.new.ensures.items c.new-2.ensures.items (ap (λ (r : Replaying). r.state) c.in-Ok.ensures.start) (ap (λ (r : Replaying). r.workers) c.in-Ok.ensures.start),
    )
