use Rattle.std.specs.Prelude.{IfSome}
use Rattle.std.proofs.Common.{◌≡◌, ◌+◌, ◌++◌, ◌≤◌, List, length, Err, ap, sym, subst, arith, ◌∙◌}
use Rattle.std.proofs.lemmas.Result.{err_from_is_err_and}
use Rattle.kc_types.specs.Configuration.{Configuration}
use Rattle.kc_types.specs.declared.call.Call.{Call}
use Rattle.kc_model.specs.Custody.{first_line}
use Rattle.kc_trace.specs.declared.fault.TraceFault.{TraceFault}
use Rattle.kc_trace.specs.Expected.{IsHeaderFault, IsRefusedThere}
use Rattle.kc_replay.specs.Replayer.{Replaying}
use Rattle.kc_faults.specs.declared.fault.TextFault.TheVariants as texts
use Rattle.kc_faults.proofs.Placed.{misplaced_there, known_refused_there}
use Rattle.kc_cli.proofs.Chained.{replay_read, config_fed, next_refused, few_kept}
use Rattle.kc_cli.proofs.answering.ReplayAccountAccount.read.Goals as goal

pub returns-in_err-header-clause-trace : goal.returns-in_err-header-clause-trace
returns-in_err-header-clause-trace g c = λ fault e order m sources h.
    let made = err_from_is_err_and c.from_residual-in_err-header.result c.from_residual-in_err-header.ensures.1 in
    let same : c.in_err-header.field-0.0 ≡ texts.Trace fault = (let both = ap Err (sym made.2) ∙ sym made.1 ∙ e in cc) in
    let is = c.in_err-header.ensures.trace fault (ap Err same) in
    next_refused order c.args.self.now m sources _ fault h (known_refused_there _ _ _ fault is.0) is.1

pub overflow_cast-len : goal.overflow_cast-len
overflow_cast-len g c =
    let told = c.in_ok-header.ensures.ok in
    let few : length c.in_ok-header.field-0.calls.items ≤ 65536 = few_kept _ _ _ _ _ told.3 told.2 c.in_ok-header.ensures.few in
    let same : c.len-2.result ≡ length c.in_ok-header.field-0.calls.items = c.len-2.ensures ∙ c.in_ok-header.field-0.calls.ok.0 in
    omega (arith, few, same)

pub returns-in_err-add-clause-trace : goal.returns-in_err-add-clause-trace
returns-in_err-add-clause-trace g c = λ fault e order m sources h.
    let made = err_from_is_err_and c.from_residual-in_err-add.result c.from_residual-in_err-add.ensures.1 in
    let same : c.in_err-add.field-0.0 ≡ texts.Trace fault = (let both = ap Err (sym made.2) ∙ sym made.1 ∙ e in cc) in
    let told = c.in_ok-header.ensures.ok in
    let header = c.in_ok-header.field-0.header in
    let next = c.args.self.now.sequence.next in
    let config = c.config.ensures.value ∙ config_fed order c.args.self.now m sources _ _ told.0 _ h (ap (λ (r : Replaying). r.state) c.turn.ensures) told.2 c.core.result c.in-Some.is c.core.ensures in
    let wrong = c.in_err-add.ensures.trace fault (ap Err same) in
    let is = subst (λ (x : Configuration). IsHeaderFault x next header wrong.0) config wrong.2 in
    next_refused order c.args.self.now m sources _ fault h
    (subst (λ (f : TraceFault). IfSome (g.T.Source.left c.args.trace.now) (λ text. IsRefusedThere m.config next text f)) (sym wrong.1) (misplaced_there m.config next header (g.T.Source.left c.args.trace.now) told.0 wrong.0 told.1 is))
    c.in_ok-header.ensures.ended

pub returns-in-Ok-append-clause-ok : goal.returns-in-Ok-append-clause-ok
returns-in-Ok-append-clause-ok g c = λ order m sources h.
    let told = c.in_ok-header.ensures.ok in
    let fed = c.in_ok-header.field-0 in
    let config = c.config.ensures.value ∙ config_fed order c.args.self.now m sources _ _ told.0 _ h (ap (λ (r : Replaying). r.state) c.turn.ensures) told.2 c.core.result c.in-Some.is c.core.ensures in
    replay_read order c.args.self.now _ m sources (g.T.Source.left c.args.trace.now) fed.header told.0 fed.replies.items fed.digest _ _ c.args.is_followed _ _ h c.add.ensures.first config c.in_ok-add.ensures.ok told.1
    (ap (λ n. first_line + n) (c.len.ensures ∙ c.args.self.now.calls.ok.0)) c.in_ok-has_room.ensures.ok.0 (c.len-2.ensures ∙ fed.calls.ok.0 ∙ ap length told.3) c.in_ok-header.ensures.few told.4
    (ap (λ (r : Replaying). r.state) c.turn.ensures) (ap (λ (r : Replaying). r.workers) c.turn.ensures) told.2
    (c.in-Ok.ensures.items ∙ ap (λ (xs : List Call). c.args.self.now.calls.items ++ xs) told.3) c.in-Ok-append.ensures.items
