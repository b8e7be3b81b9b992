use Rattle.std.specs.Prelude.{IfSome}
use Rattle.std.proofs.Common.{◌≡◌, Err, ap, refl, sym, subst, ◌∙◌}
use Rattle.std.proofs.lemmas.Result.{err_from_is_err_and}
use Rattle.kc_types.specs.Configuration.{Configuration}
use Rattle.kc_trace.specs.declared.fault.TraceFault.{TraceFault}
use Rattle.kc_trace.specs.Expected.{IsHeaderFault, IsRefusedThere}
use Rattle.kc_faults.specs.declared.fault.TextFault.TheVariants as texts
use Rattle.kc_faults.proofs.Placed.{misplaced_there, known_refused_there}
use Rattle.kc_texts.specs.Orders.{names_trace}
use Rattle.kc_cli.specs.Traced.{Traced}
use Rattle.kc_cli.specs.declared.custody.CustodyOrder.{CustodyOrder}
use Rattle.kc_cli.proofs.Volumes.{custody_read, still_begun, config_told, full_refused, there_refused}
use Rattle.kc_cli.proofs.custody.CustodyAccountAccount.read.Goals as goal

pub returns-clause-ok : goal.returns-clause-ok
returns-clause-ok g c = λ order m sources h.
    let told = c.in_ok-volume.ensures.ok in
    let read = c.in_ok-volume.volume in
    let volume : Traced = record { header = read.header; calls = told.0 } in
    custody_read order c.args.self.now _ m sources (g.T.Source.left c.args.trace.now) volume read.digest c.args.is_followed _ _ h refl c.in_ok-add.ensures.first
    (c.config.ensures.value ∙ c.in_ok-volume.ensures.config ∙ config_told order c.args.self.now m sources h)
    (c.names_trace-is_named.ensures ∙ ap (λ (o : CustodyOrder). names_trace o.scope.named) h.of.ordered)
    c.in_ok-add.ensures.ok told.1 told.2 told.3 told.4 (λ before kept. told.5 order.form m before h.of.lawful kept)

pub returns-clause-begun : goal.returns-clause-begun
returns-clause-begun g c = λ order m start begun. still_begun order c.args.self.now _ m start c.in_ok-add.ensures.first refl begun

pub returns-in_err-add-clause-begun : goal.returns-in_err-add-clause-begun
returns-in_err-add-clause-begun g c = λ order m start begun. still_begun order c.args.self.now _ m start c.in_err-add.ensures.first refl begun

pub returns-in_err-volume-clause-begun : goal.returns-in_err-volume-clause-begun
returns-in_err-volume-clause-begun g c = λ order m start begun. still_begun order c.args.self.now _ m start refl refl begun

pub returns-in_err-has_room-clause-trace : goal.returns-in_err-has_room-clause-trace
returns-in_err-has_room-clause-trace g c = λ fault e order m sources h.
    let made = err_from_is_err_and c.from_residual.result c.from_residual.ensures.1 in
    let same : c.in_err-has_room.field-0.0 ≡ texts.Trace fault = (let both = ap Err (sym made.2) ∙ sym made.1 ∙ e in cc) in
    let is = c.in_err-has_room.ensures.full fault (ap Err same) in
    full_refused order c.args.self.now m sources _ fault h is.0 is.1

pub returns-in_err-volume-clause-trace : goal.returns-in_err-volume-clause-trace
returns-in_err-volume-clause-trace g c = λ fault e order m sources h.
    let made = err_from_is_err_and c.from_residual-in_err-volume.result c.from_residual-in_err-volume.ensures.1 in
    let same : c.in_err-volume.field-0.0 ≡ texts.Trace fault = (let both = ap Err (sym made.2) ∙ sym made.1 ∙ e in cc) in
    let is = c.in_err-volume.ensures.trace fault (ap Err same) in
    there_refused order c.args.self.now m sources _ fault h (known_refused_there _ _ _ fault is.0) is.1

pub returns-in_err-add-clause-trace : goal.returns-in_err-add-clause-trace
returns-in_err-add-clause-trace g c = λ fault e order m sources h.
    let made = err_from_is_err_and c.from_residual-in_err-add.result c.from_residual-in_err-add.ensures.1 in
    let same : c.in_err-add.field-0.0 ≡ texts.Trace fault = (let both = ap Err (sym made.2) ∙ sym made.1 ∙ e in cc) in
    let told = c.in_ok-volume.ensures.ok in
    let next = c.args.self.now.sequence.next in
    let config = c.config.ensures.value ∙ c.in_ok-volume.ensures.config ∙ config_told order c.args.self.now m sources h in
    let wrong = c.in_err-add.ensures.trace fault (ap Err same) in
    let is = subst (λ (x : Configuration). IsHeaderFault x next c.in_ok-volume.volume.header wrong.0) config wrong.2 in
    there_refused order c.args.self.now m sources _ fault h
    (subst (λ (f : TraceFault). IfSome (g.T.Source.left c.args.trace.now) (λ text. IsRefusedThere m.config next text f)) (sym wrong.1) (misplaced_there m.config next c.in_ok-volume.volume.header (g.T.Source.left c.args.trace.now) told.0 wrong.0 told.1 is))
    c.in_ok-volume.ensures.ended
