use Rattle.std.proofs.Common.{rules, refl, sym, ◌∙◌}
use Rattle.std.proofs.lemmas.Bool.{eqb-true, eqb-false}
use Rattle.std.proofs.lemmas.Result.{err_from_is_err_and}
use Rattle.kc_run.proofs.Reported.{not_begun, none_refused, some_begun, has_started, one_reported, all_reported}
use Rattle.kc_run.proofs.reporting.report_from.Goals as goal

pub returns-in_err-account : goal.returns-in_err-account
returns-in_err-account g c =
    let made = err_from_is_err_and c.from_residual.result c.from_residual.ensures.1 in
    let is = c.in_err-account.ensures in
    rw (made.1, made.2, c.requires.files)
    (not_begun g.F.File.Source.left g.F.File.Source.failed _ _ c.args.after.now _ c.in_err-account.field-0.0 refl refl c.requires.input c.requires.out refl is.sources is.texts is.tells
    (λ same. is.write (let e = same in cc)) (none_refused _ _ _ c.in_err-account.field-0.0 is.texts))

pub report_trace-requires-clause-begun : goal.report_trace-requires-clause-begun
report_trace-requires-clause-begun g c =
    let is = c.in_ok-account.ensures in
    let begun = some_begun g.A.Account.kind c.args.order _ is.ok.0 _ (has_started g.A.Account.kind c.args.order _ is.ok.0 _ _ is.ok.2 is.ok.1 (g.met.A.Account.begins _ _ _ _ is.ok.1) is.tells is.sources.ended.0 is.mark) in
    search rules

pub report_volumes-requires-clause-begun : goal.report_volumes-requires-clause-begun
report_volumes-requires-clause-begun g c =
    let is = c.in_ok-account.ensures in
    let begun = some_begun g.A.Account.kind c.args.order _ is.ok.0 _ (has_started g.A.Account.kind c.args.order _ is.ok.0 _ _ is.ok.2 is.ok.1 (g.met.A.Account.begins _ _ _ _ is.ok.1) is.tells is.sources.ended.0 is.mark) in
    search rules

pub returns-then-is_empty : goal.returns-then-is_empty
returns-then-is_empty g c =
    let is = c.in_ok-account.ensures in
    rw c.requires.files
    (one_reported g.F.File.Source.left g.F.File.Source.failed _ c.args.after.now _ _ _ (eqb-true _ _ (sym c.is_empty.ensures ∙ c.if-is_empty.true))
    (c.report_trace.ensures c.args.order is.ok.0 _ (g.F.Files.held c.args.files.now) (has_started g.A.Account.kind c.args.order _ is.ok.0 _ _ is.ok.2 is.ok.1 (g.met.A.Account.begins _ _ _ _ is.ok.1) is.tells is.sources.ended.0 is.mark)))

pub returns-else-is_empty : goal.returns-else-is_empty
returns-else-is_empty g c =
    let is = c.in_ok-account.ensures in
    all_reported g.F.File.Source.left g.F.File.Source.failed _ c.args.after.now _ _ _ (eqb-false _ _ (sym c.is_empty.ensures ∙ c.if-is_empty.false))
    (c.report_volumes.ensures c.args.order is.ok.0 _ (has_started g.A.Account.kind c.args.order _ is.ok.0 _ _ is.ok.2 is.ok.1 (g.met.A.Account.begins _ _ _ _ is.ok.1) is.tells is.sources.ended.0 is.mark))
