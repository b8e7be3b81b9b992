use Rattle.std.proofs.Common.{map, ap, ◌∙◌}
use Rattle.std.proofs.lemmas.Result.{IfOk-weaker, IfErr-weaker}
use Rattle.std.specs.Borrow.{Bor}
use Rattle.clap.specs.Words.{App, Text, app_of, found_of, rows_of, subcommand_rows_of, is_simple, is_simple_and_free, subcommand_of}
use Rattle.clap.specs.Values.{kind_of}
use Rattle.kc_args.specs.declared.job.Wanted.TheVariants as wanted
use Rattle.kc_args.specs.Arguments.{Asks}
use Rattle.kc_args.proofs.Asking.{kcore_is_simple, kcore_is_free, asked_within, nothing_within, refused_within, named, nothing_refused, refused_for}
use Rattle.kc_args.proofs.arguments.request_of.Goals as goal

pub returns-in-Some : goal.returns-in-Some
returns-in-Some c =
    let app_is = c.in_ok-command.ensures.app in
    let arguments = map (λ w. w.now) c.args.arguments.now in
    let none = nothing_refused arguments _ app_is (c.in-Ok.ensures.kinds (ap is_simple_and_free app_is ∙ kcore_is_free)) in
    let met = (c.in-Ok.ensures.matches (ap is_simple app_is ∙ kcore_is_simple)).1 ∙ ap (λ (a : App). subcommand_of a arguments) app_is in
    let entered = subcommand_rows_of c.in-Ok.matches in
    let rows = rows_of (found_of c.in-Some.found.now) in
    let is_named = c.in-Some.ensures.name ∙ named c.in-Ok.matches in
    record {
      request = IfOk-weaker c.wanted_in.result _ _ (λ asked h. record { faultless = none; asks = asked_within arguments entered c.in-Some.name.now rows asked met is_named c.in-Some.ensures.rows h }) c.wanted_in.ensures.wanted;
      refused = IfErr-weaker c.wanted_in.result _ _ (λ fault h. refused_within arguments entered c.in-Some.name.now rows fault none met is_named c.in-Some.ensures.rows h) c.wanted_in.ensures.refused;
    }

pub returns-in-Err-clause-refused : goal.returns-in-Err-clause-refused
returns-in-Err-clause-refused c =
    let app_is = c.in_ok-command.ensures.app in
    let arguments = map (λ w. w.now) c.args.arguments.now in
    refused_for arguments (app_of c.in_ok-command.field-0) (kind_of c.in-Err.error) c.refused.result app_is (c.in-Err.ensures.kinds (ap is_simple_and_free app_is ∙ kcore_is_free)) c.refused.ensures

pub returns-clause-request : goal.returns-clause-request
returns-clause-request c =
    let app_is = c.in_ok-command.ensures.app in
    let arguments = map (λ w. w.now) c.args.arguments.now in
    let met = (c.in-Ok.ensures.matches (ap is_simple app_is ∙ kcore_is_simple)).1 ∙ ap (λ (a : App). subcommand_of a arguments) app_is in
    let none = c.in-None.ensures.name ∙ named c.in-Ok.matches in
    let files = map (λ (file : Bor Text). file.now) in
    record {
      faultless = nothing_refused arguments _ app_is (c.in-Ok.ensures.kinds (ap is_simple_and_free app_is ∙ kcore_is_free));
      asks = nothing_within (λ found. Asks found (wanted.Job (record { job = c.plain_job.result; after = c.new.result }))) arguments (subcommand_rows_of c.in-Ok.matches) met none (c.plain_job.ensures, ap files c.new.ensures.items);
    }
