use Rattle.std.proofs.Common.{true, ap, ap₂, ◌≡◌, ◌∙◌, codes}
use Rattle.std.proofs.lemmas.Result.{IfOk-weaker}
use Rattle.clap.specs.Words.{App, app_of, with_subcommand, new_app}
use Rattle.clap.specs.Simple.{on_top, app_of_fields}
use Rattle.kc_args.specs.Commands.{base}
use Rattle.kc_args.proofs.commands.command.Goals as goal

pub returns : goal.returns
returns c =
    let top_is : app_of c.after_help.result ≡ on_top (λ s. record s { no_binary_name = true; has_version = true }) (new_app (codes "kcore")) =
    ap app_of_fields c.after_help.ensures ∙ ap app_of_fields c.about.ensures ∙ ap app_of_fields c.version.ensures
    ∙ ap (on_top (λ s. record s { has_version = true })) (ap app_of_fields c.no_binary_name.ensures ∙ ap (on_top (λ s. record s { no_binary_name = true })) c.new.ensures.app)
    in
    let base_is : app_of c.in_ok-base.base ≡ base = c.in_ok-base.ensures.shape c.in_ok-replay.ensures.local ∙ ap₂ with_subcommand top_is (ap (λ (a : App). a.top) c.in_ok-replay.ensures.app) in
    let more_is = c.in_ok-subcommand.ensures.shape c.in_ok-live.ensures.local ∙ ap₂ with_subcommand base_is (ap (λ (a : App). a.top) c.in_ok-live.ensures.app) in
    let many_is = c.in_ok-subcommand-2.ensures.shape c.in_ok-custody.ensures.local ∙ ap₂ with_subcommand more_is (ap (λ (a : App). a.top) c.in_ok-custody.ensures.app) in
    let most_is = c.in_ok-subcommand-3.ensures.shape c.in_ok-audit.ensures.local ∙ ap₂ with_subcommand many_is (ap (λ (a : App). a.top) c.in_ok-audit.ensures.app) in
    let nearly_is = c.in_ok-subcommand-4.ensures.shape c.in_ok-redact.ensures.local ∙ ap₂ with_subcommand most_is (ap (λ (a : App). a.top) c.in_ok-redact.ensures.app) in
    let almost_is = c.in_ok-subcommand-5.ensures.shape c.in_ok-convert.ensures.local ∙ ap₂ with_subcommand nearly_is (ap (λ (a : App). a.top) c.in_ok-convert.ensures.app) in
    record { app = IfOk-weaker c.subcommand-7.result _ _ (λ r h. h.shape c.in_ok-measure.ensures.local ∙ ap₂ with_subcommand almost_is (ap (λ (a : App). a.top) c.in_ok-measure.ensures.app)) c.subcommand-7.ensures }
