use Rattle.std.proofs.Common.{◌∙◌, ap, arith}
use Rattle.std.proofs.lemmas.Result.{err_from_is_err_and}
use Rattle.kc_types.specs.Configuration.{Configuration}
use Rattle.kc_model.specs.State.{State}
use Rattle.kc_core.specs.KCore.{SeenCore}
use Rattle.kc_cli.proofs.Sources.{sink_err}
use Rattle.kc_cli.proofs.Chained.{config_left, few_given, replayed_in_line, replay_answered, gives_lines, begins_lines}
use Rattle.kc_cli.proofs.answering.ReplayAccountAccount.give.Goals as goal

abbrev config_of : State → Configuration
config_of m = m.config

pub of-answered-requires : goal.of-answered-requires
of-answered-requires g c =
    let told = c.requires.told in
    let few = few_given told.0 c.args.self told.1 told.2 told.3 in
    rw c.deref.ensures.value (omega (arith, few))

pub give_volumes-requires-clause-order : goal.give_volumes-requires-clause-order
give_volumes-requires-clause-order g c = let told = c.requires.told in replayed_in_line told.0 c.args.self told.1 told.2 told.3

pub returns-clause-answered : goal.returns-clause-answered
returns-clause-answered g c = λ order m start sources h begins. replay_answered order c.args.self m start sources _ h (rw c.deref.ensures.value at c.of-answered.ensures) begins

pub returns-clause-ok : goal.returns-clause-ok
returns-clause-ok g c = λ order m start sources h begins.
    let config = ap (λ (core : SeenCore). core.state.config) c.into_parts-config.ensures.state ∙ ap config_of c.wipe.ensures.state ∙ config_left order c.args.self m c.in-Ok.core.state sources h c.in-Ok.ensures.core in
    gives_lines order c.args.self m start sources _ _ _ h config begins (rw (c.deref-2.ensures.value, c.deref-3.ensures.value) at c.in_ok-give_volumes.ensures.ok)

pub returns-in_err-give_volumes-clause-sink : goal.returns-in_err-give_volumes-clause-sink
returns-in_err-give_volumes-clause-sink g c = λ order m start sources h begins.
    let made = err_from_is_err_and c.from_residual.result c.from_residual.ensures.1 in
    let config = ap (λ (core : SeenCore). core.state.config) c.into_parts-config.ensures.state ∙ ap config_of c.wipe.ensures.state ∙ config_left order c.args.self m c.in-Ok.core.state sources h c.in-Ok.ensures.core in
    rw (made.1, made.2) (sink_err _ _ _ _ c.in_err-give_volumes.field-0.0 (λ begun. begins_lines order c.args.self m start sources _ _ _ h config begins begun) (rw (c.deref-2.ensures.value, c.deref-3.ensures.value) at c.in_err-give_volumes.ensures.sink))
