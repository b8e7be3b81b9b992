use Rattle.std.proofs.Common.{ap, ◌∙◌, arith}
use Rattle.kc_types.specs.Configuration.{Configuration}
use Rattle.kc_model.specs.State.{State}
use Rattle.kc_model.specs.Custody.{first_line}
use Rattle.kc_model.proofs.States.Sizes.{config-after}
use Rattle.kc_remarks.specs.Remarks.{notes}
use Rattle.kc_remarks.proofs.Ordered.{told_in_order}
use Rattle.kc_core.specs.KCore.{SeenCore}
use Rattle.kc_cli.specs.Custody.{joined}
use Rattle.kc_cli.proofs.Ledgers.{changes_within, kept_in_order}
use Rattle.kc_cli.proofs.Sources.{sink_err}
use Rattle.kc_cli.proofs.Volumes.{in_line, listed_in_line, kept_is_within, gives_custody, begins_custody, all_answered}
use Rattle.kc_cli.proofs.custody.CustodyAccountAccount.give.Goals as goal

abbrev config_of : State → Configuration
config_of m = m.config

pub told_of-told-requires-clause-line : goal.told_of-told-requires-clause-line
told_of-told-requires-clause-line g c = let line = c.requires.told.3.kept.line in omega (arith, line)

pub told_of-told-requires-clause-few : goal.told_of-told-requires-clause-few
told_of-told-requires-clause-few g c = let counted = c.requires.told.3.read.counted in omega (arith, counted)

pub give_told-requires-clause-changes : goal.give_told-requires-clause-changes
give_told-requires-clause-changes g c =
    let h = c.requires.told.3 in
    let calls = joined h.volumes in
    let same = c.told_of-told.ensures.config ∙ ap (λ (core : SeenCore). core.state.config) c.into_parts-config.ensures.state ∙ ap config_of c.wipe.ensures.state ∙ ap config_of h.kept.left ∙ config-after c.requires.told.1 calls in
    rw (same, c.told_of-told.ensures.ledger) (changes_within c.requires.told.1.config.frames _ (kept_is_within c.requires.told.0.form c.requires.told.1 calls _ h.kept.ledger))

pub give_told-requires-clause-order : goal.give_told-requires-clause-order
give_told-requires-clause-order g c =
    let h = c.requires.told.3 in
    let calls = joined h.volumes in
    rw c.told_of-told.ensures.ledger (kept_in_order c.requires.told.0.form c.requires.told.1 (notes c.requires.told.1 calls) _ h.kept.ledger (told_in_order first_line c.requires.told.1 calls))

pub give_told-requires-clause-volumes : goal.give_told-requires-clause-volumes
give_told-requires-clause-volumes g c = rw (c.told_of-told.ensures.volumes, c.requires.told.3.read.entries) (listed_in_line _ (in_line _ _ _))

pub returns-in-Ok-clause-answered : goal.returns-in-Ok-clause-answered
returns-in-Ok-clause-answered g c = λ order m start sources h begun.
    let line = h.kept.line in
    let calls = c.told_of-told.ensures.calls in
    all_answered order c.args.self m start sources _ h (omega (arith, line, calls)) c.told_of-told.ensures.denials begun.begins

pub returns-in-Ok-clause-ok : goal.returns-in-Ok-clause-ok
returns-in-Ok-clause-ok g c = λ order m start sources h began.
    let line = h.kept.line in
    let calls = c.told_of-told.ensures.calls in
    gives_custody order c.args.self m start sources
    c.told_of-told.result
    _ _ h
    record {
      config = c.told_of-told.ensures.config ∙ ap (λ (core : SeenCore). core.state.config) c.into_parts-config.ensures.state ∙ ap config_of c.wipe.ensures.state ∙ ap config_of h.kept.left ∙ config-after m (joined h.volumes);
      heading = c.told_of-told.ensures.heading;
      listed_are = c.told_of-told.ensures.volumes;
      count = omega (arith, line, calls);
      denials = c.told_of-told.ensures.denials;
      ledger = c.told_of-told.ensures.ledger;
    }
    began.begins began.digest c.in-Ok.ensures.ok

pub returns-in-Err-clause-sink : goal.returns-in-Err-clause-sink
returns-in-Err-clause-sink g c = λ order m start sources h began.
    let line = h.kept.line in
    let calls = c.told_of-told.ensures.calls in
    sink_err _ _ _ _ c.in-Err.fault
    (λ begun. begins_custody order c.args.self m start sources
    c.told_of-told.result
    _ _ h
    record {
      config = c.told_of-told.ensures.config ∙ ap (λ (core : SeenCore). core.state.config) c.into_parts-config.ensures.state ∙ ap config_of c.wipe.ensures.state ∙ ap config_of h.kept.left ∙ config-after m (joined h.volumes);
      heading = c.told_of-told.ensures.heading;
      listed_are = c.told_of-told.ensures.volumes;
      count = omega (arith, line, calls);
      denials = c.told_of-told.ensures.denials;
      ledger = c.told_of-told.ensures.ledger;
    }
    began.begins began.digest begun)
    c.in-Err.ensures.sink
