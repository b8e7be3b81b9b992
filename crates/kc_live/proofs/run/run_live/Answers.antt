use Rattle.std.proofs.Common.{◌∙◌}
use Rattle.kc_live.specs.Plans.{MayRunTogether}
use Rattle.kc_live.proofs.Logs.{whole_from}
use Rattle.kc_live.proofs.Runs.{run_calls, run_others, run_begun, no_cause, late_cause}
use Rattle.kc_live.proofs.run.run_live.Goals as goal

pub returns-in-Some-run_cause-clause-stop : goal.returns-in-Some-run_cause-clause-stop
returns-in-Some-run_cause-clause-stop g c =
    let sound : MayRunTogether c.args.config c.args.programs.items = rw c.as_slice.ensures.value at c.in_default.ensures.cause in
    rw c.stopped.ensures (late_cause _ _ _ c.in-Some-run_cause.ensures.late sound)

pub returns-in-Some-run_cause-clause-left : goal.returns-in-Some-run_cause-clause-left
returns-in-Some-run_cause-clause-left g c =
    let sound : MayRunTogether c.args.config c.args.programs.items = rw c.as_slice.ensures.value at c.in_default.ensures.cause in
    let answer = c.is_answer-is_settled.ensures.0 in
    let begun = c.make_calls-rows.ensures.begun in
    rw c.stopped.ensures (record {
      legal = c.close-history.ensures.legal;
      whole = λ yes. whole_from _ _ c.close-history.ensures (answer yes).1 ((answer yes).0 ∙ c.in-Ok.ensures.config);
      begun = λ yes. run_begun (λ v. v.items) _ _ c.make_calls-rows.result.rows.items (rw c.as_slice-2.ensures.value at (answer yes).2) begun sound.own sound.apart;
      others = λ yes. run_others (λ v. v.items) _ _ c.make_calls-rows.result.rows.items (rw c.as_slice-2.ensures.value at (answer yes).2) begun sound.own sound.apart;
    })

pub returns-clause-calls : goal.returns-clause-calls
returns-clause-calls g c =
    let sound : MayRunTogether c.args.config c.args.programs.items = rw c.as_slice.ensures.value at c.in_default.ensures.cause in
    let none = no_cause c.make_calls-rows.result.stop c.is_answer-is_settled.result cc in
    let settled = rw c.as_slice-2.ensures.value at (c.is_answer-is_settled.ensures.0 none.1).2 in
    run_calls (λ v. v.items) _ _ c.make_calls-rows.result.rows.items settled c.make_calls-rows.ensures.begun sound.own sound.apart (c.make_calls-rows.ensures.whole none.0)

pub returns-clause-others : goal.returns-clause-others
returns-clause-others g c =
    let sound : MayRunTogether c.args.config c.args.programs.items = rw c.as_slice.ensures.value at c.in_default.ensures.cause in
    let none = no_cause c.make_calls-rows.result.stop c.is_answer-is_settled.result cc in
    let settled = rw c.as_slice-2.ensures.value at (c.is_answer-is_settled.ensures.0 none.1).2 in
    run_others (λ v. v.items) _ _ c.make_calls-rows.result.rows.items settled c.make_calls-rows.ensures.begun sound.own sound.apart

pub returns-clause-whole : goal.returns-clause-whole
returns-clause-whole g c =
    let none = no_cause c.make_calls-rows.result.stop c.is_answer-is_settled.result cc in
    let answer = c.is_answer-is_settled.ensures.0 none.1 in
    whole_from _ _ c.close-history.ensures answer.1 (answer.0 ∙ c.in-Ok.ensures.config)

pub returns-clause-settled : goal.returns-clause-settled
returns-clause-settled g c =
    let none = no_cause c.make_calls-rows.result.stop c.is_answer-is_settled.result cc in
    rw c.as_slice-2.ensures.value at (c.is_answer-is_settled.ensures.0 none.1).2
