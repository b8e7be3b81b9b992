use Rattle.std.proofs.Common.{◌∙◌, sym, rules, ◌≡◌, length}
use Rattle.std.proofs.lemmas.Iterator.Consumers.{YieldsList-end}
use Rattle.std.proofs.lemmas.Iterator.Adapters.{YieldsList-from_vec}
use Rattle.std.proofs.lemmas.List.{map-id}
use Rattle.kc_replay.specs.Working.{Finishes}
use Rattle.kc_replay.proofs.Zips.{zip_push}
use Rattle.kc_replay.proofs.work.work.Goals as goal

pub loop-task-preserved : goal.loop-task-preserved
loop-task-preserved g c =
    rw c.in_ok-push.ensures.items (zip_push (Finishes c.args.config.now c.args.calls.now) c.loop-task.yielded c.loop-task.done.items c.in-Some.task c.in_ok-finished.finished c.loop-task.invariant c.in_ok-finished.ensures)

pub returns : goal.returns
returns g c =
    let start = c.into_iter-task-iterator.ensures.into_iter_gives in
    let same : c.into_iter-task-iterator.result.rest.len ≡ length c.args.tasks.items = start.1 ∙ search rules in
    let t = YieldsList-end (YieldsList-from_vec {s = c.into_iter-task-iterator.result} c.args.tasks.items start.0 same) c.loop-task.yielded c.loop-task.task-iterator c.loop-task.yielded_by c.next.result c.next.new.self c.in-None.is c.next.ensures.steps in
    let e : c.loop-task.yielded ≡ c.args.tasks.items = sym (map-id c.loop-task.yielded) ∙ t.0 in
    rw e at c.loop-task.invariant
