use Rattle.std.proofs.Common.{◌≡◌, ◌+◌, ◌∷◌, ◌++◌, [], length, length-append, ◌∙◌, arith}
use Rattle.kc_replay.specs.Working.{AnswersAll}
use Rattle.kc_replay.proofs.Zips.{zip_push}
use Rattle.kc_replay.proofs.work.join_workers.Goals as goal

pub loop-handle-preserved-in-Ok : goal.loop-handle-preserved-in-Ok
loop-handle-preserved-in-Ok g c =
    let more : length (c.loop-handle.yielded ++ c.in-Some.handle ∷ []) ≡ length c.loop-handle.yielded + 1 = length-append c.loop-handle.yielded (c.in-Some.handle ∷ []) in
    let count = c.loop-handle.invariant.count in
    record {
      count = rw (c.push_reserved.ensures.len, more) (omega (arith, count));
      room = c.push_reserved.ensures.capacity ∙ c.loop-handle.invariant.room;
      done = λ e. rw c.push_reserved.ensures.items
          (zip_push (λ h f. AnswersAll g.S.Setting.config g.S.Setting.calls h.promise.0.value.items f.items) c.loop-handle.yielded c.loop-handle.all.items c.in-Some.handle c.in-Ok.done (c.loop-handle.invariant.done e) c.in-Ok.ensures);
    }
