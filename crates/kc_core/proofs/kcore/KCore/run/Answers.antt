use Rattle.std.proofs.Common.{◌≡◌, ◌+◌, ◌++◌, ◌∷◌, [], arith, vec_len, ap, ◌∙◌}
use Rattle.std.proofs.lemmas.List.{take_all}
use Rattle.kc_model.proofs.States.Runs.{replies_from-more, state_after-more}
use Rattle.kc_model.proofs.Promises.{promises_kept}
use Rattle.kc_model.proofs.Blind.HostBlind.{shows_nothing}
use Rattle.kc_model.specs.Next.{replies_from, state_after}
use Rattle.kc_core.proofs.kcore.KCore.run.Goals as goal

pub loop-done-preserved : goal.loop-done-preserved
loop-done-preserved c =
    let step = state_after-more c.args.self.now.state c.args.calls.now c.loop-done.done c.index-calls-done.result c.loop-done-test.true c.index-calls-done.is in
    let told = replies_from-more c.args.self.now.state c.args.calls.now c.loop-done.done c.index-calls-done.result c.loop-done-test.true c.index-calls-done.is in
    let pushed : c.push.new.self.items ≡ c.loop-done.replies.items ++ c.in-Ok-call.reply ∷ [] = rw c.unwrap.ensures at c.push.ensures.items in
    let longer : vec_len c.push.new.self ≡ vec_len c.loop-done.replies + 1 = rw c.unwrap.ensures at c.push.ensures.len in
    record {
      replies = rw (told, ← c.loop-done.invariant.state, ← c.loop-done.invariant.replies, ← c.in-Ok-call.ensures.reply) pushed;
      state = rw (step, ← c.loop-done.invariant.state) c.in-Ok-call.ensures.state;
      reserved = c.in-Ok-call.ensures.reserved ∙ c.loop-done.invariant.reserved;
      count = omega arith;
      room = let kept = c.push.ensures.capacity in let before = c.loop-done.invariant.room in omega (arith, kept, before);
    }

pub returns-in_default-clause-promises : goal.returns-in_default-clause-promises
returns-in_default-clause-promises c = rw (← c.self.view_is) (promises_kept _ c.args.calls.now c.self.invariant.lawful)

pub returns-in_default-call-clause-promises : goal.returns-in_default-call-clause-promises
returns-in_default-call-clause-promises c = rw (← c.self.view_is) (promises_kept _ c.args.calls.now c.self.invariant.lawful)

pub returns-clause-promises : goal.returns-clause-promises
returns-clause-promises c = rw (← c.self.view_is) (promises_kept _ c.args.calls.now c.self.invariant.lawful)

pub returns-clause-blind : goal.returns-clause-blind
returns-clause-blind c =
    let all = take_all c.loop-done.done c.args.calls.now (let past = c.loop-done-test.false in omega (arith, past)) in
    shows_nothing c.args.self.now.state _ c.args.calls.now _ (rw (← c.self.view_is) c.self.invariant.lawful)
    (c.loop-done.invariant.replies ∙ ap (replies_from c.args.self.now.state) all)
    (c.loop-done.invariant.state ∙ ap (state_after c.args.self.now.state) all)
