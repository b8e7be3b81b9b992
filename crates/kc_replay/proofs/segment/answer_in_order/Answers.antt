use Rattle.std.proofs.Common.{◌≡◌, ap, subst, ◌∙◌}
use Rattle.std.proofs.lemmas.List.{take_all}
use Rattle.kc_types.specs.Configuration.{Configuration}
use Rattle.kc_types.specs.declared.call.Call.{Call}
use Rattle.kc_model.specs.State.{State}
use Rattle.kc_model.specs.Next.{next, replies_from, state_after}
use Rattle.kc_model.proofs.Blind.HostBlind.{shows_nothing}
use Rattle.kc_model.proofs.States.Sizes.{sized-next}
use Rattle.kc_model.proofs.States.Runs.{replies_from-more, state_after-more}
use Rattle.kc_replay.specs.Wave.{IsWiped}
use Rattle.kc_replay.proofs.segment.answer_in_order.Goals as goal

after-call : (m before after : State) (call : Call) → after ≡ (next before call).1 → before.config ≡ m.config → after.config ≡ m.config
after-call m before after call state same = ap (λ (s : State). s.config) state ∙ (sized-next before call).config ∙ same

pub loop-number-preserved : goal.loop-number-preserved
loop-number-preserved g c =
    let step = state_after-more c.args.core.state c.args.calls.now c.loop-number.number c.index-calls-number.result c.loop-number-test.true c.index-calls-number.is in
    let told = replies_from-more c.args.core.state c.args.calls.now c.loop-number.number c.index-calls-number.result c.loop-number-test.true c.index-calls-number.is in
    record {
      replies = rw (told, ← c.loop-number.invariant.state, ← c.loop-number.invariant.replies, ← c.in-Ok-call.ensures.reply) c.in-Ok-push.ensures.items;
      state = rw (step, ← c.loop-number.invariant.state) c.in-Ok-call.ensures.state;
      config = after-call c.args.core.state c.loop-number.core.state c.call.new.self.state c.index-calls-number.result c.in-Ok-call.ensures.state c.loop-number.invariant.config;
    }

pub returns-in_default-push-clause-wiped : goal.returns-in_default-push-clause-wiped
returns-in_default-push-clause-wiped g c =
    subst (λ (config : Configuration). IsWiped config c.for_memory-in_default-push.result.left) (after-call c.args.core.state c.loop-number.core.state c.call.new.self.state c.index-calls-number.result c.in-Ok-call.ensures.state c.loop-number.invariant.config) c.for_memory-in_default-push.ensures.wiped

pub returns-clause-replayed : goal.returns-clause-replayed
returns-clause-replayed g c =
    let replies = c.loop-number.invariant.replies ∙ ap (replies_from c.args.core.state) (take_all c.loop-number.number c.args.calls.now c.loop-number-test.false) in
    let state = c.loop-number.invariant.state ∙ ap (state_after c.args.core.state) (take_all c.loop-number.number c.args.calls.now c.loop-number-test.false) in
    record { replies = replies; state = state; blind = shows_nothing c.args.core.state c.loop-number.core.state c.args.calls.now c.loop-number.replies.items c.requires.lawful replies state }
