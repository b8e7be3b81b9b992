use Rattle.std.proofs.Common.{◌≡◌, ◌<◌, length, get_or, sym, ap, ◌∙◌}
use Rattle.std.proofs.lemmas.List.{length-set}
use Rattle.kc_types.specs.declared.call.Call.{Call}
use Rattle.kc_types.specs.declared.call.Call.TheVariants.{Take}
use Rattle.kc_model.specs.State.{State}
use Rattle.kc_model.specs.Next.{next}
use Rattle.kc_model.specs.Footprints.{call_at, state_at}
use Rattle.kc_model.proofs.States.Sizes.{sized-next}
use Rattle.kc_replay.specs.Wave.{wave_calls}
use Rattle.kc_replay.proofs.Taking.{wave-call, any-default}
use Rattle.kc_replay.proofs.Onward.{given-more, given-kept, state-one}
use Rattle.kc_replay.proofs.segment.answer_wave.Goals as goal

pub loop-place-preserved : goal.loop-place-preserved
loop-place-preserved g c =
    let at = c.loop-place.place in
    let low : at < length c.args.members.now = c.loop-place-test.true in
    let size = c.loop-place.invariant.size ∙ c.requires.long in
    let call : c.index-calls-number.result ≡ call_at (wave_calls c.args.calls.now c.args.members.now) at =
    c.index-calls-number.is ∙ any-default c.args.calls.now (get_or c.args.members.now at 0) c.index-calls-number.result Take (c.requires.members.within at low) ∙ sym (wave-call c.args.calls.now c.args.members.now at low) in
    record {
      state = c.in_ok-reply.ensures.state ∙ ap (λ (s : State). (next s c.index-calls-number.result).1) c.loop-place.invariant.state ∙ ap (λ (x : Call). (next (state_at c.args.core.now.state (wave_calls c.args.calls.now c.args.members.now) at) x).1) call ∙ sym (state-one c.args.core.now.state (wave_calls c.args.calls.now c.args.members.now) at);
      config = ap (λ (s : State). s.config) c.in_ok-reply.ensures.state ∙ (sized-next c.loop-place.core.state c.index-calls-number.result).config ∙ c.loop-place.invariant.config;
      given = given-more c.args.core.now.state c.args.calls.now c.args.members.now c.requires.members c.loop-place.replies at c.in_ok-reply.reply low size
          (c.in_ok-reply.ensures.reply ∙ ap (λ (s : State). (next s c.index-calls-number.result).0) c.loop-place.invariant.state ∙ ap (λ (x : Call). (next (state_at c.args.core.now.state (wave_calls c.args.calls.now c.args.members.now) at) x).0) call)
          c.loop-place.invariant.given;
      kept = λ k none. given-kept c.args.core.now.state c.args.calls.now c.args.members.now c.requires.members c.loop-place.replies at c.in_ok-reply.reply low size k none ∙ c.loop-place.invariant.kept k none;
      size = length-set c.loop-place.replies (get_or c.args.members.now at 0) c.in_ok-reply.reply ∙ c.loop-place.invariant.size;
    }
