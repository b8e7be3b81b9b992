use Rattle.std.proofs.Common.{◌≡◌, length, sym, ap, ◌∙◌, arith}
use Rattle.std.specs.Prelude.{filter}
use Rattle.std.specs.List.{range_with_len}
use Rattle.std.proofs.lemmas.List.FromFn.{length-map-range_with_len}
use Rattle.kc_parts.specs.Parts.{page_at}
use Rattle.kc_model.specs.State.{frame_at}
use Rattle.kc_model.specs.Lawful.{same_owner}
use Rattle.kc_parts.specs.States.{state_of, frame_in}
use Rattle.kc_core.proofs.Shown.{filtered-taken, filtered-left}
use Rattle.kc_core.proofs.look_ups.owned_by.Goals as goal
use Rattle.kc_core.proofs.look_ups.owned_by.Goals.{then-is_owned_by+in_ok-push, else-is_owned_by}

pub loop-number-preserved : goal.loop-number-preserved
loop-number-preserved c =
    elim c.if-is_owned_by.branch [
      | then-is_owned_by+in_ok-push w ↦
          let made : w.unwrap.result ≡ c.loop-number.number = rw w.unwrap.ensures at w.frame.ensures.value in
          rw w.frames-is
          (filtered-taken (λ f. same_owner (frame_at (state_of c.args.config.now c.args.parts.now) f).owner c.args.owner.now) c.loop-number.number w.unwrap.result c.loop-number.frames.items _
          c.loop-number.invariant (sym c.is_owned_by.ensures ∙ w.if-is_owned_by.true) made w.in_ok-push.ensures.items)
      | else-is_owned_by w ↦
          rw w.frames-is
          (filtered-left (λ f. same_owner (frame_at (state_of c.args.config.now c.args.parts.now) f).owner c.args.owner.now) c.loop-number.number c.loop-number.frames.items
          c.loop-number.invariant (sym c.is_owned_by.ensures ∙ w.if-is_owned_by.false))
    ]

pub returns : goal.returns
returns c =
    let config = c.args.config.now in
    let h = c.args.parts.now in
    let long : length (state_of config h).frames ≡ config.frames = length-map-range_with_len (λ f. frame_in (page_at h f)) 0 config.frames in
    let ended = c.frames-number-end.ensures.value in
    let past = c.loop-number-test.false in
    let within = c.loop-number.auto.number-end in
    let last : c.loop-number.number ≡ length (state_of config h).frames = omega (arith, long, ended, past, within) in
    c.loop-number.invariant ∙ ap (λ n. filter (λ f. same_owner (frame_at (state_of config h) f).owner c.args.owner.now) (range_with_len 0 n)) last
