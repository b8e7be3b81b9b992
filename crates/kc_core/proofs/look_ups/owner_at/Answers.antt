use Rattle.std.proofs.Common.{◌≡◌, sym, ap, ◌∙◌}
use Rattle.kc_model.specs.State.{Frame}
use Rattle.kc_parts.specs.States.{frame_in}
use Rattle.kc_parts.proofs.Seen.{frame-seen}
use Rattle.kc_core.proofs.look_ups.owner_at.Goals as goal

pub returns-in-Some : goal.returns-in-Some
returns-in-Some c =
    let is : c.unwrap.result ≡ c.args.frame = rw c.unwrap.ensures at c.frame.ensures.value in
    c.get.ensures ∙ rw (← is) (sym (ap (λ (frame : Frame). frame.owner) (frame-seen c.args.config.now c.args.parts.now c.unwrap.result (rw is c.requires)) ∙ ap (λ there. (frame_in there).owner) (sym c.in-Some.ensures)))

pub returns-in-None : goal.returns-in-None
returns-in-None c =
    let is : c.unwrap.result ≡ c.args.frame = rw c.unwrap.ensures at c.frame.ensures.value in
    rw (← is) (sym (ap (λ (frame : Frame). frame.owner) (frame-seen c.args.config.now c.args.parts.now c.unwrap.result (rw is c.requires)) ∙ ap (λ there. (frame_in there).owner) (sym c.in-None.ensures)))
