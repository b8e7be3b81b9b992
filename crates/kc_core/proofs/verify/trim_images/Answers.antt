use Rattle.std.proofs.Common.{◌≡◌, ◌<◌, length, get_or, take, sym, ap, subst, ◌∙◌}
use Rattle.std.proofs.lemmas.List.{take_all}
use Rattle.kc_model.specs.State.{Image, slot_at}
use Rattle.kc_model.specs.Effects.{trimmed, all_trimmed}
use Rattle.kc_parts.specs.States.{state_of}
use Rattle.kc_core.proofs.Frames.{places-through}
use Rattle.kc_core.proofs.Imaged.{images-seen, images-kept, image-still, all_trimmed-more}
use Rattle.kc_core.proofs.verify.trim_images.Goals as goal
use Rattle.kc_core.proofs.verify.trim_images.Goals.{After-images-count, In-loop-i, After-images}

-- the images that are counted are the state's
counted : (c : After-images-count) → (slot_at (state_of c.args.config.now c.args.parts.now) c.args.vm).images ≡ c.images-count.result.now
counted c = images-seen _ c.args.parts.now _ _ _ c.requires.low c.slot.ensures c.images-count.ensures.value

low : (c : In-loop-i) → c.loop-i.i < length (slot_at (state_of c.args.config.now c.args.parts.now) c.args.vm).images
low c = subst (λ images. c.loop-i.i < length images) (sym (counted (goal.at.In-loop-i c).After-images-count)) c.loop-i-test.true

-- and so are those that an iteration reads
seen : (c : After-images) → (slot_at (state_of c.args.config.now c.args.parts.now) c.args.vm).images ≡ c.images.result.now
seen c = images-kept _ c.args.parts.now c.loop-i.parts _ _ _ c.requires.low c.loop-i.invariant.slots c.slot-in-loop-i.ensures c.images.ensures.value

pub trim_image-requires-clause-here : goal.trim_image-requires-clause-here
trim_image-requires-clause-here c =
    let k = goal.at.trim_image-requires-clause-here c in
    rw (← seen k.After-images) (image-still c.args.parts.now c.loop-i.parts _ _ c.loop-i.invariant.places c.loop-i.invariant.slots (c.requires.here c.loop-i.i _ (low k.In-loop-i)))

pub loop-i-preserved : goal.loop-i-preserved
loop-i-preserved c =
    let k = goal.at.loop-i-preserved c in
    let m = state_of c.args.config.now c.args.parts.now in
    let v = c.args.vm in
    let images = (slot_at m v).images in
    let i = c.loop-i.i in
    let none : Image = record { base = 0; len = 0; pages = 0 } in
    record {
      state = c.trim_image.ensures.state
          ∙ ap (λ s. trimmed s v (get_or c.images.result.now i none)) c.loop-i.invariant.state
          ∙ ap (λ is. trimmed (all_trimmed m v (take i images)) v (get_or is i none)) (sym (seen k.After-images))
          ∙ sym (all_trimmed-more m v images i none (low k.In-loop-i));
      linked = c.trim_image.ensures.linked;
      places = places-through _ c.loop-i.parts _ c.loop-i.invariant.places c.trim_image.ensures.places;
      slots = c.trim_image.ensures.slots ∙ c.loop-i.invariant.slots;
    }

pub returns-clause-state : goal.returns-clause-state
returns-clause-state c =
    let m = state_of c.args.config.now c.args.parts.now in
    let images = counted (goal.at.returns-clause-state c).After-images-count in
    c.loop-i.invariant.state
    ∙ ap (λ is. all_trimmed m c.args.vm (take c.loop-i.i is)) images
    ∙ ap (all_trimmed m c.args.vm) (take_all c.loop-i.i c.images-count.result.now c.loop-i-test.false ∙ sym images)
