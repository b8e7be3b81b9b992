use Rattle.std.proofs.Common.{◌<◌, IsSome, All, sym, ap, ◌∙◌}
use Rattle.kc_types.specs.Configuration.{slot_count}
use Rattle.kc_types.specs.declared.call.Call.TheVariants.{Verify}
use Rattle.kc_types.specs.declared.resource.Resource.TheVariants as resource
use Rattle.kc_types.specs.declared.slot.Phase.TheVariants.{Active, Dead}
use Rattle.kc_model.specs.State.{slot_at}
use Rattle.kc_model.specs.Effects.{verified, with_phase}
use Rattle.kc_model.proofs.Lawful.Verifies.{verify-served}
use Rattle.kc_parts.specs.Parts.{held_slot, vm_at}
use Rattle.kc_parts.specs.States.{state_of}
use Rattle.kc_core.specs.Verifying.{mapped_in, IsImageHere}
use Rattle.kc_core.proofs.Answered.{answer-served}
use Rattle.kc_core.proofs.Frames.{places-vm, places-through}
use Rattle.kc_core.proofs.Imaged.{slot-verified, images-needed}
use Rattle.kc_core.proofs.Verifying.{booting-here, state-phase, linked-phase}
use Rattle.kc_core.proofs.verify.end_boot.Goals as goal
use Rattle.kc_core.proofs.verify.end_boot.Goals.{Start}

low : (c : Start) → c.args.vm < slot_count c.args.config.now
low c = (verify-served (state_of c.args.config.now c.args.parts.now) _ c.requires.served).0

here : (c : Start) → IsSome (vm_at c.args.parts.now c.args.vm)
here c = slot-verified _ _ _ c.requires.able c.requires.served

images : (c : Start) → All (IsImageHere c.args.parts.now (mapped_in (vm_at c.args.parts.now c.args.vm))) (slot_at (state_of c.args.config.now c.args.parts.now) c.args.vm).images
images c = images-needed _ _ _ c.requires.able c.requires.served

pub slot_mut-requires : goal.slot_mut-requires
slot_mut-requires c = here (goal.at.slot_mut-requires c).Start

pub kill-requires : goal.kill-requires
kill-requires c = booting-here _ c.args.parts.now _ _ c.requires.served c.slot_mut.ensures.value

pub returns-in-Some : goal.returns-in-Some
returns-in-Some c =
    let k = goal.at.returns-in-Some c in
    let judged = sym c.in-Some.is ∙ c.requires.rejected in
    answer-served c.args.config.now c.args.parts.now _ (Verify c.args.vm) _ c.requires.served
    (ap (λ at. (verified (state_of c.args.config.now c.args.parts.now) c.args.vm at).0) judged)
    (state-phase c.args.config.now c.args.parts.now _ _ _ Dead (low k.Start) c.slot_mut.ensures.value c.kill.ensures
    ∙ ap (λ at. (verified (state_of c.args.config.now c.args.parts.now) c.args.vm at).1) judged)
    (linked-phase _ _ _ _ _ Dead c.requires.able.linked c.slot_mut.ensures.value c.kill.ensures)
    (places-vm c.args.parts.now _ _ _ c.slot_mut.ensures.value)

pub trim_images-requires-clause-slot : goal.trim_images-requires-clause-slot
trim_images-requires-clause-slot c = here (goal.at.trim_images-requires-clause-slot c).Start

pub trim_images-requires-clause-here : goal.trim_images-requires-clause-here
trim_images-requires-clause-here c = images (goal.at.trim_images-requires-clause-here c).Start

pub slot_mut-requires-2 : goal.slot_mut-requires-2
slot_mut-requires-2 c = c.trim_images.ensures.places.here (resource.Vm c.args.vm) ∙ here (goal.at.slot_mut-requires-2 c).Start

pub activate-requires : goal.activate-requires
activate-requires c = booting-here _ c.args.parts.now _ _ c.requires.served (ap (λ vms. held_slot vms c.args.vm) (sym c.trim_images.ensures.slots) ∙ c.slot_mut-2.ensures.value)

pub returns : goal.returns
returns c =
    let k = goal.at.returns c in
    let judged = sym c.in_default.is ∙ c.requires.rejected in
    answer-served c.args.config.now c.args.parts.now _ (Verify c.args.vm) _ c.requires.served
    (ap (λ at. (verified (state_of c.args.config.now c.args.parts.now) c.args.vm at).0) judged)
    (state-phase c.args.config.now c.trim_images.new.parts _ _ _ Active (low k.Start) c.slot_mut-2.ensures.value c.activate.ensures
    ∙ ap (λ s. with_phase s c.args.vm Active) c.trim_images.ensures.state
    ∙ ap (λ at. (verified (state_of c.args.config.now c.args.parts.now) c.args.vm at).1) judged)
    (linked-phase _ _ _ _ _ Active c.trim_images.ensures.linked c.slot_mut-2.ensures.value c.activate.ensures)
    (places-through _ _ _ c.trim_images.ensures.places (places-vm c.trim_images.new.parts _ _ _ c.slot_mut-2.ensures.value))
