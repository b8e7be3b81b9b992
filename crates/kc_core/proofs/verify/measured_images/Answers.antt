use Rattle.std.proofs.Common.{ℕ, ◌≡◌, ◌<◌, ◌+◌, ◌++◌, List, [], ◌∷◌, All, length, get_or, take, map, sym, ap, ap₂, subst, ◌∙◌, arith}
use Rattle.std.proofs.lemmas.List.{take_all, map_more, get_or-map}
use Rattle.std.specs.FinMap as finite
use Rattle.sha2.specs.Sha256.{sha256}
use Rattle.kc_types.specs.declared.custody.MeasuredImage.{MeasuredImage}
use Rattle.kc_model.specs.State.{Image, slot_at}
use Rattle.kc_model.specs.Custody.{measured_image}
use Rattle.kc_vms.specs.Stage2.{Table}
use Rattle.kc_vms.specs.Vm.{slot_table}
use Rattle.kc_parts.specs.Parts.{vm_at}
use Rattle.kc_parts.specs.States.{state_of}
use Rattle.kc_core.specs.Verifying.{mapped_in, bytes_of_image, IsImageHere}
use Rattle.kc_core.proofs.Imaged.{measured-seen, image-through, images-seen}
use Rattle.kc_core.proofs.verify.measured_images.Goals as goal
use Rattle.kc_core.proofs.verify.measured_images.Goals.{After-images-images}

abbrev none : Image
none = record { base = 0; len = 0; pages = 0 }

-- the images that are measured are the state's
seen : (c : After-images-images) → (slot_at (state_of c.args.config.now c.args.parts.now) c.args.vm).images ≡ c.images-images.result.now
seen c = images-seen _ c.args.parts.now _ _ _ c.requires.low c.slot-slot.ensures c.images-images.ensures.value

-- they are here, also when looked up through the slot's table
here : (c : After-images-images) → All (IsImageHere c.args.parts.now (mapped_in (vm_at c.args.parts.now c.args.vm))) c.images-images.result.now
here c = subst (λ images. All (IsImageHere c.args.parts.now (mapped_in (vm_at c.args.parts.now c.args.vm))) images) (seen c) c.requires.here

through : (c : After-images-images) (table : Table) → table ≡ slot_table c.slot-slot.result.now → All (IsImageHere c.args.parts.now (finite.get table.mapped)) c.images-images.result.now
through c table is = λ i image low. image-through c.args.parts.now c.args.vm c.slot-slot.result.now table _ c.slot-slot.ensures is (here c i image low)

-- one more image is measured
more : (measure : Image → MeasuredImage) (images : List Image) (i : ℕ) (before after : List MeasuredImage) (one : MeasuredImage) → i < length images
    → before ≡ map measure (take i images) → after ≡ before ++ one ∷ [] → one ≡ measure (get_or images i none) → after ≡ map measure (take (i + 1) images)
more measure images i before after one low so_far pushed is =
    pushed ∙ ap₂ (λ (all : List MeasuredImage) (last : MeasuredImage). all ++ last ∷ []) so_far is ∙ sym (map_more measure images i none low)

pub digests_of_four-digests-requires-clause-here : goal.digests_of_four-digests-requires-clause-here
digests_of_four-digests-requires-clause-here c = through (goal.at.digests_of_four-digests-requires-clause-here c).After-images-images c.table.result.now c.table.ensures

pub loop-i-preserved : goal.loop-i-preserved
loop-i-preserved c =
    let k = goal.at.loop-i-preserved c in
    let images = c.images-images.result.now in
    let image = get_or images c.loop-i.i none in
    let four = (c.are_four_alike.ensures.0 c.if-are_four_alike.true).0 in
    let low : c.loop-i.i < length images = omega (arith, four, c.loop-i-test.true) in
    let digest = λ (image : Image). sha256 (bytes_of_image c.args.parts.now (finite.get c.table.result.now.mapped) image) in
    let is = ap (λ (all : List (List ℕ)). get_or all c.loop-i.i []) c.digests_of_four-digests.ensures ∙ get_or-map digest images c.loop-i.i none [] low in
    more _ images c.loop-i.i _ _ c.measured.result low c.loop-i.invariant c.push.ensures.items
    (c.measured.ensures
    ∙ measured-seen c.args.config.now c.args.parts.now c.args.vm c.slot-slot.result.now c.table.result.now image _ c.requires.low c.requires.linked c.slot-slot.ensures c.table.ensures (here k.After-images-images c.loop-i.i none low) is)

pub digest_of-requires-clause-here : goal.digest_of-requires-clause-here
digest_of-requires-clause-here c =
    through (goal.at.digest_of-requires-clause-here c).After-images-images c.table-in-loop-image.result.now c.table-in-loop-image.ensures c.loop-image.image-index none c.loop-image-test.true

pub loop-image-preserved : goal.loop-image-preserved
loop-image-preserved c =
    let k = goal.at.loop-image-preserved c in
    let images = c.images-images.result.now in
    let image = get_or images c.loop-image.image-index none in
    more _ images c.loop-image.image-index _ _ c.measured-in-loop-image.result c.loop-image-test.true c.loop-image.invariant c.push-in-loop-image.ensures.items
    (c.measured-in-loop-image.ensures
    ∙ measured-seen c.args.config.now c.args.parts.now c.args.vm c.slot-slot.result.now c.table-in-loop-image.result.now image _ c.requires.low c.requires.linked c.slot-slot.ensures c.table-in-loop-image.ensures
    (here k.After-images-images c.loop-image.image-index none c.loop-image-test.true) c.digest_of.ensures)

pub returns-after-loop-i : goal.returns-after-loop-i
returns-after-loop-i c =
    let four = (c.are_four_alike.ensures.0 c.if-are_four_alike.true).0 in
    let images = c.images-images.result.now in
    let measure = measured_image (state_of c.args.config.now c.args.parts.now) c.args.vm in
    c.loop-i.invariant ∙ ap (map measure) (take_all c.loop-i.i images (omega (arith, four, c.loop-i-test.false)) ∙ sym (seen (goal.at.returns-after-loop-i c).After-images-images))

pub returns-after-loop-image : goal.returns-after-loop-image
returns-after-loop-image c =
    let images = c.images-images.result.now in
    let measure = measured_image (state_of c.args.config.now c.args.parts.now) c.args.vm in
    c.loop-image.invariant ∙ ap (map measure) (take_all c.loop-image.image-index images c.loop-image-test.false ∙ sym (seen (goal.at.returns-after-loop-image c).After-images-images))
