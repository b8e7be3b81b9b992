use Rattle.std.proofs.Common.{◌≡◌, ◌<◌, ◌+◌, ◌++◌, length, refl, List, [], ◌∷◌, All, take, get_or, ℕ, sym, ap, subst, ◌∙◌, append_assoc, append-nil}
use Rattle.std.specs.FinMap as finite
use Rattle.std.specs.Int.{w64, to_le_bytes}
use Rattle.std.specs.List.{flat_map}
use Rattle.std.proofs.lemmas.Grind.{flat_map-append}
use Rattle.std.proofs.lemmas.List.{take_all, take_more}
use Rattle.sha2.specs.Sha256.{sha256}
use Rattle.kc_model.specs.State.{Image, slot_at}
use Rattle.kc_model.specs.Effects.{launch_part}
use Rattle.kc_vms.specs.Measure.{WasFed}
use Rattle.kc_vms.specs.Stage2.{Table}
use Rattle.kc_vms.specs.Vm.{slot_table}
use Rattle.kc_parts.specs.Parts.{vm_at}
use Rattle.kc_parts.specs.States.{state_of}
use Rattle.kc_core.specs.Verifying.{mapped_in, bytes_of_image, IsImageHere}
use Rattle.kc_core.proofs.Imaged.{image-seen, image-through, images-seen}
use Rattle.kc_core.proofs.verify.launch_digest.Goals as goal
use Rattle.kc_core.proofs.verify.launch_digest.Goals.{After-images-images}

abbrev none : Image
none = record { base = 0; len = 0; pages = 0 }

-- the images that are measured are the state's
seen : (c : After-images-images) → (slot_at (state_of c.args.config.now c.args.parts.now) c.args.vm).images ≡ c.images-images.result.now
seen c = images-seen _ c.args.parts.now _ _ _ c.requires.low c.slot-slot.ensures c.images-images.ensures.value

-- they are here, also when looked up through the slot's table
through : (c : After-images-images) (table : Table) → table ≡ slot_table c.slot-slot.result.now → All (IsImageHere c.args.parts.now (finite.get table.mapped)) c.images-images.result.now
through c table is = λ i image low.
    let here = subst (λ images. All (IsImageHere c.args.parts.now (mapped_in (vm_at c.args.parts.now c.args.vm))) images) (seen c) c.requires.here in
    image-through c.args.parts.now c.args.vm c.slot-slot.result.now table _ c.slot-slot.ensures is (here i image low)

-- what is fed of one more image
more : (part : Image → List ℕ) (images : List Image) (i : ℕ) (base len bytes : List ℕ) → i < length images → part (get_or images i none) ≡ base ++ (len ++ bytes)
    → ((flat_map part (take i images) ++ base) ++ len) ++ bytes ≡ flat_map part (take (i + 1) images)
more part images i base len bytes low is =
    append_assoc (flat_map part (take i images) ++ base) len bytes
    ∙ append_assoc (flat_map part (take i images)) base (len ++ bytes)
    ∙ ap (λ one. flat_map part (take i images) ++ one) (sym is ∙ sym (append-nil (part (get_or images i none))))
    ∙ sym (flat_map-append part (take i images) (get_or images i none ∷ []))
    ∙ ap (flat_map part) (sym (take_more images i none low))

pub feed_image-requires-clause-here : goal.feed_image-requires-clause-here
feed_image-requires-clause-here c = through (goal.at.feed_image-requires-clause-here c).After-images-images c.table.result.now c.table.ensures c.loop-image.image-index none c.loop-image-test.true

pub loop-image-preserved : goal.loop-image-preserved
loop-image-preserved c =
    let k = goal.at.loop-image-preserved c in
    let m = state_of c.args.config.now c.args.parts.now in
    let images = c.images-images.result.now in
    let image = get_or images c.loop-image.image-index none in
    let bytes = bytes_of_image c.args.parts.now (finite.get c.table.result.now.mapped) image in
    let same = image-seen c.args.config.now c.args.parts.now c.args.vm c.slot-slot.result.now image c.requires.low c.requires.linked c.slot-slot.ensures (through k.After-images-images (slot_table c.slot-slot.result.now) refl c.loop-image.image-index none c.loop-image-test.true) in
    let there = ap (λ (table : Table). bytes_of_image c.args.parts.now (finite.get table.mapped) image) c.table.ensures ∙ same in
    let base = to_le_bytes w64 image.base in
    let len = to_le_bytes w64 image.len in
    subst (WasFed c.feed_image.new.measure) (more (launch_part m c.args.vm) images c.loop-image.image-index base len bytes c.loop-image-test.true (ap (λ content. base ++ (len ++ content)) (sym there)))
    (c.feed_image.ensures _ (c.number-in-loop-image.ensures _ (c.number.ensures _ c.loop-image.invariant)))

pub returns : goal.returns
returns c =
    let images = c.images-images.result.now in
    let part = launch_part (state_of c.args.config.now c.args.parts.now) c.args.vm in
    c.finish.ensures _ c.loop-image.invariant
    ∙ ap (λ all. sha256 (flat_map part all)) (take_all c.loop-image.image-index images c.loop-image-test.false ∙ sym (seen (goal.at.returns c).After-images-images))
