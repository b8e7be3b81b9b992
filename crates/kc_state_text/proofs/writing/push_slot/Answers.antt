use Rattle.std.proofs.Common.{◌≡◌, List, ◌++◌, ap, ◌∙◌}
use Rattle.std.specs.List.{flat_map}
use Rattle.kc_model.specs.State.{Image, slot_at}
use Rattle.kc_dump_text.specs.DumpText.{spaced}
use Rattle.kc_snapshot.specs.Told.{slot_rest}
use Rattle.kc_state_text.specs.StateText.{image_words}
use Rattle.kc_state_text.proofs.Appended.{on-map, slot-written}
use Rattle.kc_state_text.proofs.writing.push_slot.Goals as goal

pub returns : goal.returns
returns c =
    let slot = slot_at c.args.core.now.state c.args.vm in
    let images : c.unwrap.result.now ≡ slot.images = rw c.unwrap.ensures at c.images.ensures.value in
    on-map c.push_short-2.result (slot-written (slot_rest slot) c.args.text.now.items c.push_short.new.text.items c.push_vcpus.new.text.items c.push_images.new.text.items c.push_short-2.new.text.items
    c.in_ok-push_short.ensures c.in_ok-push_vcpus.ensures
    (c.in_ok-push_images.ensures ∙ ap (λ (is : List Image). c.push_vcpus.new.text.items ++ flat_map (λ (image : Image). spaced (image_words image)) is) images)) c.push_short-2.ensures
