use Rattle.std.proofs.Common.{◌≡◌, ◌++◌, take}
use Rattle.std.specs.List.{flat_map}
use Rattle.kc_model.specs.State.{Image}
use Rattle.kc_dump_text.specs.DumpText.{spaced}
use Rattle.kc_state_text.specs.StateText.{image_words}
use Rattle.kc_state_text.proofs.writing.push_images.Given as goal

abbrev pub invariant-loop-image : goal.invariant-loop-image
invariant-loop-image l = l.text.items ≡ l.initial.text.items ++ flat_map (λ (image : Image). spaced (image_words image)) (take l.image-index l.images)
