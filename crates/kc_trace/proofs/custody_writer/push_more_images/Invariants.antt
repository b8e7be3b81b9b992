use Rattle.std.proofs.Common.{◌≡◌, ◌≤◌, ◌+◌, ◌*◌, ◌++◌, take}
use Rattle.std.specs.Prelude.{vec_len, vec_capacity}
use Rattle.std.specs.List.{flat_map}
use Rattle.kc_trace.specs.CustodyText.{more_image_text, longest_image}
use Rattle.kc_trace.proofs.custody_writer.push_more_images.Given as goal

-- the images so far
abbrev pub invariant-loop-image : goal.invariant-loop-image
invariant-loop-image l = record {
  items : l.text.items ≡ l.fn.text.items ++ flat_map more_image_text (take l.image-index l.images);
  len : vec_len l.text ≤ vec_len l.fn.text + l.image-index * (longest_image + 1);
  capacity : vec_capacity l.fn.text ≤ vec_capacity l.text;
}
