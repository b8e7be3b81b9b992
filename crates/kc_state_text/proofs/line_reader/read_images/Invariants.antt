use Rattle.std.proofs.Common.{◌≡◌, ◌≤◌, ◌++◌, length, All}
use Rattle.kc_types.specs.Limits.{first_image_limit}
use Rattle.kc_state_text.specs.StateText.{images_words}
use Rattle.kc_state_text.specs.Refused.{AreImageWords}
use Rattle.kc_state_text.proofs.line_reader.read_images.Given as goal

-- those so far
abbrev pub invariant-loop-words : goal.invariant-loop-words
invariant-loop-words l = record {
  spelled : l.initial.words ≡ images_words l.images.items ++ l.words;
  each : All AreImageWords l.images.items;
  few : length l.images.items ≤ first_image_limit;
}

abbrev pub decreases-loop-words : goal.decreases-loop-words
decreases-loop-words l = length l.words
