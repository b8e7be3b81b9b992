use Rattle.std.proofs.Common.{◌≡◌, ◌++◌, false, drop, string_bytes}
use Rattle.kc_picture.specs.OutlineWords.{outline_words}
use Rattle.kc_picture.proofs.lane_drawing.outline_of.Given as goal

abbrev pub invariant-loop-column : goal.invariant-loop-column
invariant-loop-column l = l.path.refused ≡ false → string_bytes l.path.text ++ outline_words l.place l.before l.column (drop l.column l.heights) ≡ outline_words l.place 0 0 l.heights
