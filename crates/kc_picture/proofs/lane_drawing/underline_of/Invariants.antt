use Rattle.std.proofs.Common.{◌≡◌, ◌++◌, false, drop, string_bytes}
use Rattle.kc_picture.specs.OutlineWords.{underline_words}
use Rattle.kc_picture.proofs.lane_drawing.underline_of.Given as goal

abbrev pub invariant-loop-column : goal.invariant-loop-column
invariant-loop-column l = l.path.refused ≡ false → string_bytes l.path.text ++ underline_words l.scale.last l.y l.before l.column (drop l.column l.heights) ≡ underline_words l.scale.last l.y 0 0 l.heights
