use Rattle.std.proofs.Common.{◌≡◌, ◌*◌, ◌<◌, ℕ, length, get_or}
use Rattle.std.specs.FinMap as finite
use Rattle.kc_model.specs.State.{Image}
use Rattle.kc_digests.specs.MeasureFour.{LaneWasFed}
use Rattle.kc_core.specs.Verifying.{bytes_under}
use Rattle.kc_core.proofs.Measuring.{joined}
use Rattle.kc_core.proofs.verify.digests_of_four.Given as goal

-- each lane was fed the pages of its image so far
abbrev pub invariant-loop-number : goal.invariant-loop-number
invariant-loop-number l = record {
  fed : (j : ℕ) (image : Image) → j < 4 → LaneWasFed l.measure j (joined (bytes_under l.parts (finite.get l.table.mapped)) (get_or l.images j image).base l.number);
  whole : (j : ℕ) (image : Image) → j < 4 → length (joined (bytes_under l.parts (finite.get l.table.mapped)) (get_or l.images j image).base l.number) ≡ 4096 * l.number;
}
