use Rattle.std.proofs.Common.{ℕ, ◌<◌}
use Rattle.kc_model.specs.Lawful.{IsPage}
use Rattle.kc_snapshot.specs.Told.{bytes_of}
use Rattle.kc_snapshot.specs.Unlawful.{AreFramesOf, page_of}
use Rattle.kc_snapshot.proofs.frames.first_wrong_frame.Given as goal

abbrev pub invariant-loop-frame : goal.invariant-loop-frame
invariant-loop-frame l = record {
  frames : AreFramesOf l.dump (bytes_of l.pages) l.frame;
  pages : (f : ℕ) → f < l.frame → IsPage (page_of (bytes_of l.pages) f);
}
