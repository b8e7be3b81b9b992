use Rattle.std.proofs.Common.{◌≡◌, ◌+◌, ◌<◌, Bool, true, List, length, None, Ok}
use Rattle.kc_texts.specs.Ends.{Seen}
use Rattle.kc_run.specs.Reports.{ReadsOn, AreOpened}
use Rattle.kc_run.proofs.reporting.read_files.Given as goal

-- the files so far were read, and if more are to come it is known what may
abbrev pub invariant-loop-path : goal.invariant-loop-path
invariant-loop-path g l = record {
  read : (sources : List Seen) × (length sources ≡ l.path-index) × AreOpened g.F.File.Source.left g.F.File.Source.failed (g.F.Files.held l.fn.files) None l.after sources
      × (followed : Bool) × (l.path-index < length l.after → followed ≡ true) × ReadsOn g.A.Account.kind l.fn.account l.account None sources 2 followed (Ok None);
  number : l.number ≡ l.path-index + 1;
  shut : g.F.Files.refused l.files ≡ None;
  same : g.F.Files.held l.files ≡ g.F.Files.held l.fn.files;
}
