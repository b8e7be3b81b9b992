-- What was opened to be read.
use Rattle.std.specs.Prelude.{Bool}
use Rattle.kc_run.specs.declared.folder.Opened.{Opened}
use Rattle.kc_run.specs.declared.folder.Opened.TheVariants as opened

-- whether a read of it failed
abbrev pub has_failed : Opened → Bool
has_failed (opened.Standard input is_ended) = input.failed
has_failed (opened.File file) = file.failed
