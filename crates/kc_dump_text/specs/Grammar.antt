-- Which text is which dump.
use Rattle.std.specs.Prelude.{ℕ, ◌≡◌, true, List}
use Rattle.kc_types.specs.Configuration.{has_dump}
use Rattle.kc_dump.specs.Dump.{Dumped}
use Rattle.kc_dump.specs.Ranges.{IsDump}
use Rattle.kc_dump_text.specs.DumpText.{dump_text}

-- the text is the one spelling of this dump, whose numbers are in range and whose version has texts of dumps
pub record IsDumpText (text : List ℕ) (d : Dumped) : Type 0 where
  pub whole : text ≡ dump_text d
  pub range : IsDump d
  pub has : has_dump d.version ≡ true
