-- Why a text is not a dump.
use Rattle.std.specs.Prelude.{ℕ, ◌≡◌, ◌<◌, ◌+◌, ◌⊎◌, true, List, [], ◌∷◌, ◌++◌, length}
use Rattle.std.specs.List.{flat_map}
use Rattle.kc_types.specs.Configuration.{has_dump}
use Rattle.kc_types.specs.declared.version.Version.{Version}
use Rattle.kc_dump.specs.declared.line.FrameLine.{FrameLine}
use Rattle.kc_dump.specs.Dump.{Dumped}
use Rattle.kc_dump.specs.Ranges.{is_frame, IsDump}
use Rattle.kc_dump_text.specs.declared.dump_line.DumpLine.{DumpLine}
use Rattle.kc_dump_text.specs.declared.dump_line.DumpLine.TheVariants.{FrameOf}
use Rattle.kc_dump_text.specs.declared.fault.DumpFault.{DumpFault}
use Rattle.kc_dump_text.specs.declared.fault.DumpFault.TheVariants.{NoHeader, BadLine, Frame, Memory}
use Rattle.kc_dump_text.specs.DumpText.{dump_header, spell, dump_lines}

-- this dump of the version has these lines, and then those
pub record GoesOn (version : Version) (lines : List DumpLine) (d : Dumped) (next : List DumpLine) : Type 0 where
  pub range : IsDump d
  pub same : d.version ≡ version
  pub spelled : dump_lines d ≡ lines ++ next

-- the rest begins with the first of these lines, or is empty if there is none
abbrev pub Starts : List ℕ → List DumpLine → Type 0
Starts rest [] = rest ≡ []
Starts rest (l ∷ lines) = (more : List ℕ) × (rest ≡ spell l ++ more)

-- the text after the header begins with these lines, with which some dump begins; and however a dump goes on after
-- them, the rest does not
pub record DumpStopsAt (version : Version) (text : List ℕ) (lines : List DumpLine) (rest : List ℕ) : Type 0 where
  pub whole : text ≡ flat_map spell lines ++ rest
  pub begun : (d : Dumped) × (next : List DumpLine) × GoesOn version lines d next
  pub stuck : (d : Dumped) (next : List DumpLine) → GoesOn version lines d next → Starts rest next → ⊥

-- a dump may go on with the line of this frame, and there is no rest, or it begins with the line of another of the
-- frames
pub record LacksFrame (version : Version) (lines : List DumpLine) (rest : List ℕ) (f : ℕ) : Type 0 where
  pub dump : Dumped
  pub frame : FrameLine
  pub next : List DumpLine
  pub due : GoesOn version lines dump (FrameOf f frame ∷ next)
  pub why : (rest ≡ []) ⊎ ((other : ℕ) × (line : FrameLine) × (more : List ℕ) × (rest ≡ spell (FrameOf other line) ++ more) × (other < length dump.frames) × (is_frame version (length dump.frames) line ≡ true) × (other ≡ f → ⊥))

-- the rest does not go on with a line that may come, for this reason
abbrev pub Stuck : Version → List DumpLine → List ℕ → DumpFault → Type 0
Stuck version lines rest NoHeader = ⊥
Stuck version lines rest (BadLine n) = (n ≡ length lines + 2) × ((f : ℕ) → LacksFrame version lines rest f → ⊥)
Stuck version lines rest (Frame f) = LacksFrame version lines rest f
Stuck version lines rest Memory = ⊥

-- the text after the header does not have the lines of a dump, and this is the first reason
pub record DumpStopsFor (version : Version) (text : List ℕ) (fault : DumpFault) : Type 0 where
  pub lines : List DumpLine
  pub rest : List ℕ
  pub stops : DumpStopsAt version text lines rest
  pub why : Stuck version lines rest fault

-- the text is not a dump, and this is the first reason
abbrev pub IsRefusedDump : List ℕ → DumpFault → Type 0
IsRefusedDump text NoHeader = (version : Version) (rest : List ℕ) → has_dump version ≡ true → text ≡ dump_header version ++ rest → ⊥
IsRefusedDump text Memory = Unit {0}
IsRefusedDump text (BadLine n) = (version : Version) × (rest : List ℕ) × (text ≡ dump_header version ++ rest) × DumpStopsFor version rest (BadLine n)
IsRefusedDump text (Frame f) = (version : Version) × (rest : List ℕ) × (text ≡ dump_header version ++ rest) × DumpStopsFor version rest (Frame f)
