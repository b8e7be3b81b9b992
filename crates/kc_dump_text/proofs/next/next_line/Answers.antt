use Rattle.std.proofs.Common.{ap, sym, ◌∙◌}
use Rattle.std.specs.Prelude.{option_and_then}
use Rattle.kc_dump_text.specs.Lines.{line_read}
use Rattle.kc_dump_text.specs.Begun.{first_line}
use Rattle.kc_dump_text.proofs.ReadLines.{none-first, cut-first, read-first}
use Rattle.kc_dump_text.proofs.next.next_line.Goals as goal

pub returns-in_default : goal.returns-in_default
returns-in_default c = ap (option_and_then line_read) (none-first c.args.text.now c.in_default.ensures)

pub returns-in_default-read_line : goal.returns-in_default-read_line
returns-in_default-read_line c = ap first_line c.in-Some.ensures.1 ∙ ap (option_and_then line_read) (cut-first c.in-Some.bytes.now c.in-Some.rest.now c.in-Some.ensures.0) ∙ sym c.in_default-read_line.ensures

pub returns : goal.returns
returns c = (
  ap first_line c.in-Some.ensures.1 ∙ ap (option_and_then line_read) (cut-first c.in-Some.bytes.now c.in-Some.rest.now c.in-Some.ensures.0) ∙ sym c.in-Some-read_line.ensures,
  c.in-Some.ensures.1 ∙ read-first c.in-Some.bytes.now c.in-Some.rest.now c.in-Some-read_line.line (sym c.in-Some-read_line.ensures),
)
