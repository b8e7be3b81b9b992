use Rattle.std.proofs.Common.{sym, ◌+◌}
use Rattle.kc_lines.proofs.Newlines.{line_ends_at, no_newline, tail_is}
use Rattle.kc_lines.proofs.reading.split_line.Goals as goal

pub returns-in-Some : goal.returns-in-Some
returns-in-Some c = rw (tail_is (c.in-Some.at + 1) c.args.bytes.now) (line_ends_at c.args.bytes.now c.in-Some.at (sym c.in-Some.ensures))

pub returns-in-None : goal.returns-in-None
returns-in-None c = no_newline c.args.bytes.now (sym c.in-None.ensures)
