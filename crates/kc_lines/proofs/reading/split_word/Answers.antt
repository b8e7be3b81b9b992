use Rattle.std.proofs.Common.{sym, arith}
use Rattle.std.proofs.lemmas.Grind.{common_steps}
use Rattle.kc_lines.proofs.Words.{split_at_space, no_space}
use Rattle.kc_lines.proofs.reading.split_word.Goals as goal

pub returns-in-None : goal.returns-in-None
returns-in-None c = no_space c.args.line.now (sym c.in-None.ensures)

pub returns-in-Some : goal.returns-in-Some
returns-in-Some c = let cut = split_at_space c.args.line.now c.in-Some.at (sym c.in-Some.ensures) in grind (arith, common_steps, cut)
