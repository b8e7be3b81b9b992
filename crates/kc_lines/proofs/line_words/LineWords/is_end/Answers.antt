use Rattle.std.proofs.Common.{◌∙◌}
use Rattle.kc_lines.proofs.Words.{some_word}
use Rattle.kc_lines.proofs.line_words.LineWords.is_end.Goals as goal

pub returns-in-Some-clause-more : goal.returns-in-Some-clause-more
returns-in-Some-clause-more c e none = some_word c.in-Some._line.now (rw c.in-Some.is at (c.self.view_is ∙ none))
