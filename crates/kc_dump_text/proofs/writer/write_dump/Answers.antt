use Rattle.kc_dump_text.proofs.writer.write_dump.Goals as goal

pub returns-clause-read : goal.returns-clause-read
returns-clause-read c has = record { whole = c.in_ok-text.ensures.text; range = c.in_ok-text.ensures.kept; has = has }
