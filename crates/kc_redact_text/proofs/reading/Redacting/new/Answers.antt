use Rattle.std.proofs.Common.{refl, rules}
use Rattle.kc_texts.proofs.Fed.{in_front}
use Rattle.kc_redact_text.proofs.reading.Redacting.new.Goals as goal

pub returns-clause-read : goal.returns-clause-read
returns-clause-read c first = in_front _ first (search rules) refl
