use Rattle.std.proofs.Common.{refl, rules}
use Rattle.kc_texts.proofs.Fed.{in_front}
use Rattle.kc_texts.proofs.stream.CallStream.new.Goals as goal

pub returns-clause-read : goal.returns-clause-read
returns-clause-read c first = in_front _ first (search rules) refl
