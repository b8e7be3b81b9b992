use Rattle.std.proofs.Common.{rules}
use Rattle.std.proofs.lemmas.Fn.{filter_same}
use Rattle.kc_picture.specs.Frames.{is_lasting}
use Rattle.kc_picture.proofs.stretches.keep_lasting.Goals as goal

pub returns : goal.returns
returns c = filter_same _ is_lasting _ (λ x b f' k. search rules) _ _ c.retain.ensures.filtered
