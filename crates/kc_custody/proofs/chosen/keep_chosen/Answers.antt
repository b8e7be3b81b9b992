use Rattle.std.proofs.Common.{rules}
use Rattle.std.proofs.lemmas.Fn.{filter_same}
use Rattle.kc_custody.specs.Chosen.{is_chosen}
use Rattle.kc_custody.proofs.chosen.keep_chosen.Goals as goal

pub returns : goal.returns
returns c = filter_same _ (is_chosen c.args.vm c.args.remarks) _ (λ x b f' k. search rules) _ _ c.retain.ensures.filtered
