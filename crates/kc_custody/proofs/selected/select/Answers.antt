use Rattle.std.proofs.Common.{rules, ◌∙◌}
use Rattle.std.proofs.lemmas.Fn.{filter_same}
use Rattle.kc_custody.specs.Selected.{is_selected}
use Rattle.kc_custody.proofs.Picked.{picked}
use Rattle.kc_custody.proofs.selected.select.Goals as goal

pub returns : goal.returns
returns c = filter_same _ (is_selected c.args.vm) _ (λ x b f' k. search rules) _ _ c.retain.ensures.filtered ∙ picked c.args.vm c.args.events.now.items
