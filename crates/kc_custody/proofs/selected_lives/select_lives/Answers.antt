use Rattle.std.proofs.Common.{rules, ◌∙◌, sym, ap}
use Rattle.std.proofs.lemmas.Fn.{filter_same}
use Rattle.kc_model.specs.Lives.{is_life_of, selected_lives}
use Rattle.kc_custody.proofs.selected_lives.select_lives.Goals as goal

pub returns-in-Some : goal.returns-in-Some
returns-in-Some c =
    filter_same _ (is_life_of c.in-Some.vm) _ (λ x b f' k. search rules) _ _ c.retain.ensures.filtered ∙ ap (λ vm. selected_lives vm c.args.lives.now.items) (sym c.in-Some.is)
