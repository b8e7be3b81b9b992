use Rattle.std.proofs.Common.{◌≡◌, Some, IfOk, sym, ap, ◌∙◌, subst}
use Rattle.std.specs.Prelude.{option_map}
use Rattle.serde_json.specs.Read.{read as read_text}
use Rattle.serde_json.specs.View.{view}
use Rattle.kc_config_text.specs.ConfigText.{shape_in, value_in}
use Rattle.kc_config_text.proofs.ConfigMembers.{value_of_text, value_of_no_text}
use Rattle.kc_config_text.proofs.config_value.read_value.Goals as goal

pub returns-in_default-clause-err : goal.returns-in_default-clause-err
returns-in_default-clause-err c = value_of_no_text c.args.bytes.now c.in_default.ensures.cases.0

pub returns-clause-ok : goal.returns-clause-ok
returns-clause-ok c =
    let is = c.in-Ok.ensures.cases in
    let said : read_text c.in-Ok.text.now ≡ value_in c.args.bytes.now = ap read_text is.0 ∙ sym (value_of_text c.args.bytes.now is.1) in
    subst (λ said. IfOk c.read_text.result (λ kept. option_map shape_in said ≡ Some (shape_in (view kept)))) said c.read_text.ensures.ok
