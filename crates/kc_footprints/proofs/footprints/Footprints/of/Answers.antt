use Rattle.std.proofs.Common.{◌≡◌, ◌∙◌, ap, arith}
use Rattle.std.proofs.lemmas.Grind.{common_steps}
use Rattle.kc_model.specs.Resources.{is_wanted}
use Rattle.kc_footprints.specs.Spans.{footprint_has}
use Rattle.kc_footprints.proofs.Listed.{footprint_items, members_are, members_once}
use Rattle.kc_footprints.proofs.footprints.Footprints.of.Goals as goal

pub returns-clause-members : goal.returns-clause-members
returns-clause-members c = λ r.
    let is : c.list_free.new.members.items ≡ footprint_items c.args.self.now.sets c.footprint-footprint.result = grind (arith, common_steps) in
    ap (λ rs. is_wanted rs r) is ∙ members_are c.args.self.now.sets c.footprint-footprint.result r ∙ ap (λ footprint. footprint_has c.args.self.now.sets footprint r) c.footprint-footprint.ensures.value

pub returns-clause-once : goal.returns-clause-once
returns-clause-once c =
    let is : c.list_free.new.members.items ≡ footprint_items c.args.self.now.sets c.footprint-footprint.result = grind (arith, common_steps) in
    rw is (members_once c.args.self.now.sets c.footprint-footprint.result c.footprint-footprint.ensures.once)
