use Rattle.std.proofs.Common.{get_or, sym, subst, ◌∙◌}
use Rattle.std.proofs.lemmas.List.{take_more}
use Rattle.kc_model.specs.State.{Image}
use Rattle.kc_model.specs.Lawful.{Apart}
use Rattle.kc_model.proofs.States.Slots.{apart-push}
use Rattle.kc_vms.proofs.Judged.{apart-before}
use Rattle.kc_vms.proofs.judging.are_apart.Goals as goal

abbrev no_image : Image
no_image = record { base = 0; len = 0; pages = 0 }

pub returns-then-overlaps_any : goal.returns-then-overlaps_any
returns-then-overlaps_any c = (λ no. cc, λ apart. let none = apart-before c.args.images.now c.loop-i.i no_image c.loop-i-test.true apart in sym (c.overlaps_any.ensures ∙ none) ∙ c.if-overlaps_any.true)

pub loop-i-preserved : goal.loop-i-preserved
loop-i-preserved c =
    subst Apart (sym (take_more c.args.images.now c.loop-i.i no_image c.loop-i-test.true))
    (apart-push _ (get_or c.args.images.now c.loop-i.i no_image) c.loop-i.invariant (sym c.overlaps_any.ensures ∙ c.if-overlaps_any.false))
