use Rattle.std.proofs.Common.{◌≡◌, ◌+◌, ◌-◌, refl, ap, ◌∙◌}
use Rattle.std.specs.FinMap as map
use Rattle.kc_vms.specs.Stage2.{Table}
use Rattle.kc_model.specs.Refusals.{backing, pages_of}
use Rattle.kc_page.specs.PageBytes.{Content}
use Rattle.kc_parts.proofs.Seen.{linked-kept}
use Rattle.kc_core.proofs.Frames.{places-page}
use Rattle.kc_core.proofs.Imaged.{state-trimmed}
use Rattle.kc_core.proofs.verify.trim_image.Goals as goal

pub returns-clause-state : goal.returns-clause-state
returns-clause-state c =
    let slot = c.slot-slot.result.now in
    let image = c.args.image.now in
    let there = c.slot-slot.ensures in
    let leads : c.backing-frame.result ≡ backing (map.get slot.slot.mapped (image.base + (pages_of image.len - 1))) =
    c.backing-frame.ensures ∙ ap (λ (t : Table). backing (map.get t.mapped (image.base + (c.pages_of.result - 1)))) c.table.ensures ∙ ap (λ n. backing (map.get slot.slot.mapped (image.base + (n - 1)))) c.pages_of.ensures in
    state-trimmed c.args.config.now c.args.parts.now _ slot image _ _ _ c.requires.low c.requires.linked there c.requires.measurable.some leads c.page_mut-page.ensures.value refl (rw c.zero_from.ensures refl)

pub returns-clause-linked : goal.returns-clause-linked
returns-clause-linked c = linked-kept _ _ _ _ _ c.requires.linked c.page_mut-page.ensures.value refl refl (ap (λ (page : Content). page.is_reserved) c.zero_from.ensures)

pub returns-clause-places : goal.returns-clause-places
returns-clause-places c = places-page _ _ _ _ c.page_mut-page.ensures.value refl (λ away. refl)
