use Rattle.std.proofs.Common.{◌≡◌, length, refl, ap, sym, ◌∙◌}
use Rattle.std.proofs.lemmas.Bool.{eqb-true}
use Rattle.kc_model.proofs.States.ZeroPage.{zero_page-replicate}
use Rattle.kc_page.specs.PageBytes.{Room, filled_from}
use Rattle.kc_page.proofs.Pages.{fresh}
use Rattle.kc_page.proofs.page_memory.PageMemory.as_slice.Goals as goal

pub returns-then-is_empty : goal.returns-then-is_empty
returns-then-is_empty c =
    let bytes = c.self.inside.bytes in
    sym (ap (λ (room : Room). filled_from room.bytes) (sym c.self.view_is) ∙ fresh bytes.items (sym bytes.ok.0 ∙ eqb-true _ _ (sym c.if-is_empty.ensures)) ∙ zero_page-replicate)
