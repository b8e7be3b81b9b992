use Rattle.std.proofs.Common.{◌≡◌, ◌≤◌, length, refl, ap, sym, ◌∙◌, arith}
use Rattle.std.specs.Prelude.{vec_capacity}
use Rattle.std.proofs.lemmas.Bool.{eqb-true, leb-true, le-leb}
use Rattle.kc_page.specs.PageBytes.{Room, filled_from}
use Rattle.kc_page.proofs.Pages.{filled, fresh, room-is}
use Rattle.kc_page.proofs.page_memory.PageMemory.fill.Goals as goal

pub returns-then-is_empty : goal.returns-then-is_empty
returns-then-is_empty c =
    let bytes = c.self.inside.bytes in
    let none = eqb-true _ _ (sym c.if-is_empty.ensures) in
    let enough : 4096 ≤ vec_capacity bytes = leb-true 4096 (vec_capacity bytes) (ap (λ (room : Room). room.has_room) c.self.view_is ∙ c.requires) in
    let zero = filled bytes.len bytes.items c.resize.new.self.items _ (sym bytes.ok.0) none (c.resize.ensures.succeeds enough) c.resize.ensures.items in
    let was = ap (λ (room : Room). filled_from room.bytes) (sym c.self.view_is) ∙ fresh bytes.items (sym bytes.ok.0 ∙ none) in
    room-is (zero ∙ sym was) (le-leb 4096 (vec_capacity c.resize.new.self) (omega (arith, enough, c.resize.ensures.capacity)) ∙ sym c.requires)
