use Rattle.std.proofs.Common.{◌≡◌, ap, refl, sym, length, ◌∙◌}
use Rattle.kc_model.proofs.States.Pages.{as_bytes-same}
use Rattle.kc_model.specs.State.{overwritten}
use Rattle.kc_page.specs.PageBytes.{Content, Room}
use Rattle.kc_page.proofs.Pages.{zeros_over_zeros, roomless, held_whole, overwritten_whole, content-is}
use Rattle.kc_page.proofs.page.PageBytes.write.Goals as goal

pub returns-then-are_zero-clause-ok : goal.returns-then-are_zero-clause-ok
returns-then-are_zero-clause-ok c =
    let bytes = c.args.bytes.now in
    let zero = ap (λ (page : Content). page.bytes) (sym c.self.view_is) ∙ c.self.invariant.zeros c.if-self.true in
    content-is (zero ∙ zeros_over_zeros c.args.offset bytes (c.if-are_zero.ensures.0 refl) (as_bytes-same bytes (λ k. (c.type_inv.bytes k).fits)) c.requires.within ∙ ap (λ page. overwritten page c.args.offset bytes) (sym zero)) refl

pub make_room-requires : goal.make_room-requires
make_room-requires c = roomless _ _ _ c.self.invariant

pub write-requires-clause-whole : goal.write-requires-clause-whole
write-requires-clause-whole c = ap (λ (room : Room). length room.bytes) c.fill.ensures ∙ ap length c.in_ok-make_room.ensures.same ∙ held_whole _ _ _ c.self.invariant

pub invariant_of-self-2 : goal.invariant_of-self-2
invariant_of-self-2 c =
    let filled = ap (λ (room : Room). length room.bytes) c.fill.ensures ∙ ap length c.in_ok-make_room.ensures.same ∙ held_whole _ _ _ c.self.invariant in
    let room = ap (λ (room : Room). room.has_room) c.write.ensures ∙ ap (λ (room : Room). room.has_room) c.fill.ensures ∙ c.in_ok-make_room.ensures.room in
    record {
      zeros = λ e. absurd cc;
      whole = λ e. ap (λ (room : Room). length room.bytes) c.write.ensures ∙ overwritten_whole _ c.args.offset c.args.bytes.now filled c.requires.within;
      filled = λ e. room;
      room = λ e. room;
    }
