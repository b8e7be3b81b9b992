use Rattle.std.proofs.Common.{ap, sym, ◌∙◌}
use Rattle.kc_page.specs.PageBytes.{Content, Room}
use Rattle.kc_page.proofs.Pages.{zeroed_all, content-is}
use Rattle.kc_page.proofs.page.PageBytes.scrub.Goals as goal

pub give_back-requires : goal.give_back-requires
give_back-requires c = zeroed_all _ _ (ap (λ (room : Room). room.bytes) c.zero_from.ensures) (c.self.invariant.whole c.if-self.false)

pub invariant_of-self-else-not-self : goal.invariant_of-self-else-not-self
invariant_of-self-else-not-self c = record {
  zeros = λ e. zeroed_all _ _ (ap (λ (room : Room). room.bytes) c.zero_from.ensures) (c.self.invariant.whole c.if-self.false);
  whole = λ e. absurd cc;
  filled = λ e. absurd cc;
  room = λ e. ap (λ (room : Room). room.has_room) c.zero_from.ensures ∙ c.self.invariant.room e;
}

pub returns-else-not-self : goal.returns-else-not-self
returns-else-not-self c =
    content-is (zeroed_all _ _ (ap (λ (room : Room). room.bytes) c.zero_from.ensures) (c.self.invariant.whole c.if-self.false)) (ap (λ (page : Content). page.is_reserved) c.self.view_is)
