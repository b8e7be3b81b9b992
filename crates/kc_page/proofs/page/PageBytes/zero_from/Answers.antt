use Rattle.std.proofs.Common.{ap, sym, refl, ◌∙◌}
use Rattle.kc_page.specs.PageBytes.{Content, zeroed_from}
use Rattle.kc_page.proofs.Pages.{filled_as, zeroed_zero_page, zeroed_whole, content-is}
use Rattle.kc_page.proofs.page.PageBytes.zero_from.Goals as goal

pub returns-else-not-self : goal.returns-else-not-self
returns-else-not-self c =
    let zero = ap (λ (page : Content). page.bytes) (sym c.self.view_is) ∙ c.self.invariant.zeros c.if-not-self.false in
    content-is (zero ∙ zeroed_zero_page c.args.n c.requires ∙ ap (λ bytes. zeroed_from bytes c.args.n) (sym zero)) refl
