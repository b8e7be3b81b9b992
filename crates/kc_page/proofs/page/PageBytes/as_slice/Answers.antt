use Rattle.std.proofs.Common.{length, ap, sym, ◌∙◌}
use Rattle.kc_page.specs.PageBytes.{Content}
use Rattle.kc_page.proofs.Pages.{held_whole}
use Rattle.kc_page.proofs.page.PageBytes.as_slice.Goals as goal

pub returns-clause-whole : goal.returns-clause-whole
returns-clause-whole c = ap (λ (page : Content). length page.bytes) (sym c.self.view_is) ∙ held_whole _ _ _ c.self.invariant
