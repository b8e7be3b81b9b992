use Rattle.std.proofs.Common.{refl, sym}
use Rattle.kc_parts.specs.Linking.{links_within}
use Rattle.kc_parts.proofs.Linked.{links-set, rest-set, held-here}
use Rattle.kc_parts.proofs.links.PartsLinkStore.set_link.Goals as goal

pub returns-in-Some-clause-links : goal.returns-in-Some-clause-links
returns-in-Some-clause-links c = links-set c.args.self.now c.args.frame c.in-Some.page.now _ c.args.link (links_within c.args.self.now c.args.frame c.requires) (sym c.in-Some.ensures.value) (rw (c.of-page.ensures, c.of-page-in-Some.ensures) refl)

pub returns-in-Some-clause-rest : goal.returns-in-Some-clause-rest
returns-in-Some-clause-rest c = rest-set c.args.self.now c.args.frame c.in-Some.page.now _ (sym c.in-Some.ensures.value) refl refl

pub returns-in_default-clause-links : goal.returns-in_default-clause-links
returns-in_default-clause-links c = absurd (held-here c.args.self.now c.args.frame c.requires (sym c.in_default.ensures.value))
