use Rattle.std.proofs.Common.{◌∙◌, map, ap}
use Rattle.std.proofs.lemmas.List.{take_all}
use Rattle.kc_digests.specs.Digests.{digest_of_bytes}
use Rattle.kc_snapshot.proofs.Made.{digest-more}
use Rattle.kc_snapshot.proofs.digesting.bytes_digests_alone.Goals as goal

pub loop-page-preserved : goal.loop-page-preserved
loop-page-preserved c =
    digest-more c.args.pages.now c.loop-page.page-index c.page-item.result c.loop-page.digests.items _ c.page_digest.result c.loop-page.invariant c.in_ok-push.ensures.items c.page_digest.ensures c.loop-page-test.true c.page-item.is

pub returns : goal.returns
returns c = c.loop-page.invariant ∙ ap (map digest_of_bytes) (take_all c.loop-page.page-index c.args.pages.now c.loop-page-test.false)
