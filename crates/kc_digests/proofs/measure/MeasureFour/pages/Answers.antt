use Rattle.std.proofs.Common.{◌++◌, List, ℕ, subst}
use Rattle.kc_digests.specs.MeasureFour.{LaneWasFed}
use Rattle.kc_digests.proofs.Feeding.{of_four-parts}
use Rattle.kc_digests.proofs.measure.MeasureFour.pages.Goals as goal

pub returns : goal.returns
returns c = λ j low fed was.
    subst (λ (page : List ℕ). LaneWasFed c.feed.new.self j (fed ++ page)) (of_four-parts (λ page. page.now) c.args.pages _ j low) (c.feed.ensures j low fed was)
