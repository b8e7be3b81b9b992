use Rattle.std.proofs.Common.{◌∙◌, ◌++◌, List, ℕ, take, ap}
use Rattle.sha2.specs.Sha256.{sha256}
use Rattle.kc_digests.proofs.Feeding.{of_four-map, of_four-parts}
use Rattle.kc_digests.proofs.measure.MeasureFour.finish.Goals as goal

pub returns : goal.returns
returns c = λ j low fed was.
    c.end.ensures j low fed was
    ∙ ap (λ (part : List ℕ). sha256 (fed ++ part)) (of_four-map (take c.args.used) _ _ _ _ j low ∙ ap (take c.args.used) (of_four-parts (λ page. page.now) c.args.pages _ j low))
