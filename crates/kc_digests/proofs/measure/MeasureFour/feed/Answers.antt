use Rattle.std.proofs.Common.{◌≡◌, ℕ, ◌/◌, ◌∙◌, length, sym, ap, refl, arith, slice_index}
use Rattle.sha2.specs.Sha256.{hash_after}
use Rattle.kc_digests.specs.Lanes.{of_four, state_lane}
use Rattle.kc_digests.proofs.Feeding.{fed-more, of_four-each}
use Rattle.kc_digests.proofs.measure.MeasureFour.feed.Goals as goal

pub returns : goal.returns
returns c = λ j low fed was.
    let first = c.args.first.now in
    let part = of_four first c.args.second.now c.args.third.now c.args.fourth.now j in
    let same : length part ≡ length first =
    of_four-each (λ part. length part ≡ length first) _ _ _ _ refl c.requires.second c.requires.third c.requires.fourth j low in
    let whole = c.requires.first in
    fed-more c.args.self.now _ j fed part (omega arith) (omega arith)
    (c.run_blocks.ensures j low ∙ ap (λ (n : ℕ). hash_after (state_lane slice_index j c.args.self.now.state) part (n / 64)) (sym same)) was
