use Rattle.std.proofs.Common.{◌≡◌, ℕ, ◌+◌, ◌-◌, ◌*◌, ◌/◌, ◌%◌, ◌^◌, ◌∙◌, ◌++◌, List, length, take, drop, subst, refl, arith, length-append, slice_index}
use Rattle.std.proofs.lemmas.List.{length-take-le}
use Rattle.sha2.specs.Sha256.{digest_bytes, padding}
use Rattle.kc_digests.specs.Lanes.{of_four, state_lane}
use Rattle.kc_digests.specs.MeasureFour.{LaneWasFed}
use Rattle.kc_digests.proofs.LaneLemmas.{below_four}
use Rattle.kc_digests.proofs.Feeding.{digest-ended, ended-part, of_four-each, of_four-map}
use Rattle.kc_digests.proofs.measure.MeasureFour.end.Goals as goal

pub returns : goal.returns
returns c = λ j low fed was.
    let first = c.args.first.now in
    let second = c.args.second.now in
    let third = c.args.third.now in
    let fourth = c.args.fourth.now in
    let part : List ℕ = of_four first second third fourth j in
    let whole : ℕ = length first / 64 * 64 in
    let len : ℕ = (c.feed.new.self.len + (length first - whole)) % 2 ^ 64 in
    let same : length part ≡ length first = of_four-each (λ part. length part ≡ length first) _ _ _ _ refl c.requires.second c.requires.third c.requires.fourth j low in
    let begun : LaneWasFed c.feed.new.self j (fed ++ take whole part) =
    subst (λ (p : List ℕ). LaneWasFed c.feed.new.self j (fed ++ p)) (of_four-map (take whole) first second third fourth j low) (c.feed.ensures j low fed was) in
    let counted = begun.count in
    let blocks = begun.whole in
    let both = length-append fed part in
    let before = length-append fed (take whole part) in
    let taken = length-take-le whole part (omega (arith, same)) in
    let short : length first - whole ≡ len % 64 = omega (arith, counted, blocks, before, taken) in
    let is : len ≡ length (fed ++ part) % 2 ^ 64 = omega (arith, counted, both, before, taken, same) in
    let end = c.end_len-end.result in
    let ended : ℕ → List ℕ = of_four (take end c.last_blocks.result) (take end c.last_blocks-2.result) (take end c.last_blocks-3.result) (take end c.last_blocks-4.result) in
    let ends : ended j ≡ drop whole part ++ padding len =
    below_four (λ i. ended i ≡ drop whole (of_four first second third fourth i) ++ padding len)
    (ended-part first _ _ whole end len c.last_blocks.ensures c.end_len-end.ensures short refl)
    (ended-part second _ _ whole end len c.last_blocks-2.ensures c.end_len-end.ensures short c.requires.second)
    (ended-part third _ _ whole end len c.last_blocks-3.ensures c.end_len-end.ensures short c.requires.third)
    (ended-part fourth _ _ whole end len c.last_blocks-4.ensures c.end_len-end.ensures short c.requires.fourth)
    j low in
    let digests : ℕ → List ℕ = of_four c.lane_digest.result c.lane_digest-2.result c.lane_digest-3.result c.lane_digest-4.result in
    below_four (λ i. digests i ≡ digest_bytes (state_lane slice_index i c.feed-2.new.self.state) 8)
    c.lane_digest.ensures c.lane_digest-2.ensures c.lane_digest-3.ensures c.lane_digest-4.ensures j low
    ∙ digest-ended c.feed-2.new.self j fed part (ended j) whole len ends is (c.feed-2.ensures j low _ begun)
