use denote.Bor.{Bor}
use Rattle.std.proofs.Common.{◌≡◌, ◌<◌, ◌∙◌, List, ℕ, [], length, ap, ap₂, sym, refl, arith}
use Rattle.std.proofs.lemmas.List.{ext_get_or, get_or-map, length-map, length-set}
use Rattle.sha2.specs.Sha256.{digest_bytes, hash_after, sha256}
use Rattle.kc_digests.specs.Lanes.{part_of, state_lane}
use Rattle.kc_digests.proofs.Feeding.{page-digest}
use Rattle.kc_digests.proofs.LaneLemmas.{part_of-repeated, written-next}
use Rattle.kc_digests.proofs.pages.hash_pages.Goals as goal

pub run_blocks-requires-clause-small : goal.run_blocks-requires-clause-small
run_blocks-requires-clause-small g c = g.met.V.Vector.small

pub run_blocks-requires-2-clause-small : goal.run_blocks-requires-2-clause-small
run_blocks-requires-2-clause-small g c = g.met.V.Vector.small

pub lanes-preserved : goal.lanes-preserved
lanes-preserved g c =
    let state = c.run_blocks-2.new.state in (
      length-set c.lanes.out c.lanes.lane _ ∙ c.lanes.invariant.0,
      written-next (λ j digest. digest ≡ digest_bytes (state_lane g.V.Vector.word j state) 8) c.lanes.out c.lanes.lane _ [] (omega arith) c.lanes.invariant.1 c.lane_digest.ensures,
    )

pub returns : goal.returns
returns g c =
    let pages = c.args.pages.now in
    let none : Bor (List ℕ) = record { ref_ptr = (0, 0); now = [] } in
    let out = length-map pages (λ page. sha256 page.now) in
    let made = c.lanes.invariant.0 in
    let given = c.requires.count in
    let lanes = c.LANES.ensures in
    let end = c.LANES-lane-end.ensures in
    let few = g.met.V.Vector.few in
    ext_get_or [] _ _ (omega (arith, made, given, out)) (λ j lt.
    let low : j < g.V.Vector.LANES = omega (arith, made, lt) in
    let at : j < length pages = omega (arith, given, low) in
    let here = get_or-map (λ page. page.now) pages j none [] at in
    let whole = ap length here ∙ c.requires.whole j none at in
    c.lanes.invariant.1 j (omega (arith, end, low))
    ∙ ap (λ h. digest_bytes h 8) (c.run_blocks-2.ensures j low
    ∙ ap₂ (λ h p. hash_after h p 1)
    (c.run_blocks.ensures j low ∙ ap (λ h. hash_after h (part_of j pages) 64) (c.initial-state.ensures j low))
    (part_of-repeated _ c.LANES.result 8 j (omega (arith, lanes, low)) (omega (arith, lanes, few))))
    ∙ page-digest (part_of j pages) _ whole (c.last_blocks-end.ensures refl)
    ∙ ap sha256 here
    ∙ sym (get_or-map (λ page. sha256 page.now) pages j none [] at))
