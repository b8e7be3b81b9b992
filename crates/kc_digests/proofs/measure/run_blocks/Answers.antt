use Rattle.std.proofs.Common.{◌≡◌, ◌*◌, ◌∙◌, ap, ap₂, arith, refl, sym}
use Rattle.sha2.specs.Sha256.{compress, hash_after}
use Rattle.sha2.proofs.Absorbing256.{hash_after_next}
use Rattle.kc_digests.specs.Lanes.{block, part_of, state_lane}
use Rattle.kc_digests.proofs.measure.run_blocks.Goals as goal

pub part-init : goal.part-init
unfolding hash_after
part-init g c = λ j low. refl

pub compress-requires-clause-room : goal.compress-requires-clause-room
compress-requires-clause-room g c = λ j none low. omega (arith, c.requires.room j none low)

pub part-preserved : goal.part-preserved
part-preserved g c = λ j low.
    let i = c.part.i in
    let part = part_of j c.args.parts.now in
    let at : 64 * i ≡ i * 64 = omega arith in
    c.compress.ensures j low
    ∙ ap₂ compress (c.part.invariant j low) (ap (λ n. block n part) at)
    ∙ sym (hash_after_next (state_lane g.V.Vector.word j c.args.state.now) part i)
