use Rattle.std.proofs.Common.{◌∙◌, arith, refl, sym}
use Rattle.std.proofs.lemmas.List.{length-map}
use Rattle.sha2.proofs.Schedule256.{rounds_first}
use Rattle.kc_digests.specs.Lanes.{lane, state_lane}
use Rattle.kc_digests.proofs.LaneLemmas.{slice_index-lane}
use Rattle.kc_digests.proofs.compress.first_step.Goals as goal

pub returns : goal.returns
returns g c = λ j low b h window held.
    let word = g.V.Vector.word in
    let w = c.args.w.now in
    let long = sym (length-map w (λ x. word x j)) ∙ window.0 in
    rounds_first b h (lane word j w) (state_lane word j c.args.v) c.args.t _ _ _ c.requires window held refl
    (sym (slice_index-lane word w c.args.t j c.index-w-t.result (omega (arith, long)))) (c.round.ensures j low)
