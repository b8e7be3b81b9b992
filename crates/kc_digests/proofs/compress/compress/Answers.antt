use Rattle.std.proofs.Common.{refl, ap}
use Rattle.sha2.specs.Sha256.{add_state, compress, rounds}
use Rattle.sha2.proofs.Schedule256.{IsWindow_first}
use Rattle.kc_digests.specs.Lanes.{block, lane, part_of, state_lane}
use Rattle.kc_digests.proofs.compress.compress.Goals as goal

pub returns : goal.returns
unfolding compress rounds
returns g c = λ j low.
    let b = block c.args.at (part_of j c.args.parts.now) in
    let h = state_lane g.V.Vector.word j c.args.state.now in
    let words = c.load-w.ensures j low in
    let window = IsWindow_first b (lane g.V.Vector.word j c.load-w.result) words.0 words.1 in
    let s1 = c.first_four_steps-v.ensures j low b h window refl in
    let s2 = c.first_four_steps-v-2.ensures j low b h window s1 in
    let s3 = c.first_four_steps-v-3.ensures j low b h window s2 in
    let first = c.first_four_steps-v-4.ensures j low b h window s3 in
    let t1 = c.sixteen_steps-v.ensures j low b h (window, first) in
    let t2 = c.sixteen_steps-v-2.ensures j low b h t1 in
    let t3 = c.sixteen_steps-v-3.ensures j low b h t2 in
    rw (
      c.add.ensures j low,
      c.add-2.ensures j low,
      c.add-3.ensures j low,
      c.add-4.ensures j low,
      c.add-5.ensures j low,
      c.add-6.ensures j low,
      c.add-7.ensures j low,
      c.add-8.ensures j low,
    )
    (ap (add_state h) t3.1)
