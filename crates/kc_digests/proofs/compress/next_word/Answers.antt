use Rattle.std.proofs.Common.{◌≡◌, ◌+◌, ◌%◌, ℕ, length, arith, refl, rules}
use Rattle.kc_digests.proofs.LaneLemmas.{lane-set, slice_index-lane}
use Rattle.kc_digests.proofs.compress.next_word.Goals as goal

pub returns : goal.returns
returns g c =
    let w = c.args.w.now in
    let place : ℕ = c.args.place in
    let word = g.V.Vector.word in
    let long : length w ≡ 16 = search rules in
    let at : place % 16 ≡ place = omega arith in
    record {
      value = λ j low. rw (
        at,
        slice_index-lane word w ((place + 14) % 16) j c.index-w-place.result (omega (arith, long)),
        slice_index-lane word w ((place + 9) % 16) j c.index-w-place-2.result (omega (arith, long)),
        slice_index-lane word w ((place + 1) % 16) j c.index-w-place-3.result (omega (arith, long)),
        slice_index-lane word w place j c.index-w-place-4.result (omega (arith, long)),
        c.add-word.ensures j low,
        c.add.ensures j low,
        c.add-near.ensures j low,
        c.small_sigma1.ensures j low,
        c.small_sigma0.ensures j low,
      ) refl;
      window = λ j low. lane-set word w place _ j;
    }
