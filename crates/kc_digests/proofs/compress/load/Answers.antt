use Rattle.std.proofs.Common.{◌≡◌, ◌*◌, ◌∙◌, ap, sym, arith, slice_index}
use Rattle.std.proofs.lemmas.List.{length-map, length-set}
use Rattle.sha2.specs.Sha256.{word_at}
use Rattle.kc_digests.specs.Lanes.{block, lane, part_of}
use Rattle.kc_digests.proofs.LaneLemmas.{lane-set, word_at-block, written-next}
use Rattle.kc_digests.proofs.compress.load.Goals as goal

pub load-requires-clause-room : goal.load-requires-clause-room
load-requires-clause-room g c = λ j none low. omega (arith, c.requires.room j none low)

pub words-preserved : goal.words-preserved
words-preserved g c =
    let w = c.words.w in
    let i = c.words.i in
    let word = g.V.Vector.word in (
      length-set w i _ ∙ c.words.invariant.0,
      λ k lt j low.
          let bytes = part_of j c.args.parts.now in
          ap (λ lane. slice_index lane k) (lane-set word w i _ j)
          ∙ written-next (λ k number. number ≡ word_at (block c.args.at bytes) (4 * k)) (lane word j w) i _ 0 (omega (arith, length-map w (λ x. word x j)))
          (λ k before. c.words.invariant.1 k before j low)
          (c.load.ensures j low ∙ sym (word_at-block bytes c.args.at (4 * i) (omega arith))) k lt,
    )

pub returns : goal.returns
returns g c = λ j low. (length-map c.words.w _ ∙ c.words.invariant.0, λ k lt. c.words.invariant.1 k (omega arith) j low)
