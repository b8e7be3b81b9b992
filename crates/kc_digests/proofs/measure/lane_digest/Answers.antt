use Rattle.std.proofs.Common.{rules, ◌≡◌, ℕ, List, arith, ap, ◌∙◌, refl, slice_index, sym, w32, [], ◌∷◌}
use Rattle.std.specs.Int.{to_be_bytes}
use Rattle.std.proofs.lemmas.List.{take_all}
use Rattle.std.proofs.lemmas.Slice.{overwrites}
use Rattle.sha2.specs.Sha256.{digest_bytes}
use Rattle.sha2.proofs.Absorbing256.{digest_more}
use Rattle.kc_digests.specs.Lanes.{state_lane}
use Rattle.kc_digests.proofs.measure.lane_digest.Goals as goal

pub words-init : goal.words-init
unfolding digest_bytes
words-init g c = (refl, refl)

pub words-preserved : goal.words-preserved
words-preserved g c =
    let h : List ℕ = state_lane g.V.Vector.word c.args.lane c.args.state.now in
    let words : List ℕ = c.lane.result ∷ c.lane-2.result ∷ c.lane-3.result ∷ c.lane-4.result ∷ c.lane-5.result ∷ c.lane-6.result ∷ c.lane-7.result ∷ c.lane-8.result ∷ [] in
    let same : words ≡ h = rw (c.lane.ensures, c.lane-2.ensures, c.lane-3.ensures, c.lane-4.ensures, c.lane-5.ensures, c.lane-6.ensures, c.lane-7.ensures, c.lane-8.ensures) refl in (
      search (rules, overwrites),
      digest_more c.words.out h _ c.words.i _ c.words.invariant.1 (omega arith)
          (c.copy_from_slice.ensures.after ∙ c.to_be_bytes.ensures ∙ ap (λ xs. to_be_bytes w32 (slice_index xs c.words.i)) same),
    )

pub returns : goal.returns
returns g c =
    let done : c.words.i ≡ 8 = omega arith in
    sym (take_all 32 c.words.out (omega arith)) ∙ rw done at c.words.invariant.1
