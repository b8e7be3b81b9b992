use denote.Bor.{Bor}
use Rattle.std.proofs.Common.{◌≡◌, ◌<◌, ◌+◌, ◌-◌, ◌*◌, ◌++◌, ◌∙◌, List, ℕ, [], length, take, get_or, map, refl, ap, sym, subst, rules, arith, length-append}
use Rattle.std.proofs.lemmas.List.{ext_get_or, get_or-map, length-map}
use Rattle.std.specs.FinMap as finite
use Rattle.sha2.specs.Sha256.{sha256}
use Rattle.kc_model.specs.State.{Image}
use Rattle.kc_model.specs.Refusals.{pages_of}
use Rattle.kc_digests.specs.MeasureFour.{LaneWasFed}
use Rattle.kc_core.specs.Verifying.{bytes_under, bytes_of_image}
use Rattle.kc_core.proofs.Measuring.{joined, joined-more, last-fed, page-at}
use Rattle.kc_core.proofs.verify.digests_of_four.Goals as goal

none : Bor (List ℕ)
none = record { ref_ptr = (0, 0); now = [] }

pub loop-number-preserved : goal.loop-number-preserved
loop-number-preserved c =
    let bytes : ℕ → List ℕ = bytes_under c.args.parts.now (finite.get c.args.table.now.mapped) in
    let images = c.args.images.now in
    let n = c.loop-number.number in
    let four = c.requires.four.0 in
    let at = λ (j : ℕ) (image : Image) (low : j < 4).
    page-at (λ page. page.now) c.pages_of_four.result none (λ image. bytes (image.base + n)) images image j c.pages_of_four.ensures.value c.pages_of_four.ensures.whole (omega (arith, four, low)) in
    record {
      fed = λ j image low.
          let base = (get_or images j image).base in
          subst (λ (fed : List ℕ). LaneWasFed c.pages.new.self j fed) (ap (λ (page : List ℕ). joined bytes base n ++ page) (at j image low).0 ∙ sym (joined-more bytes base n))
          (c.pages.ensures j low _ (c.loop-number.invariant.fed j image low));
      whole = λ j image low.
          let base = (get_or images j image).base in
          let before = c.loop-number.invariant.whole j image low in
          let page = (at j image low).1 in
          ap length (joined-more bytes base n) ∙ length-append (joined bytes base n) (bytes (base + n)) ∙ omega (arith, before, page);
    }

pub returns : goal.returns
returns c =
    let bytes : ℕ → List ℕ = bytes_under c.args.parts.now (finite.get c.args.table.now.mapped) in
    let images = c.args.images.now in
    let n = c.loop-number.number in
    let digest = λ (image : Image). sha256 (bytes_of_image c.args.parts.now (finite.get c.args.table.now.mapped) image) in
    let four = c.requires.four.0 in
    let out : length c.finish.result ≡ 4 = search rules in
    let all = length-map images digest in
    let first : Image = record { base = 0; len = 0; pages = 0 } in
    ext_get_or [] _ _ (omega (arith, out, four, all)) (λ j lt.
    let low : j < 4 = omega (arith, out, lt) in
    let here : j < length images = omega (arith, four, low) in
    let image = get_or images j first in
    let length_of = get_or images 0 first in
    let number : n ≡ c.pages_of-last.result - 1 = omega (arith, c.loop-number-test.false, c.loop-number.auto.number-end) in
    let pages = c.pages_of-last.ensures in
    let same : image.len ≡ length_of.len = c.requires.four.1 j first here ∙ sym (c.requires.four.1 0 first (omega (arith, four))) in
    let ended : n ≡ pages_of image.len - 1 = number ∙ ap (λ k. k - 1) pages ∙ ap (λ len. pages_of len - 1) (sym same) in
    let used = length_of.len - (c.pages_of-last.result - 1) * 4096 in
    let part : used ≡ image.len - n * 4096 = rw (number, same) refl in
    let last = page-at (λ page. page.now) c.pages_of_four-2.result none (λ image. bytes (image.base + n)) images first j
    (c.pages_of_four-2.ensures.value ∙ ap (λ k. map (λ image. bytes (image.base + k)) images) (sym number)) c.pages_of_four-2.ensures.whole here in
    c.finish.ensures j low _ (c.loop-number.invariant.fed j first low)
    ∙ ap (λ (page : List ℕ). sha256 (joined bytes image.base n ++ take used page)) last.0
    ∙ ap sha256 (last-fed bytes image.base image.len n used (c.requires.measurable j first here).some ended part (c.loop-number.invariant.whole j first low) last.1)
    ∙ sym (get_or-map digest images j first [] here))
