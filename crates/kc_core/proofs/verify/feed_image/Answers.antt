use Rattle.std.proofs.Common.{ℕ, ◌≡◌, ◌≤◌, ◌-◌, ◌*◌, List, ◌++◌, take, min, ap, ◌∙◌, subst, append_assoc, arith}
use Rattle.std.specs.FinMap as map
use Rattle.kc_vms.specs.Measure.{WasFed}
use Rattle.kc_parts.specs.States.{frame_in}
use Rattle.kc_core.specs.Verifying.{bytes_under}
use Rattle.kc_core.proofs.Measuring.{joined, fed-more, whole-more}
use Rattle.kc_core.proofs.verify.feed_image.Goals as goal

pub loop-gfn-preserved : goal.loop-gfn-preserved
loop-gfn-preserved c =
    let bytes : ℕ → List ℕ = bytes_under c.args.parts.now (map.get c.args.table.now.mapped) in
    let base = c.args.image.now.base in
    let g = c.loop-gfn.gfn in
    let from : base ≤ g = c.loop-gfn.invariant.from in
    let left = c.loop-gfn.invariant.left in
    let page : bytes g ≡ c.page_under.result.bytes.now.bytes = ap (λ at. (frame_in at).bytes) c.page_under.ensures in
    let used : c.min-used.result ≡ min (c.args.image.now.len - 4096 * (g - base)) 4096 = c.min-used.ensures ∙ ap (λ n. min n 4096) left in
    record {
      from = omega (arith, from);
      fed = λ first was.
          let before = take c.args.image.now.len (joined bytes base (g - base)) in
          let more = fed-more bytes c.args.image.now.len base g c.page_under.result.bytes.now.bytes c.min-used.result from page c.page.ensures.whole c.loop-gfn.invariant.whole used in
          subst (WasFed c.page.new.self) (append_assoc first before (take c.min-used.result c.page_under.result.bytes.now.bytes) ∙ ap (λ after. first ++ after) more) (c.page.ensures.fed (first ++ before) (c.loop-gfn.invariant.fed first was));
      left = let m = c.min-used.ensures in omega (arith, m, left, from);
      whole = whole-more bytes base g c.page_under.result.bytes.now.bytes from page c.page.ensures.whole c.loop-gfn.invariant.whole;
    }
