use Rattle.std.proofs.Common.{◌≡◌, length, get_or, drop, vec_len, ap, sym, ◌∙◌, arith}
use Rattle.kc_picture.specs.Columns.{columns_of}
use Rattle.kc_picture.proofs.Heights.{height, height-is}
use Rattle.kc_picture.proofs.outlines.heights_of.Goals as goal

pub returns : goal.returns
returns c =
    let which = c.args.which in
    let lines = c.args.scale.last in
    let steps = c.args.steps.now in
    let heights = c.loop-i.heights in
    let first : c.loop-i.i ≡ 0 = omega arith in
    let len : vec_len heights ≡ length heights.items = omega (arith, heights.ok.0) in
    let long : length heights.items ≡ columns_of lines = sym len ∙ c.loop-i.invariant.0 in (
      long,
      λ i low.
          let at = c.loop-i.invariant.2 i (omega (arith, len, low)) in
          let all = ap (λ k. height which lines (vec_len heights) i (drop k steps)) first in
          let is : get_or heights.items i 0 ≡ height which lines (length heights.items) i steps = rw (← len) (at ∙ all) in
          height-is which lines (length heights.items) i (get_or heights.items i 0) steps c.args.scale.some (omega (arith, low)) is,
    )
