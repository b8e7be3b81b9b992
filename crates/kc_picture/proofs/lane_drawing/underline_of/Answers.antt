use Rattle.std.proofs.Common.{◌≡◌, ◌++◌, length, drop, string_bytes, ap, sym, ◌∙◌, arith}
use Rattle.kc_picture.specs.OutlineWords.{approach_words, underline_words}
use Rattle.kc_picture.proofs.OutlineWords.{last-approach}
use Rattle.kc_picture.proofs.lane_drawing.underline_of.Goals as goal

pub returns-then-before-gt0 : goal.returns-then-before-gt0
returns-then-before-gt0 c = λ ok.
    let last = c.args.scale.last in
    let y = c.args.y in
    let heights = c.args.heights.now in
    let path = c.loop-column.path in
    let before = c.loop-column.before in
    let column = c.loop-column.column in
    let end : length heights ≡ column = omega (arith, c.loop-column-test.false, c.loop-column.auto.column-end) in
    let put = c.put_approach-then-before-gt0.ensures ok in
    let goes : underline_words last y before column (drop column heights) ≡ approach_words last y before (length heights) = rw end (last-approach last y before column heights end c.if-before-gt0.true) in
    put.1 ∙ ap (λ t. string_bytes path.text ++ t) (sym goes) ∙ c.loop-column.invariant put.0
