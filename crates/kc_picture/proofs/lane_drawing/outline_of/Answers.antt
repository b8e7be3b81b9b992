use Rattle.std.proofs.Common.{◌≡◌, ◌++◌, length, drop, string_bytes, ap, sym, ◌∙◌, arith}
use Rattle.kc_picture.specs.OutlineWords.{edge_words, outline_words}
use Rattle.kc_picture.proofs.OutlineWords.{last-edge}
use Rattle.kc_picture.proofs.lane_drawing.outline_of.Goals as goal

pub returns-then-before-gt0 : goal.returns-then-before-gt0
returns-then-before-gt0 c = λ ok.
    let place = c.args.place.now in
    let heights = c.args.heights.now in
    let path = c.loop-column.path in
    let before = c.loop-column.before in
    let column = c.loop-column.column in
    let end : length heights ≡ column = omega (arith, c.loop-column-test.false, c.loop-column.auto.column-end) in
    let put = c.put_edge-then-before-gt0.ensures ok in
    let edge : outline_words place before column (drop column heights) ≡ edge_words place before 0 (length heights) = rw end (last-edge place before column heights end c.if-before-gt0.true) in
    put.1 ∙ ap (λ t. string_bytes path.text ++ t) (sym edge) ∙ c.loop-column.invariant put.0
