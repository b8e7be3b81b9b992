use Rattle.std.proofs.Common.{◌≡◌, length, sym, ◌∙◌}
use Rattle.std.proofs.lemmas.Bool.{eqb-true}
use Rattle.kc_types.specs.Limits.{first_image_limit}
use Rattle.kc_state_text.proofs.Gathered.{images-lack, images-many}
use Rattle.kc_state_text.proofs.line_reader.read_images.Goals as goal

pub returns-in_err-image : goal.returns-in_err-image
returns-in_err-image c =
    let inv = c.loop-words.invariant in
    rw c.from_residual.ensures (images-lack c.loop-words.images.items c.args.words.now c.loop-words.words inv.each (c.is_end.ensures.more c.loop-words-test.true) inv.spelled c.in_err-image.ensures)

pub returns-then-is_full : goal.returns-then-is_full
returns-then-is_full c =
    let inv = c.loop-words.invariant in
    let full : length c.loop-words.images.items ≡ first_image_limit = eqb-true _ _ (sym c.is_full.ensures.value ∙ c.if-is_full.true) in
    images-many c.loop-words.images.items c.args.words.now c.loop-words.words inv.each (c.is_end.ensures.more c.loop-words-test.true) full inv.spelled
