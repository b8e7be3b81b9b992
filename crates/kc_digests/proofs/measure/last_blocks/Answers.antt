use Rattle.std.proofs.Common.{◌∙◌, sym}
use Rattle.kc_digests.proofs.Feeding.{last-blocks}
use Rattle.kc_digests.proofs.measure.last_blocks.Goals as goal

pub returns : goal.returns
returns c =
    last-blocks c.args.tail.now c.copy_from_slice.new.self c.copy_from_slice-2.new.self c.args.len c.end_len-end.result _ _
    c.copy_from_slice.ensures.after (c.copy_from_slice-2.ensures.after ∙ c.to_be_bytes.ensures) c.end_len-end.ensures (sym c.end_len-end.ensures)
