use Rattle.kc_texts.proofs.Bytes.{sent_on}
use Rattle.kc_texts.proofs.lines.write_whole.Goals as goal

pub loop-rest-preserved : goal.loop-rest-preserved
loop-rest-preserved g c =
    let sent = sent_on c.args.bytes.now c.loop-rest.rest.now c.in_ok-n.n _ _ _ c.loop-rest.invariant.sent c.in_ok-n.ensures.bound c.in_ok-n.ensures.bytes in
    record { sent = rw c.split_at.ensures.back sent; whole = c.in_ok-n.ensures.mark }
