use Rattle.kc_picture.proofs.Put.{puts-two}
use Rattle.kc_picture.proofs.foot.put_digests.Goals as goal

pub returns-in-Some : goal.returns-in-Some
returns-in-Some c = rw c.in-Some.is (puts-two c.args.text.now c.put_trace.new.text c.put_start.new.text _ _ c.put_trace.ensures c.put_start.ensures)
