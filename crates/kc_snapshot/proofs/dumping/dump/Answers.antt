use Rattle.kc_snapshot.proofs.Made.{digests-made}
use Rattle.kc_snapshot.proofs.dumping.dump.Goals as goal

pub dump_with-requires : goal.dump_with-requires
dump_with-requires g c = digests-made c.args.core.now.state c.in_ok-all.all.items _ c.in_ok-all.ensures (rw c.as_slice.ensures.value at c.in_ok-frame_digests.ensures)
