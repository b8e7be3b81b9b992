use Rattle.std.proofs.Common.{take, All}
use Rattle.kc_snapshot.proofs.Mapped.{MapsPages}
use Rattle.kc_snapshot.proofs.slots.are_mapped.Given as goal

abbrev pub invariant-loop-image : goal.invariant-loop-image
invariant-loop-image l = All (MapsPages l.entries) (take l.image-index l.images)
