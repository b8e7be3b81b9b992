use Rattle.std.proofs.Common.{refl}
use Rattle.kc_model.specs.State.{slot_at}
use Rattle.kc_snapshot.specs.Dumping.{slot_dump}
use Rattle.kc_snapshot.proofs.Made.{more}
use Rattle.kc_snapshot.proofs.dumping.slots.Goals as goal

pub loop-vm-preserved : goal.loop-vm-preserved
loop-vm-preserved c = more (λ v. slot_dump (slot_at c.args.core.now.state v)) c.loop-vm.vm c.loop-vm.vm c.loop-vm.slots.items _ _ c.loop-vm.invariant c.in_ok-push.ensures.items c.in_ok-slot.ensures refl
