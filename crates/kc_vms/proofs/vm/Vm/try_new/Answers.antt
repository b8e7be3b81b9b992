use Rattle.kc_vms.proofs.Kept.{slot-empty}
use Rattle.kc_vms.proofs.vm.Vm.try_new.Goals as goal

pub invariant_of-result : goal.invariant_of-result
invariant_of-result c = rw (c.in_ok-absent_vcpus.ensures, c.new.ensures) (slot-empty c.args.version)
