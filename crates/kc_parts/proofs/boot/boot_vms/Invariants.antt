use Rattle.std.proofs.Common.{◌≡◌, replicate, Some}
use Rattle.kc_vms.specs.Vm.{capacity_of, empty_vm}
use Rattle.kc_parts.proofs.boot.boot_vms.Given as goal

abbrev pub invariant-loop : goal.invariant-loop
invariant-loop l = l.vms.items ≡ replicate l.counter (Some (empty_vm (capacity_of l.config)))
