use Rattle.std.proofs.Common.{take, All}
use Rattle.kc_model.specs.Lawful.{IsLawfulVcpu}
use Rattle.kc_vms.proofs.judging.are_vcpus.Given as goal

abbrev pub invariant-loop-vcpu : goal.invariant-loop-vcpu
invariant-loop-vcpu l = All (IsLawfulVcpu l.version l.phase) (take l.vcpu-index l.vcpus)
