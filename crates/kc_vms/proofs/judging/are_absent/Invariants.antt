use Rattle.std.proofs.Common.{◌≡◌, take, All}
use Rattle.kc_model.specs.State.{absent_vcpu}
use Rattle.kc_vms.proofs.judging.are_absent.Given as goal

abbrev pub invariant-loop-vcpu : goal.invariant-loop-vcpu
invariant-loop-vcpu l = All (λ vcpu. vcpu ≡ absent_vcpu) (take l.vcpu-index l.vcpus)
