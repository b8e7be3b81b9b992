use Rattle.std.proofs.Common.{refl}
use Rattle.std.proofs.lemmas.List.{take_all}
use Rattle.std.proofs.lemmas.List.Elements.{All-more}
use Rattle.kc_model.specs.State.{absent_vcpu}
use Rattle.kc_model.specs.Lawful.{IsLawfulVcpu}
use Rattle.kc_vms.proofs.judging.are_vcpus.Goals as goal

pub loop-vcpu-preserved : goal.loop-vcpu-preserved
loop-vcpu-preserved c = All-more (IsLawfulVcpu c.args.version c.args.phase) c.args.vcpus.now c.loop-vcpu.vcpu-index absent_vcpu c.loop-vcpu-test.true c.loop-vcpu.invariant (c.is_vcpu.ensures.0 c.if-not-is_vcpu.false)

pub returns : goal.returns
returns c = (λ yes. rw (take_all c.loop-vcpu.vcpu-index c.args.vcpus.now c.loop-vcpu-test.false) at c.loop-vcpu.invariant, λ all. refl)
