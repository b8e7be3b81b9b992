use Rattle.std.proofs.Common.{sym, ◌∙◌}
use Rattle.kc_vms.proofs.Judged.{each-vcpu}
use Rattle.kc_vms.proofs.judging.is_slot.Goals as goal

pub returns-then-not-are_vcpus : goal.returns-then-not-are_vcpus
returns-then-not-are_vcpus c = (λ no. cc, λ is. sym c.if-not-are_vcpus.true ∙ c.are_vcpus.ensures.1 ((each-vcpu c.args.version c.args.phase c.args.vcpus.now).1 is.each_vcpu))
