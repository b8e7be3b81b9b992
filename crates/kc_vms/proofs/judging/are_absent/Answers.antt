use Rattle.std.proofs.Common.{◌≡◌, List, get_or, refl, sym, ap, ◌∙◌}
use Rattle.std.proofs.lemmas.List.{take_all}
use Rattle.std.proofs.lemmas.List.Elements.{All-more}
use Rattle.kc_model.specs.State.{Vcpu, absent_vcpu}
use Rattle.kc_model.proofs.States.Slots.{at-no_vcpus}
use Rattle.kc_vms.proofs.Judged.{all-absent}
use Rattle.kc_vms.proofs.judging.are_absent.Goals as goal

pub returns-then-not-is_absent : goal.returns-then-not-is_absent
returns-then-not-is_absent c = (
  λ no. cc,
  λ same.
      let absent = ap (λ (vcpus : List Vcpu). get_or vcpus c.loop-vcpu.vcpu-index absent_vcpu) same ∙ at-no_vcpus c.args.version c.loop-vcpu.vcpu-index in
      sym c.if-not-is_absent.true ∙ c.is_absent.ensures.1 absent,
)

pub loop-vcpu-preserved : goal.loop-vcpu-preserved
loop-vcpu-preserved c =
    All-more (λ (vcpu : Vcpu). vcpu ≡ absent_vcpu) c.args.vcpus.now c.loop-vcpu.vcpu-index absent_vcpu c.loop-vcpu-test.true c.loop-vcpu.invariant (c.is_absent.ensures.0 c.if-not-is_absent.false)

pub returns : goal.returns
returns c = (λ yes. all-absent c.args.version c.args.vcpus.now c.requires (rw (take_all c.loop-vcpu.vcpu-index c.args.vcpus.now c.loop-vcpu-test.false) at c.loop-vcpu.invariant), λ all. refl)
