use Rattle.std.proofs.Common.{◌≡◌, refl, ◌∙◌}
use Rattle.kc_model.specs.State.{no_vcpus}
use Rattle.kc_vms.proofs.Kept.{slot-empty, no_vcpus-filled}
use Rattle.kc_vms.proofs.vm.Vm.reset.Goals as goal
use Rattle.kc_vms.proofs.vm.Vm.reset.Goals.{After-clear-2}

filled : (c : After-clear-2) → c.fill.new.self.items ≡ no_vcpus c.self.inside.version
filled c = no_vcpus-filled c.self.inside.version _ c.default.result c.fill.new.self.items (c.self.inside.vcpus.ok.0 ∙ c.self.invariant.vcpu_count) (λ i. record { registered = c.default.ensures.0 i; fault = c.default.ensures.1 i }) (c.fill.ensures.items (λ y same. same))

pub invariant_of-self : goal.invariant_of-self
invariant_of-self c = rw (filled c, c.clear.ensures) (slot-empty c.self.inside.version)

pub returns : goal.returns
returns c = rw (← c.self.view_is, filled c, c.clear.ensures, c.clear-2.ensures, c.empty-self-inside.ensures) refl
