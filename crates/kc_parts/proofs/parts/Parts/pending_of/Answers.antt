use Rattle.std.proofs.Common.{ap}
use Rattle.kc_model.specs.State.{Vcpu, slot_at}
use Rattle.kc_parts.specs.States.{state_of}
use Rattle.kc_parts.proofs.Looked.{vcpu-none}
use Rattle.kc_parts.proofs.parts.Parts.pending_of.Goals as goal

pub returns-in-None-clause-value : goal.returns-in-None-clause-value
returns-in-None-clause-value c = ap (λ (vcpu : Vcpu). vcpu.fault) (vcpu-none (slot_at (state_of c.args.config.now c.args.self.now) c.args.vm) c.args.vcpu c.in-None.ensures.value)
