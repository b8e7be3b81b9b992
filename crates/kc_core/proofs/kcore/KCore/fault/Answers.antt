use Rattle.std.proofs.Common.{sym, ◌∙◌}
use Rattle.kc_core.proofs.SlotsShown.{past_none, no_fault-past_slots, no_fault-past_vcpus}
use Rattle.kc_core.proofs.kcore.KCore.fault.Goals as goal

pub returns-in_err-slot-clause-value : goal.returns-in_err-slot-clause-value
returns-in_err-slot-clause-value c = c.from_residual.ensures ∙ sym (no_fault-past_slots c.args.self.now.state c.try_slot.ensures.lawful c.args.vm c.args.vcpu (past_none c.args.vm _ c.in_err-slot.ensures.exists.1))

pub returns-in_err-vcpu-clause-value : goal.returns-in_err-vcpu-clause-value
returns-in_err-vcpu-clause-value c = c.from_residual-in_err-vcpu.ensures ∙ sym (no_fault-past_vcpus c.args.self.now.state c.try_slot.ensures.lawful c.args.vm c.args.vcpu (rw (← c.self.view_is) (past_none c.args.vcpu _ c.in_err-vcpu.ensures.valid.1)))
