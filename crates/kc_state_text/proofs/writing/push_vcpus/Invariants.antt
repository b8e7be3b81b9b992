use Rattle.std.proofs.Common.{◌≡◌, ◌++◌, take}
use Rattle.std.specs.List.{flat_map}
use Rattle.kc_model.specs.State.{Vcpu, slot_at}
use Rattle.kc_dump_text.specs.DumpText.{spaced}
use Rattle.kc_state_text.specs.StateText.{vcpu_words}
use Rattle.kc_state_text.proofs.writing.push_vcpus.Given as goal

abbrev pub invariant-loop-number : goal.invariant-loop-number
invariant-loop-number l = l.text.items ≡ l.initial.text.items ++ flat_map (λ (vcpu : Vcpu). spaced (vcpu_words vcpu)) (take l.number (slot_at l.core.state l.vm).vcpus)
