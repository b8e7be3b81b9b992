-- Where a page comes to a VM.
use Rattle.std.specs.Prelude.{ℕ, ◌≡◌, List, Some, None}
use Rattle.kc_types.specs.declared.call.Call.{Call}
use Rattle.kc_types.specs.declared.call.Call.TheVariants.{Remap, Map}
use Rattle.kc_types.specs.declared.reply.Reply.{Reply}
use Rattle.kc_types.specs.declared.slot.Phase.TheVariants.{Booting}
use Rattle.kc_model.specs.State.{State, slot_at, vcpu_at, mapped_at}
use Rattle.kc_model.specs.Refusals.{next_gfn}
use Rattle.kc_model.specs.Safety.{EachStep}

-- the call hands this frame over for this guest frame, for which one of the VM's virtual processors waits; or, while the
-- VM boots, it is that of the next page of one of its images
abbrev pub IsAwaited : State → ℕ → ℕ → ℕ → Call → Type 0
IsAwaited m v g f (Map w c k) = (w ≡ v) × (k ≡ f) × ((vcpu_at m v c).fault ≡ Some g)
IsAwaited m v g f (Remap w i k) = (w ≡ v) × (k ≡ f) × ((slot_at m v).phase ≡ Booting) × (g ≡ next_gfn m v i)
IsAwaited m v g f _ = ⊥

abbrev pub ArrivesAwaited : State → Call → Reply → State → Type 0
ArrivesAwaited old call answer new = (v g f : ℕ) → mapped_at old v g ≡ None → mapped_at new v g ≡ Some f → IsAwaited old v g f call

abbrev pub IsArrived : State → List Call → Type 0
IsArrived m calls = EachStep ArrivesAwaited m calls
