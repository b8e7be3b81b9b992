-- What a virtual processor's calls find in parts.
use Rattle.std.specs.Prelude.{ℕ, ◌≡◌, ◌+◌, ◌≤◌, false, is_none, Option, Some, Result, Ok, Err}
use Rattle.kc_types.specs.Limits.{gfn_limit}
use Rattle.kc_types.specs.declared.refusal.Refusal.{Refusal}
use Rattle.kc_model.specs.State.{State, mapped_at}
use Rattle.kc_model.specs.Refusals.{first_of_these, guest_frame, guest_range, any_from}
use Rattle.kc_core.specs.declared.naming.GuestFrame.{GuestFrame}
use Rattle.kc_core.specs.declared.naming.Mapping.{Mapping}

-- the slot, the virtual processor and the guest frame of these numbers
pub record IsAt (v c g : ℕ) (at : GuestFrame) : Type 0 where
  pub vm : at.vm ≡ v
  pub vcpu : at.vcpu ≡ c
  pub gfn : at.gfn ≡ g

-- the frame that is mapped at a guest frame of these numbers
pub record IsMapping (m : State) (v g : ℕ) (found : Mapping) : Type 0 where
  pub vm : found.vm ≡ v
  pub gfn : found.gfn ≡ g
  pub mapped : mapped_at m v g ≡ Some found.frame

-- the first refusal of a call on a mapped guest frame, whatever its last condition is; or the frame there, and then
-- only the last condition counts
abbrev pub AnswersMapped : State → ℕ → ℕ → ℕ → Result Mapping Refusal → Type 0
AnswersMapped m v c g (Ok found) = IsMapping m v g found × ((last : Option Refusal) → first_of_these (guest_frame m v c g last) ≡ last)
AnswersMapped m v c g (Err refusal) = (last : Option Refusal) → first_of_these (guest_frame m v c g last) ≡ Some refusal

-- the first refusal of a call on the guest frames of a range, or none, and then each of them is mapped and only the
-- last condition counts
abbrev pub AnswersRange : {X : Type 0} → State → ℕ → ℕ → ℕ → ℕ → Result X Refusal → Type 0
AnswersRange m v c g n (Ok found) = (g + n ≤ gfn_limit) × (any_from g n (λ h. is_none (mapped_at m v h)) ≡ false) × ((last : Option Refusal) → first_of_these (guest_range m v c g n last) ≡ last)
AnswersRange m v c g n (Err refusal) = (last : Option Refusal) → first_of_these (guest_range m v c g n last) ≡ Some refusal
