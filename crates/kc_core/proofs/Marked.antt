-- Marking slots, one after another.
use Rattle.std.proofs.Common.{ℕ, ◌≡◌, ◌<◌, ◌≤◌, ◌+◌, ◌∙◌, inl, inr, Bool, false, List, length, get_or, set, sym, ap, arith, get_or-set_same, get_or-set_other}
use Rattle.std.proofs.lemmas.Bool.{cases_eq}
use Rattle.kc_types.specs.Configuration.{Configuration, slot_count}
use Rattle.kc_types.proofs.Ranges as ranges
use Rattle.kc_model.specs.State.{State, Slot, slot_at}
use Rattle.kc_model.specs.Refusals.{is_active}
use Rattle.kc_model.specs.Lawful.{IsLawful}
use Rattle.kc_model.proofs.States.Slots.{slot-past}

-- one more mark
pub marked-more : (marks : List Bool) (vm : ℕ) (mark : Bool) (test : ℕ → Bool) → vm < length marks → ((v : ℕ) → v < vm → get_or marks v false ≡ test v) → mark ≡ test vm → (v : ℕ) → v < vm + 1 → get_or (set marks vm mark) v false ≡ test v
marked-more marks vm mark test room so_far is v low = elim (cases_eq v vm) [
  | inl same ↦ ap (λ x. get_or (set marks vm mark) x false) same ∙ get_or-set_same marks vm mark false room ∙ is ∙ ap test (sym same)
  | inr other ↦ get_or-set_other marks vm v mark false other ∙ so_far v (omega (arith, low, other))
]

pub unmarked-past : (marks : List Bool) (vm : ℕ) (mark : Bool) → ((v : ℕ) → vm ≤ v → get_or marks v false ≡ false) → (v : ℕ) → vm + 1 ≤ v → get_or (set marks vm mark) v false ≡ false
unmarked-past marks vm mark past v high = get_or-set_other marks vm v mark false (λ same. omega (arith, same, high)) ∙ past v (omega (arith, high))

-- a slot that does not exist is not active
pub inactive-past : (m : State) (v : ℕ) → IsLawful m → slot_count m.config ≤ v → is_active (slot_at m v).phase ≡ false
inactive-past m v is past = ap (λ (s : Slot). is_active s.phase) (slot-past m v is.slots past)

-- there are at most 1,024 slots
pub few-slots : (c : Configuration) → slot_count c ≤ 1024
unfolding slot_count
few-slots c = ranges.few-slots c.version
