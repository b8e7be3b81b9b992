-- The calls that change only a slot.
use Rattle.std.proofs.Common.{ℕ, ◌≡◌, ◌<◌, ◌≤◌, ◌+◌, ◌++◌, ◌∷◌, [], ◌⊎◌, inl, inr, true, ◌||◌, ◌==◌, nat_lt, nat_le, None, Some, Option, List, length, refl, ap, ◌∙◌, arith}
use Rattle.std.proofs.lemmas.Grind.{common_steps}
use Rattle.kc_types.specs.Configuration.{Configuration, slot_count, vcpus_of, gfns_of, most_images, most_image_bytes}
use Rattle.kc_types.specs.declared.version.Version.{Version}
use Rattle.kc_types.specs.declared.call.Call.TheVariants.{RegisterVm, RegisterVcpu, SetBoot}
use Rattle.kc_types.specs.declared.refusal.Refusal.{Refusal}
use Rattle.kc_types.specs.declared.refusal.Refusal.TheVariants.{BadVm, BadVcpu, BadGfn, BadRange}
use Rattle.kc_model.specs.State.{State, Slot, slot_at, with_slot}
use Rattle.kc_model.specs.State as state
use Rattle.kc_model.specs.Refusals.{refusal, bad_vm, bad_vcpu, pages_of, when, or_else}
use Rattle.kc_types.specs.declared.reply.Reply.TheVariants as reply
use Rattle.kc_types.specs.declared.slot.Phase.TheVariants.{Booting}
use Rattle.kc_model.specs.Linked.{LinkedSlot}
use Rattle.kc_vms.specs.Refusals.{register_refusal, add_vcpu_refusal, add_image_refusal}
use Rattle.kc_vms.specs.Vm.{VmSlot}
use Rattle.kc_model.specs.Slot.{in_phase, with_vcpu, with_image}
use Rattle.kc_parts.specs.Parts.{Held, vm_at, with_vm}
use Rattle.kc_parts.specs.States.{state_of, unlinked_slot, IsLinked}
use Rattle.kc_core.specs.Applying.{IsAnswer}
use Rattle.kc_parts.proofs.Looked.{slot-is}
use Rattle.kc_core.proofs.Answered.{answer-slot}

pub vm-fits : (m : State) (v : ℕ) → v < slot_count m.config → bad_vm m v ≡ None
vm-fits m v low = grind (arith, common_steps, low)

pub vm-past : (m : State) (v : ℕ) → slot_count m.config ≤ v → bad_vm m v ≡ Some BadVm
vm-past m v past = grind (arith, common_steps, past)

pub vcpu-fits : (m : State) (c : ℕ) → c < vcpus_of m.config.version → bad_vcpu m c ≡ None
vcpu-fits m c low = grind (arith, common_steps, low)

pub vcpu-past : (m : State) (c : ℕ) → vcpus_of m.config.version ≤ c → bad_vcpu m c ≡ Some BadVcpu
vcpu-past m c past = grind (arith, common_steps, past)

pub refusal-register_vm : (m : State) (v : ℕ) (slot : LinkedSlot) (frames : List ℕ) → v < slot_count m.config → slot_at m v ≡ unlinked_slot slot frames → refusal m (RegisterVm v) ≡ register_refusal slot
refusal-register_vm m v slot frames low is = rw (vm-fits m v low, is) (or_else-last (register_refusal slot))
  where
    or_else-last : (why : Option Refusal) → or_else why None ≡ why
    or_else-last None = refl
    or_else-last (Some why) = refl

pub refusal-register_vcpu : (m : State) (v c : ℕ) (slot : LinkedSlot) (frames : List ℕ) → v < slot_count m.config → c < vcpus_of m.config.version → slot_at m v ≡ unlinked_slot slot frames → refusal m (RegisterVcpu v c) ≡ add_vcpu_refusal slot c
refusal-register_vcpu m v c slot frames low vcpu_low is = rw (vm-fits m v low, vcpu-fits m c vcpu_low, is) refl

gfn-fits : (version : Version) (base len : ℕ) → base < gfns_of version → base + pages_of len ≤ gfns_of version → when (nat_le (gfns_of version) base || nat_lt (gfns_of version) (base + pages_of len)) BadGfn ≡ None
gfn-fits version base len base_low within = grind (arith, common_steps, base_low, within)

-- an image within the guest frames, of a length that a boot image may have
pub record IsFitting (version : Version) (base len : ℕ) : Type 0 where
  pub base_low : base < gfns_of version
  pub within : base + pages_of len ≤ gfns_of version
  pub some : 0 < len
  pub small : len ≤ most_image_bytes version

pub refusal-set_boot : (m : State) (v base len : ℕ) (slot : LinkedSlot) (frames : List ℕ) → v < slot_count m.config → IsFitting m.config.version base len → slot_at m v ≡ unlinked_slot slot frames
    → refusal m (SetBoot v base len) ≡ add_image_refusal (most_images m.config.version) slot base len
refusal-set_boot m v base len slot frames low fits is = rw (vm-fits m v low, gfn-fits m.config.version base len fits.base_low fits.within, range-fits, is) refl
  where
    range-fits : when ((len == 0) || nat_lt (most_image_bytes m.config.version) len) BadRange ≡ None
    range-fits = let some = fits.some in let small = fits.small in grind (arith, common_steps, some, small)

-- the slot registers
pub answer-register_vm : (config : Configuration) (h : Held) (v : ℕ) (vm new : VmSlot) → IsLinked config h → v < slot_count config → vm_at h v ≡ Some vm → register_refusal vm.slot ≡ None
    → new ≡ record vm { slot = in_phase vm.slot Booting } → IsAnswer config h (with_vm h v new) (RegisterVm v) reply.Done
answer-register_vm config h v vm new linked low at served is =
    let m = state_of config h in
    let there = slot-is config h v vm low at in
    rw is (answer-slot config h v vm (record vm { slot = in_phase vm.slot Booting }) (RegisterVm v) reply.Done linked at refl refl
    (refusal-register_vm m v vm.slot _ low there ∙ served)
    (ap (λ (slot : Slot). (reply.Done, with_slot m v (record slot { phase = Booting }))) there))

-- the slot gets a virtual processor
pub answer-register_vcpu : (config : Configuration) (h : Held) (v c : ℕ) (vm new : VmSlot) → IsLinked config h → v < slot_count config → c < vcpus_of config.version → vm_at h v ≡ Some vm → add_vcpu_refusal vm.slot c ≡ None
    → new ≡ record vm { slot = with_vcpu vm.slot c (record { registered = true; fault = None }) } → IsAnswer config h (with_vm h v new) (RegisterVcpu v c) reply.Done
answer-register_vcpu config h v c vm new linked low vcpu_low at served is =
    let m = state_of config h in
    let there = slot-is config h v vm low at in
    rw is (answer-slot config h v vm (record vm { slot = with_vcpu vm.slot c (record { registered = true; fault = None }) }) (RegisterVcpu v c) reply.Done linked at refl refl
    (refusal-register_vcpu m v c vm.slot _ low vcpu_low there ∙ served)
    (ap (λ (slot : Slot). (reply.Done, with_slot m v (state.with_vcpu slot c (record { registered = true; fault = None })))) there))

-- the slot gets an image
pub answer-set_boot : (config : Configuration) (h : Held) (v base len number : ℕ) (vm new : VmSlot) → IsLinked config h → v < slot_count config → IsFitting config.version base len
    → vm_at h v ≡ Some vm → add_image_refusal (most_images config.version) vm.slot base len ≡ None → number ≡ length vm.slot.images → new ≡ record vm { slot = with_image vm.slot base len } → IsAnswer config h (with_vm h v new) (SetBoot v base len) (reply.Image number)
answer-set_boot config h v base len number vm new linked low fits at served count is =
    let m = state_of config h in
    let there = slot-is config h v vm low at in
    rw (is, count) (answer-slot config h v vm (record vm { slot = with_image vm.slot base len }) (SetBoot v base len) (reply.Image (length vm.slot.images)) linked at refl refl
    (refusal-set_boot m v base len vm.slot _ low fits there ∙ served)
    (ap (λ (slot : Slot). (reply.Image (length slot.images), with_slot m v (record slot { images = slot.images ++ record { base = base; len = len; pages = 0 } ∷ [] }))) there))

-- an image that is refused before its slot is looked up
pub refusal-bad_gfn : (m : State) (v base len : ℕ) → v < slot_count m.config → (gfns_of m.config.version ≤ base) ⊎ (gfns_of m.config.version < base + pages_of len) → refusal m (SetBoot v base len) ≡ Some BadGfn
refusal-bad_gfn m v base len low past = rw (vm-fits m v low, bad) refl
  where
    bad : when (nat_le (gfns_of m.config.version) base || nat_lt (gfns_of m.config.version) (base + pages_of len)) BadGfn ≡ Some BadGfn
    bad = elim past [ inl high ↦ grind (arith, common_steps, high) | inr long ↦ grind (arith, common_steps, long) ]

pub refusal-bad_range : (m : State) (v base len : ℕ) → v < slot_count m.config → base < gfns_of m.config.version → base + pages_of len ≤ gfns_of m.config.version → (len ≡ 0) ⊎ (most_image_bytes m.config.version < len) → refusal m (SetBoot v base len) ≡ Some BadRange
refusal-bad_range m v base len low base_low within past = rw (vm-fits m v low, gfn-fits m.config.version base len base_low within, bad) refl
  where
    bad : when ((len == 0) || nat_lt (most_image_bytes m.config.version) len) BadRange ≡ Some BadRange
    bad = elim past [ inl none ↦ rw none refl | inr long ↦ grind (arith, common_steps, long) ]
