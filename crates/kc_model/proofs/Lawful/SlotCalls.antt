-- The calls that set up a slot keep the state lawful.
use Rattle.std.proofs.Common.{ℕ, ◌≡◌, ◌<◌, ◌+◌, true, false, Option, None, Some, [], ◌∷◌, ◌++◌, length, nat_eq, nat_lt, nat_le, refl, arith}
use Rattle.std.proofs.lemmas.Bool.{leb-false, ltb-false, or_parts}
use Rattle.std.specs.List.{list_any}
use Rattle.kc_types.specs.declared.call.Call.TheVariants.{RegisterVm, RegisterVcpu, SetBoot}
use Rattle.kc_types.specs.declared.slot.Phase.TheVariants.{Booting, Active}
use Rattle.kc_model.specs.State.{State, Image, slot_at, vcpu_at, with_vcpu}
use Rattle.kc_model.specs.Refusals.{refusal, pages_of, overlaps, conditions}
use Rattle.kc_model.specs.Effects.{effect, with_fault}
use Rattle.kc_model.specs.Lawful.{IsLawful}
use Rattle.kc_model.proofs.Refusals.Served.{when-none, positive, none-of}
use Rattle.kc_model.proofs.Refusals.Answered.{vm-in, vcpu-in, was-empty, was-booting}
use Rattle.kc_model.proofs.States.Slots.{lawful-registered, lawful-with_vcpu, lawful-with_image, waits-not}
use Rattle.kc_model.proofs.States.Changes.{lawful-with_slot}
use Rattle.kc_types.specs.Configuration.{slot_count, gfns_of, vcpus_of, most_images, most_image_bytes}

pub lawful-register_vm : (m : State) (v : ℕ) → IsLawful m → refusal m (RegisterVm v) ≡ None → IsLawful (effect m (RegisterVm v)).1
lawful-register_vm m v is served =
    let none = none-of (conditions m (RegisterVm v)) served in
    let v_in = vm-in m v (none 0) in
    let empty = was-empty m v _ (none 1) in
    lawful-with_slot m v (record (slot_at m v) { phase = Booting }) is v_in refl refl (lawful-registered m.config (slot_at m v) (is.each_slot v v_in) empty) (λ h. absurd cc)

-- a virtual processor's fault
pub lawful-with_fault : (m : State) (v c : ℕ) (fault : Option ℕ) → IsLawful m → v < slot_count m.config → c < vcpus_of m.config.version → (slot_at m v).phase ≡ Active → (vcpu_at m v c).registered ≡ true → ((g : ℕ) → fault ≡ Some g → g < gfns_of m.config.version) → IsLawful (with_fault m v c fault)
lawful-with_fault m v c fault is v_in c_in active registered ranged =
    lawful-with_slot m v (with_vcpu (slot_at m v) c (record (vcpu_at m v c) { fault = fault })) is v_in refl refl
    (lawful-with_vcpu m.config (slot_at m v) c (record (vcpu_at m v c) { fault = fault }) (is.each_slot v v_in) (λ h. cc) c_in (record { registered = λ g h. registered; active = λ g h. active; gfn = ranged })) (λ h. h)

pub lawful-register_vcpu : (m : State) (v c : ℕ) → IsLawful m → refusal m (RegisterVcpu v c) ≡ None → IsLawful (effect m (RegisterVcpu v c)).1
lawful-register_vcpu m v c is served =
    let none = none-of (conditions m (RegisterVcpu v c)) served in
    let v_in = vm-in m v (none 0) in
    let c_in = vcpu-in m c (none 1) in
    let booting = was-booting m v (none 3) in
    lawful-with_slot m v (with_vcpu (slot_at m v) c (record { registered = true; fault = None })) is v_in refl refl
    (lawful-with_vcpu m.config (slot_at m v) c (record { registered = true; fault = None }) (is.each_slot v v_in) (λ h. cc) c_in (waits-not _ _ (record { registered = true; fault = None }) refl)) (λ h. h)

pub lawful-set_boot : (m : State) (v base len : ℕ) → IsLawful m → refusal m (SetBoot v base len) ≡ None → IsLawful (effect m (SetBoot v base len)).1
lawful-set_boot m v base len is served =
    let none = none-of (conditions m (SetBoot v base len)) served in
    let v_in = vm-in m v (none 0) in
    let placed = or_parts (nat_le (gfns_of m.config.version) base) (nat_lt (gfns_of m.config.version) (base + pages_of len)) (when-none _ _ (none 1)) in
    let sized = or_parts (nat_eq len 0) (nat_lt (most_image_bytes m.config.version) len) (when-none _ _ (none 2)) in
    let booting = was-booting m v (none 4) in
    let few : length (slot_at m v).images < most_images m.config.version = leb-false _ _ (when-none _ _ (none 5)) in
    let apart : list_any (overlaps base len) (slot_at m v).images ≡ false = when-none _ _ (none 6) in
    let new : Image = record { base = base; len = len; pages = 0 } in
    lawful-with_slot m v (record (slot_at m v) { images = (slot_at m v).images ++ new ∷ [] }) is v_in refl refl
    (lawful-with_image m.config (slot_at m v) new (is.each_slot v v_in) booting few (record {
      some = positive len sized.0;
      small = ltb-false _ _ sized.1;
      within = ltb-false _ _ placed.1;
      pages = omega arith;
    }) refl apart) (λ h. h)
