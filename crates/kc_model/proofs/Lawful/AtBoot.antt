-- The state at boot is lawful.
use Rattle.std.proofs.Common.{ℕ, zero, suc, ◌≡◌, ◌<◌, ◌≤◌, ◌+◌, ◌-◌, inl, inr, cond, ◌&&◌, [], length, nat_lt, nat_le, if◌then◌else◌, refl, sym, ap, ◌∙◌, arith}
use Rattle.std.proofs.lemmas.Grind.{common_steps}
use Rattle.std.proofs.lemmas.List.{get_or_past, get_or-replicate, length-replicate}
use Rattle.std.proofs.lemmas.List.FromFn.{get_or-map-range_with_len, length-map-range_with_len}
use Rattle.std.proofs.lemmas.Bool.{cases_lt}
use Rattle.std.specs.List.{range_with_len}
use Rattle.std.specs.Ordering.{nat_cmp}
use Rattle.std.specs.FinMap.{get-empty}
use Rattle.kc_types.specs.Configuration.{Configuration, IsConfiguration, slot_count, boot_owner}
use Rattle.kc_types.specs.declared.owner.Owner.TheVariants.{Core, Free, Vm}
use Rattle.kc_model.specs.State.{Frame, Slot, frame_at, slot_at, untouched, no_slot, empty_slot}
use Rattle.kc_model.specs.Boot.{boot, boot_frame, no_vms}
use Rattle.kc_model.specs.Lawful.{IsLawful, IsLawfulFrame, ListsOnce, same_owner, times_in}
use Rattle.kc_model.proofs.States.ZeroPage.{zero_page-is}
use Rattle.kc_model.proofs.States.Slots.{lawful-empty_slot}

-- a range has each of its numbers once
pub times_in-range : (first count f : ℕ) → times_in (range_with_len first count) f ≡ cond (nat_le first f && nat_lt f (first + count)) 1 0
times_in-range first zero f = grind (arith, common_steps)
times_in-range first (suc count) f = let rest = times_in-range (first + 1) count f in grind (arith, common_steps, rest)

length-no_vms : (c : Configuration) → length (no_vms c) ≡ slot_count c
unfolding no_vms
length-no_vms c = length-replicate (slot_count c) (empty_slot c.version)

pub slot_at-boot : (c : Configuration) (v : ℕ) → v < slot_count c → slot_at (boot c) v ≡ empty_slot c.version
unfolding no_vms
slot_at-boot c v low = get_or-replicate (slot_count c) v (empty_slot c.version) no_slot low

pub slot_past-boot : (c : Configuration) (v : ℕ) → slot_count c ≤ v → slot_at (boot c) v ≡ no_slot
slot_past-boot c v past = get_or_past (no_vms c) v no_slot (rw length-no_vms past)

-- whether there is a slot or not, it is empty
pub slot-boot : {X : Type 0} (read : Slot → X) (c : Configuration) (v : ℕ) → read (empty_slot c.version) ≡ read no_slot → read (slot_at (boot c) v) ≡ read no_slot
slot-boot read c v same = elim (cases_lt v (slot_count c)) [
  | inl low ↦ ap read (slot_at-boot c v low) ∙ same
  | inr past ↦ ap read (slot_past-boot c v past)
]

pub frame_at-boot : (c : Configuration) (f : ℕ) → f < c.frames → frame_at (boot c) f ≡ boot_frame c f
frame_at-boot c f lt = get_or-map-range_with_len (boot_frame c) 0 c.frames f f (untouched Core) lt (omega arith)

pub frame_at-past : (c : Configuration) (f : ℕ) → c.frames ≤ f → frame_at (boot c) f ≡ untouched Core
frame_at-past c f h = get_or_past _ f _ (rw length-map-range_with_len h)

not_vm : (c : Configuration) (f v : ℕ) → boot_owner c f ≡ Vm v → ⊥
not_vm c f v h = grind (arith, common_steps)

lawful_frame-boot : (c : Configuration) → IsConfiguration c → (f : ℕ) → f < c.frames → IsLawfulFrame c f (boot_frame c f)
lawful_frame-boot c is f lt = record {
  core = (λ h. grind (arith, common_steps), λ h. grind (arith, common_steps));
  mapped = grind (arith, common_steps);
  shared = omega arith;
  sharer = λ h. absurd (omega arith);
  reached = λ h. cc;
  zeroed = λ h. refl;
  page = zero_page-is;
  slot = λ v h. absurd (not_vm c f v h);
  gfn = λ g h. cc;
}

not_owned : (c : Configuration) (f v : ℕ) → (frame_at (boot c) f).owner ≡ Vm v → ⊥
not_owned c f v h = elim (cases_lt f c.frames) [
  | inl lt ↦ not_vm c f v (sym (ap (λ (x : Frame). x.owner) (frame_at-boot c f lt)) ∙ h)
  | inr le ↦ let past = ap (λ (x : Frame). x.owner) (frame_at-past c f le) in cc
]

no_vm_owns : (c : Configuration) (f v : ℕ) → times_in [] f ≡ (if same_owner (frame_at (boot c) f).owner (Vm v) then 1 else 0)
no_vm_owns c f v = elim (cases_lt f c.frames) [
  | inl lt ↦ rw (frame_at-boot c f lt) (grind (arith, common_steps))
  | inr le ↦ rw (frame_at-past c f le) refl
]

free-boot : (c : Configuration) → IsConfiguration c → ListsOnce (boot c) Free (boot c).free
free-boot c is f = times_in-range (c.core + c.host) (c.frames - (c.core + c.host)) f ∙ elim (cases_lt f c.frames) [
  | inl lt ↦ rw (frame_at-boot c f lt) (grind (arith, common_steps))
  | inr le ↦ rw (frame_at-past c f le) (grind (arith, common_steps))
]

pub lawful-boot : (c : Configuration) → IsConfiguration c → IsLawful (boot c)
lawful-boot c is = record {
  config = is;
  frames = length-map-range_with_len (boot_frame c) 0 c.frames;
  slots = length-no_vms c;
  each_frame = λ f lt. let within : f < c.frames = rw length-map-range_with_len at lt in rw (frame_at-boot c f within) (lawful_frame-boot c is f within);
  each_slot = λ v lt. rw (slot_at-boot c v lt) (lawful-empty_slot c);
  free = free-boot c is;
  listed = λ v lt f. rw (slot_at-boot c v lt) (no_vm_owns c f v);
  mapped = λ v g f lt. rw (slot_at-boot c v lt, get-empty nat_cmp g) (λ h. cc, λ h. absurd (not_owned c f v h.0));
  shared = λ v f lt owned some. absurd (not_owned c f v owned);
}
