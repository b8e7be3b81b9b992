-- What parts are seen as when one slot changes.
use Rattle.std.proofs.Common.{ℕ, ◌≡◌, ◌≢◌, inl, inr, List, Option, Some, None, is_some, refl, sym, ap, ◌∙◌}
use Rattle.std.specs.Option.{option_map}
use Rattle.std.proofs.lemmas.Bool.{cases_eq}
use Rattle.kc_types.specs.Configuration.{Configuration, slot_count}
use Rattle.kc_types.specs.declared.owner.Owner.{Owner}
use Rattle.kc_types.specs.declared.owner.Owner.TheVariants.{Core, Host, Free, Vm}
use Rattle.kc_types.specs.declared.resource.Resource.{Resource}
use Rattle.kc_types.specs.declared.resource.Resource.TheVariants as resource
use Rattle.kc_model.specs.State.{with_slot}
use Rattle.kc_vms.specs.Vm.{VmSlot, Capacity}
use Rattle.kc_links.specs.Ending.{listed}
use Rattle.kc_parts.specs.Parts.{Held, vm_at, links_of, ends_at, with_vm}
use Rattle.kc_parts.specs.States.{slot_in, unlinked_slot, state_of, here_of, owner_at, IsLinked}
use Rattle.kc_parts.proofs.Cells.{cell-at_place, cell-other_place, cell-same}
use Rattle.kc_parts.proofs.Moving.{lists-same}
use Rattle.kc_parts.proofs.Seen.{table-set}

pub vm-set : (h : Held) (v : ℕ) (old new : VmSlot) → vm_at h v ≡ Some old → vm_at (with_vm h v new) v ≡ Some new
vm-set h v old new is = cell-at_place h.vms.numbers h.vms.slots v old new is

pub vm-other : (h : Held) (v w : ℕ) (new : VmSlot) → w ≢ v → vm_at (with_vm h v new) w ≡ vm_at h w
vm-other h v w new other = cell-other_place h.vms.numbers h.vms.slots v w (Some new) other

-- writing a slot back changes nothing
pub vm-same : (h : Held) (v : ℕ) (vm : VmSlot) → vm_at h v ≡ Some vm → with_vm h v vm ≡ h
vm-same h v vm is = ap (λ (slots : List (Option VmSlot)). record h { vms = record { numbers = h.vms.numbers; slots = slots } }) (cell-same h.vms.numbers h.vms.slots v vm is)

-- what is read of a slot stays for all slots if it stays for the changed one
pub vm-kept : {X : Type 0} (read : VmSlot → X) (h : Held) (v : ℕ) (old new : VmSlot) → vm_at h v ≡ Some old → read new ≡ read old → (w : ℕ) → option_map read (vm_at (with_vm h v new) w) ≡ option_map read (vm_at h w)
vm-kept read h v old new is same w = elim (cases_eq w v) [
  | inl e ↦ rw e (ap (option_map read) (vm-set h v old new is) ∙ ap Some same ∙ sym (ap (option_map read) is))
  | inr other ↦ ap (option_map read) (vm-other h v w new other)
]

pub here-vm : (h : Held) (v : ℕ) (old new : VmSlot) → vm_at h v ≡ Some old → (r : Resource) → here_of (with_vm h v new) r ≡ here_of h r
here-vm h v old new is (resource.Frame f) = refl
here-vm h v old new is (resource.Vm w) = elim (cases_eq w v) [
  | inl e ↦ rw e (ap is_some (vm-set h v old new is) ∙ sym (ap is_some is))
  | inr other ↦ ap is_some (vm-other h v w new other)
]
here-vm h v old new is resource.Free = refl

-- a slot that is here is the slot of its number
pub state-vm : (config : Configuration) (h : Held) (v : ℕ) (old new : VmSlot) → vm_at h v ≡ Some old → state_of config (with_vm h v new) ≡ with_slot (state_of config h) v (unlinked_slot new.slot (listed (links_of h) new.slot.frames))
state-vm config h v old new is = λ i. record {
  config = config;
  frames = (state_of config h).frames;
  free = (state_of config h).free;
  slots = table-set (λ w. slot_in (links_of h) (vm_at h w)) (λ w. slot_in (links_of h) (vm_at (with_vm h v new) w)) (slot_count config) v (unlinked_slot new.slot (listed (links_of h) new.slot.frames))
      (ap (slot_in (links_of h)) (vm-set h v old new is)) (λ w other. ap (slot_in (links_of h)) (vm-other h v w new other)) i;
}

pub ends-vm : (h : Held) (v : ℕ) (old new : VmSlot) → vm_at h v ≡ Some old → new.slot.frames ≡ old.slot.frames → (owner : Owner) → ends_at (with_vm h v new) owner ≡ ends_at h owner
ends-vm h v old new is same Core = refl
ends-vm h v old new is same Host = refl
ends-vm h v old new is same Free = refl
ends-vm h v old new is same (Vm w) = vm-kept (λ vm. vm.slot.frames) h v old new is same w

-- a slot changes, and keeps the ends of its list
pub linked-vm : (config : Configuration) (h : Held) (v : ℕ) (old new : VmSlot) → IsLinked config h → vm_at h v ≡ Some old → new.slot.frames ≡ old.slot.frames → new.capacity ≡ old.capacity → IsLinked config (with_vm h v new)
linked-vm config h v old new linked is same capacity = record {
  frames = linked.frames;
  vms = λ w vm there. elim (cases_eq w v) [
    | inl e ↦ let one : Some new ≡ Some vm = sym (vm-set h v old new is) ∙ ap (vm_at (with_vm h v new)) (sym e) ∙ there in
        sym (ap (λ there. capacity-in there) one) ∙ capacity ∙ linked.vms v old is
    | inr other ↦ linked.vms w vm (sym (vm-other h v w new other) ∙ there)
  ];
  lists = lists-same (links_of h) (links_of h) (ends_at h) (ends_at (with_vm h v new)) (owner_at h) (owner_at h) refl (ends-vm h v old new is same) (λ g. refl) linked.lists;
  room = linked.room;
}
  where
    capacity-in : Option VmSlot → Capacity
    capacity-in (Some vm) = vm.capacity
    capacity-in None = new.capacity
