-- The list of a slot gains a frame, or gives one away.
use Rattle.std.proofs.Common.{ℕ, ◌≡◌, ◌≢◌, ◌<◌, inl, inr, List, Option, Some, None, is_none, IfSome, refl, sym, ap, ◌∙◌, arith}
use Rattle.std.specs.List.{range_with_len}
use Rattle.std.specs.Option.{option_map}
use Rattle.std.proofs.lemmas.Bool.{cases_eq}
use Rattle.kc_types.specs.Configuration.{slot_count}
use Rattle.kc_types.specs.declared.link.Ends.{Ends}
use Rattle.kc_types.specs.declared.owner.Owner.{Owner}
use Rattle.kc_types.specs.declared.owner.Owner.TheVariants.{Core, Host, Free, Vm}
use Rattle.kc_types.specs.declared.resource.Resource.{Resource}
use Rattle.kc_types.specs.declared.resource.Resource.TheVariants as resource
use Rattle.kc_model.specs.Lawful.{times_in}
use Rattle.kc_model.specs.State.{Frame}
use Rattle.kc_vms.specs.Vm.{VmSlot, Capacity, capacity_of}
use Rattle.kc_model.specs.Effects.{without}
use Rattle.kc_links.proofs.Others.{without-same, without-other}
use Rattle.kc_links.specs.Chain.{unlinked}
use Rattle.kc_links.specs.Ending.{listed, IsList, KeepsOthers}
use Rattle.kc_parts.specs.Parts.{HeldSlots, Held, page_at, held_slot, vm_at, links_of, ends_at, with_vm, with_ends}
use Rattle.kc_parts.specs.States.{frame_in, slot_in, unlinked_slot, owner_at, here_of, listed_frames, AreLists, IsLoose, IsSlotMove}
use Rattle.kc_parts.specs.Linking.{IsSameRest}
use Rattle.kc_parts.proofs.Moving.{same_or_other, lists-moved, lists-same}
use Rattle.kc_parts.proofs.Relinked.{frames-stay, vms-stay, here-stays, free-stays, slot-stays, absent-others, away-stays}
use Rattle.kc_parts.proofs.Seen.{table-same, table-set, room-kept}
use Rattle.kc_parts.proofs.SlotChanges.{vm-set, vm-other, here-vm}

other-slot : (v w : ℕ) → w ≢ v → Vm w ≢ Vm v
other-slot v w other same = other (ap number same)
  where
    number : Owner → ℕ
    number (Vm v) = v
    number _ = 0

-- the slot whose list has these ends
pub slot-ended : (h : Held) (v : ℕ) (ends : Ends) → ends_at h (Vm v) ≡ Some ends → (vm : VmSlot) × ((vm_at h v ≡ Some vm) × (ends ≡ vm.slot.frames))
slot-ended h v ends is = by_slot (vm_at h v) refl is
  where
    by_slot : (there : Option VmSlot) → vm_at h v ≡ there → option_map (λ (vm : VmSlot). vm.slot.frames) there ≡ Some ends → (vm : VmSlot) × ((vm_at h v ≡ Some vm) × (ends ≡ vm.slot.frames))
    by_slot None at is = cc
    by_slot (Some vm) at is = (vm, (at, cc))

module _ (old mid : Held) (v : ℕ) (vm : VmSlot) (e' : Ends) (frames : List ℕ) (rest : IsSameRest old mid) (at : vm_at old v ≡ Some vm) (are : AreLists (links_of old) (ends_at old) (owner_at old))
    (keeps : KeepsOthers (links_of old) (links_of mid) frames) (owned : (f : ℕ) → 0 < times_in frames f → owner_at old f ≡ Vm v) where
  abbrev pub moved : Held
  moved = with_vm mid v (with_ends vm e')

  at-mid : vm_at mid v ≡ Some vm
  at-mid = vms-stay old mid (Vm v) frames rest are keeps owned v ∙ at

  pub at-moved : vm_at moved v ≡ Some (with_ends vm e')
  at-moved = vm-set mid v vm (with_ends vm e') at-mid

  pub frames-moved : listed_frames moved v ≡ listed (links_of mid) e'
  frames-moved = ap (λ there. (slot_in (links_of mid) there).frames) at-moved

  vms-others : (w : ℕ) → w ≢ v → vm_at moved w ≡ vm_at old w
  vms-others w other = vm-other mid v w (with_ends vm e') other ∙ vms-stay old mid (Vm v) frames rest are keeps owned w

  ends-others : (p : Owner) → p ≢ Vm v → ends_at moved p ≡ ends_at old p
  ends-others Core other = refl
  ends-others Host other = refl
  ends-others Free other = rest.free
  ends-others (Vm w) other = ap (option_map (λ (vm : VmSlot). vm.slot.frames)) (vms-others w (λ same. other (ap Vm same)))

  owners-same : (f : ℕ) → owner_at moved f ≡ owner_at old f
  owners-same f = ap (λ (frame : Frame). frame.owner) (frames-stay old mid (Vm v) frames rest are keeps owned f)

  capacity-same : (w : ℕ) (there : VmSlot) → vm_at moved w ≡ Some there → (n : Capacity) → ((u : ℕ) (was : VmSlot) → vm_at old u ≡ Some was → was.capacity ≡ n) → there.capacity ≡ n
  capacity-same w there is n capacities = elim (cases_eq w v) [
    | inl same ↦ sym (ap capacity-in (sym at-moved ∙ ap (vm_at moved) (sym same) ∙ is)) ∙ capacities v vm at
    | inr other ↦ capacities w there (sym (vms-others w other) ∙ is)
  ]
    where
      capacity-in : Option VmSlot → Capacity
      capacity-in (Some vm) = vm.capacity
      capacity-in None = vm.capacity

  pub slot-moved : IsList (links_of mid) e' → ((f : ℕ) → 0 < times_in (listed (links_of mid) e') f → 0 < times_in frames f) → IsSlotMove v old moved
  slot-moved list within = record {
    numbers = rest.numbers;
    slots = ap (λ (vms : HeldSlots). vms.numbers) rest.vms;
    filled = rest.filled;
    reserved = rest.reserved;
    here = here-all;
    owners = owners-same;
    away = away-stays old mid (Vm v) frames rest are keeps owned (ap is_none at);
    state = λ config was at_was i. record {
      config = config;
      frames = table-same (λ f. frame_in (page_at old f)) (λ f. frame_in (page_at moved f)) (range_with_len 0 config.frames) (frames-stay old mid (Vm v) frames rest are keeps owned) i;
      free = free-stays old mid (Vm v) frames rest are keeps owned (λ same. cc) i;
      slots = table-set (λ w. slot_in (links_of old) (vm_at old w)) (λ w. slot_in (links_of moved) (vm_at moved w)) (slot_count config) v (unlinked_slot was.slot (listed_frames moved v)) (here-slot was at_was)
          (λ w other. ap (slot_in (links_of mid)) (vms-others w other) ∙ slot-stays old mid (Vm v) frames rest are keeps owned w (other-slot v w other)) i;
    };
    linked = λ config linked. record {
      frames = λ f here. linked.frames f (sym (here-all (resource.Frame f)) ∙ here);
      vms = λ w there is. capacity-same w there is (capacity_of config) linked.vms;
      lists = lists-same (links_of mid) (links_of mid) (ends_at moved) (ends_at moved) (owner_at old) (owner_at moved) refl (λ p. refl) owners-same
          (lists-moved (links_of old) (links_of mid) (ends_at old) (ends_at moved) (owner_at old) (Vm v) frames are keeps owned e' (ap (option_map (λ (vm : VmSlot). vm.slot.frames)) at-moved) ends-others (λ is. cc) list within);
      room = room-kept old moved rest.reserved rest.sparse linked.room;
    };
  }
    where
      here-all : (r : Resource) → here_of moved r ≡ here_of old r
      here-all r = here-vm mid v vm (with_ends vm e') at-mid r ∙ here-stays old mid (Vm v) frames rest are keeps owned r

      here-slot : (was : VmSlot) → vm_at old v ≡ Some was → slot_in (links_of moved) (vm_at moved v) ≡ unlinked_slot was.slot (listed_frames moved v)
      here-slot was at_was =
          ap (slot_in (links_of moved)) at-moved ∙ ap (unlinked_slot vm.slot) (sym frames-moved) ∙ ap (λ (there : VmSlot). unlinked_slot there.slot (listed_frames moved v)) (ap vm-in (sym at ∙ at_was))
        where
          vm-in : Option VmSlot → VmSlot
          vm-in (Some there) = there
          vm-in None = vm

  -- a frame that was taken off the list is in no list
  pub absent-left : (f : ℕ) → 0 < times_in frames f → times_in (listed (links_of mid) e') f ≡ 0 → (p : Owner) (ends : Ends) → ends_at moved p ≡ Some ends → times_in (listed (links_of mid) ends) f ≡ 0
  absent-left f mine gone p ends is = elim (same_or_other p (Vm v)) [
    | inl same ↦ let own : e' ≡ ends = ap (λ o. ends-in o) (sym (ap (option_map (λ (vm : VmSlot). vm.slot.frames)) at-moved) ∙ ap (ends_at moved) (sym same) ∙ is) in rw (← own) gone
    | inr other ↦ absent-others old mid (Vm v) frames rest are keeps owned p ends other (sym (ends-others p other) ∙ is) f (owned f mine)
  ]
    where
      ends-in : Option Ends → Ends
      ends-in (Some x) = x
      ends-in None = e'

  pub loose-left : (f : ℕ) → 0 < times_in frames f → times_in (listed (links_of mid) e') f ≡ 0 → links_of mid f ≡ Some unlinked → IsLoose moved f
  loose-left f mine gone alone = record { alone = alone; absent = absent-left f mine gone }

-- the list of a slot that is here
pub frames-here : (h : Held) (v : ℕ) (vm : VmSlot) → vm_at h v ≡ Some vm → listed_frames h v ≡ listed (links_of h) vm.slot.frames
frames-here h v vm at = ap (λ there. (slot_in (links_of h) there).frames) at

pub ends-here : (h : Held) (v : ℕ) (vm : VmSlot) → vm_at h v ≡ Some vm → ends_at h (Vm v) ≡ Some vm.slot.frames
ends-here h v vm at = ap (option_map (λ (vm : VmSlot). vm.slot.frames)) at

pub slot-owned : (h : Held) (v : ℕ) (vm : VmSlot) → AreLists (links_of h) (ends_at h) (owner_at h) → vm_at h v ≡ Some vm → (f : ℕ) → 0 < times_in (listed (links_of h) vm.slot.frames) f → owner_at h f ≡ Vm v
slot-owned h v vm are at f some = are.owned (Vm v) vm.slot.frames f (ends-here h v vm at) some

-- the slot is written with other ends
pub ends-set : (old mid new : Held) (v : ℕ) (vm : VmSlot) (ends : Ends) → mid.vms ≡ old.vms → vm_at old v ≡ Some vm → IfSome (vm_at mid v) (λ slot. new ≡ with_vm mid v (with_ends slot ends)) → new ≡ with_vm mid v (with_ends vm ends)
ends-set old mid new v vm ends same at is = let there : vm_at mid v ≡ Some vm = ap (λ vms. held_slot vms v) same ∙ at in rw there at is

-- what is left of a list was there
pub within-without : (fs : List ℕ) (f g : ℕ) → 0 < times_in (without fs f) g → 0 < times_in fs g
within-without fs f g some = elim (cases_eq g f) [
  | inl same ↦ let gone = without-same fs f in let there : 0 < times_in (without fs f) f = rw same at some in absurd (omega (arith, gone, there))
  | inr other ↦ rw (without-other fs f g other) at some
]
