-- A frame of the host's is handed to a slot.
use Rattle.std.proofs.Common.{ℕ, ◌≡◌, ◌<◌, true, false, List, [], ◌∷◌, ◌++◌, ◌+◌, length, get_or, set, Option, Some, None, Result, Ok, Err, IsOk, refl, sym, ap, ◌∙◌}
use Rattle.std.specs.FinMap as map
use Rattle.std.proofs.lemmas.List.{set-set}
use Rattle.std.proofs.lemmas.Bool.{not-false}
use Rattle.kc_types.specs.Configuration.{Configuration, slot_count}
use Rattle.kc_types.specs.declared.owner.Owner.TheVariants.{Host, Vm}
use Rattle.kc_model.specs.State.{State, Frame, Slot, Image, frame_at, slot_at, mapped_at, with_frame, with_slot}
use Rattle.kc_model.specs.Refusals.{refusal, bad_vm, bad_frame, not_host, tables_full, next_gfn, pending, conditions}
use Rattle.kc_types.specs.declared.refusal.Refusal.TheVariants.{TablesFull}
use Rattle.kc_types.specs.declared.call.Call.TheVariants.{Remap, Map}
use Rattle.kc_model.specs.Linked.{linked_slot}
use Rattle.kc_model.proofs.Refusals.Served.{when-none, none-of}
use Rattle.kc_model.proofs.States.Changes.{slot-here}
use Rattle.kc_model.specs.Effects.{effect, hand, with_leaf}
use Rattle.kc_page.specs.declared.page.Page.{Page}
use Rattle.kc_page.specs.Page.{frame_of}
use Rattle.kc_vms.specs.Stage2.{Table, with_mapping, fits}
use Rattle.kc_types.specs.Refusals.{Answers}
use Rattle.kc_vms.specs.Faults.{map_fault}
use Rattle.kc_vms.specs.declared.table.MapFault.{MapFault}
use Rattle.kc_vms.specs.Vm.{VmSlot, capacity_of, slot_table, with_table}
use Rattle.kc_model.specs.Slot.{with_image_page}
use Rattle.kc_vms.specs.Refusals.{next_page_refusal}
use Rattle.kc_vms.proofs.Rows.{refusal-remap}
use Rattle.kc_links.specs.Ending.{listed}
use Rattle.kc_parts.specs.Parts.{Held, page_at, vm_at, links_of, link_of, with_vm}
use Rattle.kc_parts.specs.Parts as held
use Rattle.kc_parts.specs.States.{frame_in, state_of, unlinked_slot, owner_at, listed_frames, IsLinked, IsLoose, IsSlotMove}
use Rattle.kc_parts.proofs.Pages.{page-set, links-kept}
use Rattle.kc_parts.proofs.Seen.{state-page, linked-moved}
use Rattle.kc_parts.proofs.SlotChanges.{vm-set, state-vm, linked-vm}
use Rattle.kc_parts.proofs.SlotLists.{frames-here}
use Rattle.kc_core.specs.Applying.{KeepsPlaces}
use Rattle.kc_core.proofs.Frames.{frame-is, places-page, places-vm, places-slot_move, places-through, host-near}
use Rattle.kc_core.proofs.Hosts.{loose-host, loose-page}
use Rattle.kc_parts.proofs.Looked.{fits-seen, slot-is}

-- the table takes the guest frame
pub map-fits : (m : State) (v g : ℕ) (vm : VmSlot) (frames : List ℕ) → slot_at m v ≡ unlinked_slot vm.slot frames → vm.capacity ≡ capacity_of m.config → mapped_at m v g ≡ None → tables_full m v g ≡ None → map_fault (slot_table vm) g ≡ None
map-fits m v g vm frames is capacity unmapped leaf_left =
    let free : map.get vm.slot.mapped g ≡ None = ap (λ (slot : Slot). map.get slot.mapped g) (sym is) ∙ unmapped in
    let left : fits (slot_table vm) g ≡ true = not-false (fits (slot_table vm) g) (when-none _ TablesFull (sym (fits-seen m v g vm frames is capacity) ∙ leaf_left)) in
    rw (free, left) refl

pub map-ok : (answer : Result Unit MapFault) (fault : Option MapFault) → fault ≡ None → Answers answer fault → IsOk answer
map-ok (Ok x) fault none is = refl
map-ok (Err e) fault none is = let no = rw none at is in cc

-- a slot's table has gained a guest frame, and the guest frame's frame, which was the host's, a new record
pub record IsHanding (config : Configuration) (old : Held) (v g f : ℕ) (vm : VmSlot) (table : Table) (page new_page : Page) : Type 0 where
  pub linked : IsLinked config old
  pub low : v < slot_count config
  pub at_vm : vm_at old v ≡ Some vm
  pub at : page_at old f ≡ Some page
  pub host : owner_at old f ≡ Host
  pub maps : table ≡ with_mapping (slot_table vm) g f
  pub same : link_of new_page ≡ link_of page
  pub reserved : new_page.bytes.is_reserved ≡ page.bytes.is_reserved
  pub to : frame_of new_page ≡ record (frame_of page) { owner = Vm v; gfn = Some g; present = false }

module _ (config : Configuration) (old : Held) (v g f : ℕ) (vm : VmSlot) (table : Table) (page new_page : Page) (is : IsHanding config old v g f vm table page new_page) where
  abbrev pub mapped_vm : VmSlot
  mapped_vm = with_table vm table

  -- the guest frame is mapped
  abbrev pub mapped : Held
  mapped = with_vm old v mapped_vm

  -- the frame is the slot's
  abbrev pub owned : Held
  owned = held.with_page mapped f new_page

  linked-mapped : IsLinked config mapped
  linked-mapped = linked-vm config old v vm mapped_vm is.linked is.at_vm refl (ap (λ (t : Table). record vm.capacity { roots = t.roots; leaves = t.capacity }) is.maps)

  loose-mapped : IsLoose mapped f
  loose-mapped = loose-host config mapped f linked-mapped is.host

  pub loose-owned : IsLoose owned f
  loose-owned = loose-page mapped f page new_page is.at is.same loose-mapped

  pub linked-owned : IsLinked config owned
  linked-owned = linked-moved config mapped f page new_page linked-mapped is.at is.same loose-mapped.absent (λ host. loose-mapped.alone) is.reserved

  pub owner-owned : owner_at owned f ≡ Vm v
  owner-owned = ap (λ there. (frame_in there).owner) (page-set mapped f page new_page is.at) ∙ ap (λ (frame : Frame). frame.owner) is.to

  vm-owned : vm_at owned v ≡ Some mapped_vm
  vm-owned = vm-set old v vm mapped_vm is.at_vm

  pub state-handed : (new : Held) → IsSlotMove v owned new → listed_frames new v ≡ listed_frames owned v ++ f ∷ [] → f < config.frames → state_of config new ≡ hand (state_of config old) v g f
  state-handed new move frames f_low =
      move.state config mapped_vm vm-owned
      ∙ ap (λ fs. with_slot (state_of config owned) v (unlinked_slot mapped_vm.slot fs)) (frames ∙ ap (λ fs. fs ++ f ∷ []) frames-owned)
      ∙ ap (λ (s : State). with_slot s v after) (state-page config mapped f page new_page is.at is.same ∙ ap (λ (s : State). with_frame s f (frame_of new_page)) (state-vm config old v vm mapped_vm is.at_vm))
      ∙ ap (λ slots. record (with_frame m f (frame_of new_page)) { slots = slots }) (set-set m.slots v (unlinked_slot mapped_vm.slot fs) after)
      ∙ ap (λ frame. with_slot (with_frame m f frame) v after) (is.to ∙ ap (λ (frame : Frame). record frame { owner = Vm v; gfn = Some g; present = false }) (sym (frame-is config old f page f_low is.at)))
      ∙ ap (λ (t : Table). with_slot (with_frame m f (record (frame_at m f) { owner = Vm v; gfn = Some g; present = false })) v (unlinked_slot (with_table vm t).slot (fs ++ f ∷ []))) is.maps
      ∙ ap (λ (slot : Slot). with_slot (with_frame m f (record (frame_at m f) { owner = Vm v; gfn = Some g; present = false })) v (record slot { frames = slot.frames ++ f ∷ []; mapped = map.insert slot.mapped g f; leaves = with_leaf slot.leaves g }))
      (sym (slot-is config old v vm is.low is.at_vm))
    where
      m : State
      m = state_of config old

      fs : List ℕ
      fs = listed (links_of old) vm.slot.frames

      after : Slot
      after = unlinked_slot mapped_vm.slot (fs ++ f ∷ [])

      frames-owned : listed_frames owned v ≡ fs
      frames-owned = frames-here owned v mapped_vm vm-owned ∙ ap (λ links. listed links vm.slot.frames) (links-kept mapped f page new_page is.at is.same)

  pub places-handed : (new : Held) → IsSlotMove v owned new → KeepsPlaces old new
  places-handed new move = places-through old owned new (places-through old mapped owned (places-vm old v vm mapped_vm is.at_vm) (places-page mapped f page new_page is.at is.same (λ away. let near = host-near mapped f is.host in let no = sym near ∙ away in cc))) (places-slot_move v owned new move)

-- the frame of a served `remap` may become the slot's
pub remap-fits : (m : State) (v i f : ℕ) → refusal m (Remap v i f) ≡ None → tables_full m v (next_gfn m v i) ≡ None
remap-fits m v i f served = none-of (conditions m (Remap v i f)) served 7

pub map-fitting : (m : State) (v c f : ℕ) → refusal m (Map v c f) ≡ None → tables_full m v (pending m v c) ≡ None
map-fitting m v c f served = none-of (conditions m (Map v c f)) served 9

-- and the image has a next page
pub remap-page : (m : State) (v i f : ℕ) → refusal m (Remap v i f) ≡ None → next_page_refusal (linked_slot (slot_at m v)) i ≡ None
remap-page m v i f served =
    none-of (bad_vm m v ∷ bad_frame m f ∷ next_page_refusal (linked_slot (slot_at m v)) i ∷ not_host m f ∷ tables_full m v (next_gfn m v i) ∷ []) (sym (refusal-remap m v i f) ∙ served) 2

-- after the hand the slot is as before, except for the frame
module _ (config : Configuration) (old new : Held) (v g f : ℕ) (vm : VmSlot) (state : state_of config new ≡ hand (state_of config old) v g f) (low : v < length (state_of config old).slots) (low' : v < slot_count config) (at : vm_at new v ≡ Some vm) where
  slot-after : unlinked_slot vm.slot (listed (links_of new) vm.slot.frames) ≡ slot_at (hand (state_of config old) v g f) v
  slot-after = sym (slot-is config new v vm low' at) ∙ ap (λ (s : State). slot_at s v) state

  slot-handed : slot_at (hand (state_of config old) v g f) v ≡ record (slot_at (state_of config old) v) {
    frames = (slot_at (state_of config old) v).frames ++ f ∷ [];
    mapped = map.insert (slot_at (state_of config old) v).mapped g f;
    leaves = with_leaf (slot_at (state_of config old) v).leaves g;
  }
  slot-handed = slot-here (with_frame (state_of config old) f (record (frame_at (state_of config old) f) { owner = Vm v; gfn = Some g; present = false })) v _ low

  pub page-after : (i : ℕ) → next_page_refusal (linked_slot (slot_at (state_of config old) v)) i ≡ None → next_page_refusal vm.slot i ≡ None
  page-after i served = ap (λ (slot : Slot). next_page_refusal (linked_slot slot) i) (slot-after ∙ slot-handed) ∙ served

  pub state-paged : (i : ℕ) (paged : VmSlot) → paged ≡ record vm { slot = with_image_page vm.slot i } → g ≡ next_gfn (state_of config old) v i → state_of config (with_vm new v paged) ≡ (effect (state_of config old) (Remap v i f)).1
  state-paged i paged is gfn =
      let m : State = state_of config old in
      let paged_images : List Image → List Image = λ images. set images i (record (get_or images i (record { base = 0; len = 0; pages = 0 })) { pages = (get_or images i (record { base = 0; len = 0; pages = 0 })).pages + 1 }) in
      ap (λ (vm : VmSlot). state_of config (with_vm new v vm)) is
      ∙ state-vm config new v vm (record vm { slot = with_image_page vm.slot i }) at
      ∙ ap (λ (s : State). with_slot s v (unlinked_slot (with_image_page vm.slot i) (listed (links_of new) vm.slot.frames))) state
      ∙ ap (λ (slot : Slot). with_slot (hand m v g f) v (record slot { images = paged_images slot.images })) slot-after
      ∙ ap (λ (slot : Slot). with_slot (hand m v g f) v (record (slot_at (hand m v g f) v) { images = paged_images slot.images })) slot-handed
      ∙ ap (λ g. with_slot (hand m v g f) v (record (slot_at (hand m v g f) v) { images = paged_images (slot_at m v).images })) gfn
