-- A frame that a slot gives up.
use Rattle.std.proofs.Common.{ℕ, ◌≡◌, ◌<◌, false, List, [], ◌∷◌, ◌++◌, Some, None, is_some, refl, sym, ap, ◌∙◌}
use Rattle.std.specs.FinMap as map
use Rattle.std.proofs.lemmas.List.{set-set}
use Rattle.kc_types.specs.Configuration.{Configuration, slot_count}
use Rattle.kc_types.specs.declared.owner.Owner.TheVariants.{Free, Vm}
use Rattle.kc_types.specs.declared.resource.Resource.TheVariants as resource
use Rattle.kc_model.specs.State.{State, Slot, slot_at, mapped_at, with_frame, with_slot, frame_at, zero_page}
use Rattle.kc_model.specs.Refusals.{backing}
use Rattle.kc_model.specs.Effects.{freed, without, dropped}
use Rattle.kc_model.specs.Lawful.{times_in}
use Rattle.kc_model.specs.Local.{IsOrderly}
use Rattle.kc_model.proofs.States.Members.{times_in-held}
use Rattle.kc_page.specs.declared.page.Page.{Page}
use Rattle.kc_page.specs.Page.{frame_of}
use Rattle.kc_vms.specs.Stage2.{Table}
use Rattle.kc_vms.specs.Vm.{VmSlot, slot_table, with_table}
use Rattle.kc_links.specs.Ending.{listed}
use Rattle.kc_parts.specs.Parts.{Held, page_at, vm_at, with_page, with_vm, link_of, links_of}
use Rattle.kc_parts.specs.States.{list_in, unlinked_slot, state_of, owner_at, is_away, free_of, listed_frames, IsLinked, IsFreeMove, IsSlotMove}
use Rattle.kc_parts.proofs.Pages.{links-kept}
use Rattle.kc_parts.proofs.SlotChanges.{vm-set, state-vm, linked-vm}
use Rattle.kc_parts.proofs.SlotLists.{frames-here, slot-owned}
use Rattle.kc_core.specs.Applying.{KeepsPlaces}
use Rattle.kc_core.proofs.Frames.{changed, places-vm, places-slot_move, places-through, owned-near}
use Rattle.kc_parts.proofs.Looked.{slot-is}

-- a page becomes free, and its frame the last of the free ones
pub state-freed : (config : Configuration) (old new : Held) (f : ℕ) (page freed_page : Page) → f < config.frames → page_at old f ≡ Some page → link_of freed_page ≡ link_of page
    → frame_of freed_page ≡ record (frame_of page) { owner = Free; gfn = None; present = false; bytes = zero_page }
    → IsFreeMove (with_page old f freed_page) new → free_of new ≡ free_of (with_page old f freed_page) ++ f ∷ [] → state_of config new ≡ freed (state_of config old) f
state-freed config old new f page freed_page low at same to move free =
    let m : State = state_of config old in
    let kept : free_of (with_page old f freed_page) ≡ free_of old = ap (λ links. list_in links old.free) (links-kept old f page freed_page at same) in
    move.state config
    ∙ ap (λ (s : State). record s { free = free_of new }) (changed config old f page freed_page (λ frame. record frame { owner = Free; gfn = None; present = false; bytes = zero_page }) low at same to)
    ∙ ap (λ fs. record (with_frame m f (record (frame_at m f) { owner = Free; gfn = None; present = false; bytes = zero_page })) { free = fs }) (free ∙ ap (λ fs. fs ++ f ∷ []) kept)

-- a slot's table has lost the guest frame at which it had this frame
pub record IsUnmapping (config : Configuration) (old : Held) (v g f : ℕ) (vm : VmSlot) (table : Table) : Type 0 where
  pub orderly : IsOrderly (state_of config old)
  pub linked : IsLinked config old
  pub low : v < slot_count config
  pub at : vm_at old v ≡ Some vm
  pub mapped : mapped_at (state_of config old) v g ≡ Some f
  pub is_left : table ≡ record (slot_table vm) { mapped = map.remove vm.slot.mapped g }

module _ (config : Configuration) (old : Held) (v g f : ℕ) (vm : VmSlot) (table : Table) (is : IsUnmapping config old v g f vm table) where
  abbrev pub unmapped_vm : VmSlot
  unmapped_vm = with_table vm table

  -- the guest frame is no longer mapped
  abbrev pub unmapped : Held
  unmapped = with_vm old v unmapped_vm

  pub linked-unmapped : IsLinked config unmapped
  linked-unmapped = linked-vm config old v vm unmapped_vm is.linked is.at refl (ap (λ (t : Table). record vm.capacity { roots = t.roots; leaves = t.capacity }) is.is_left)

  vm-unmapped : vm_at unmapped v ≡ Some unmapped_vm
  vm-unmapped = vm-set old v vm unmapped_vm is.at

  frames-unmapped : listed_frames unmapped v ≡ listed (links_of old) vm.slot.frames
  frames-unmapped = frames-here unmapped v unmapped_vm vm-unmapped

  -- its frame is in the slot's list
  pub inside-unmapped : 0 < times_in (listed_frames unmapped v) f
  inside-unmapped =
      let there : (slot_at (state_of config old) v).frames ≡ listed (links_of old) vm.slot.frames = ap (λ (slot : Slot). slot.frames) (slot-is config old v vm is.low is.at) in
      rw (frames-unmapped, ← there) (times_in-held (slot_at (state_of config old) v).frames f ((is.orderly.each_slot v is.low).listed g f is.mapped))

  pub state-dropped : (mid new : Held) → IsSlotMove v unmapped mid → listed_frames mid v ≡ without (listed_frames unmapped v) f → state_of config new ≡ freed (state_of config mid) f
      → state_of config new ≡ dropped (state_of config old) v g (backing (mapped_at (state_of config old) v g))
  state-dropped mid new move frames state =
      state
      ∙ ap (λ (s : State). freed s f) (
      move.state config unmapped_vm vm-unmapped
      ∙ ap (λ fs. with_slot (state_of config unmapped) v (unlinked_slot unmapped_vm.slot fs)) (frames ∙ ap (λ fs. without fs f) frames-unmapped)
      ∙ ap (λ (s : State). with_slot s v after) (state-vm config old v vm unmapped_vm is.at)
      )
      ∙ ap (λ slots. record (freed m f) { slots = slots }) (set-set m.slots v (unlinked_slot unmapped_vm.slot fs) after)
      ∙ ap (λ (t : Table). with_slot (freed m f) v (unlinked_slot (with_table vm t).slot (without fs f))) is.is_left
      ∙ ap (λ (slot : Slot). with_slot (freed m f) v (record slot { frames = without slot.frames f; mapped = map.remove slot.mapped g })) (sym (slot-is config old v vm is.low is.at))
      ∙ ap (λ at. dropped m v g (backing at)) (sym is.mapped)
    where
      m : State
      m = state_of config old

      fs : List ℕ
      fs = listed (links_of old) vm.slot.frames

      after : Slot
      after = unlinked_slot unmapped_vm.slot (without fs f)

  pub places-unlinked : (mid : Held) → IsSlotMove v unmapped mid → KeepsPlaces old mid
  places-unlinked mid move = places-through old unmapped mid (places-vm old v vm unmapped_vm is.at) (places-slot_move v unmapped mid move)

  -- the list that it was in is here
  pub near-unlinked : (mid : Held) → IsSlotMove v unmapped mid → is_away mid f ≡ false
  near-unlinked mid move =
      let mine : owner_at unmapped f ≡ Vm v = slot-owned unmapped v unmapped_vm linked-unmapped.lists vm-unmapped f (rw frames-unmapped at inside-unmapped) in
      owned-near mid v f (move.owners f ∙ mine) (move.here (resource.Vm v) ∙ ap is_some vm-unmapped)
