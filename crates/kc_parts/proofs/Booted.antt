-- The parts that a core starts with are those of the boot state, linked.
use Rattle.std.proofs.Common.{ℕ, ◌≡◌, ◌<◌, ◌≤◌, inl, inr, Bool, true, not, cond, List, length, map, replicate, Option, Some, None, is_some, All, refl, sym, ap, ◌∙◌, arith}
use Rattle.std.specs.List.{range_with_len}
use Rattle.std.specs.Option.{option_map}
use Rattle.std.proofs.lemmas.Bool.{cases_lt, lt-ltb, le-ltb}
use Rattle.std.proofs.lemmas.List.{length-replicate, get_or-replicate, get_or_past}
use Rattle.std.proofs.lemmas.List.FromFn.{length-map-range_with_len, get_or-map-range_with_len}
use Rattle.std.proofs.lemmas.Option.{same_Some}
use Rattle.kc_types.specs.Configuration.{Configuration, IsConfiguration, slot_count, boot_owner}
use Rattle.kc_types.specs.declared.link.Ends.{Ends}
use Rattle.kc_types.specs.declared.owner.Owner.{Owner}
use Rattle.kc_types.specs.declared.owner.Owner.TheVariants.{Core, Host, Free, Vm}
use Rattle.kc_types.specs.declared.resource.Resource.{Resource}
use Rattle.kc_types.specs.declared.resource.Resource.TheVariants as resource
use Rattle.kc_model.specs.State.{Frame, untouched}
use Rattle.kc_model.specs.Boot.{boot, boot_frame}
use Rattle.kc_model.specs.Links.{link_in, list_of}
use Rattle.kc_model.specs.Linked.{frame_and_link, slot_and_ends, linked_slot, linked_part_of}
use Rattle.kc_model.proofs.Lawful.AtBoot.{lawful-boot, slot_at-boot}
use Rattle.kc_page.specs.declared.page.Page.{Page}
use Rattle.kc_vms.specs.Vm.{capacity_of, VmSlot, empty_vm}
use Rattle.kc_parts.specs.Parts.{Held, is_sparse, page_at, vm_at}
use Rattle.kc_parts.specs.Cuts.HeldPart.{page_part, slot_part}
use Rattle.kc_parts.specs.States.{state_of, HasRoom, IsLinked}
use Rattle.kc_parts.specs.Restricted.{seen_link, seen_part, seen_at, exists_in, IsRestricted}
use Rattle.kc_parts.specs.Booting.{boot_page, boot_ends, parts_of, IsWhole}
use Rattle.kc_parts.proofs.Boots.{page-past}
use Rattle.kc_parts.proofs.Whole.{whole-page, whole-vm, whole-parts}
use Rattle.kc_parts.proofs.Complete.{linked-again, state-again}

module _ (config : Configuration) (is_reserved : Bool) where
  abbrev pages : List Page
  pages = map (boot_page is_reserved config) (range_with_len 0 config.frames)

  abbrev vms : List (Option VmSlot)
  vms = replicate (slot_count config) (Some (empty_vm (capacity_of config)))

  many-pages : length pages ≡ config.frames
  many-pages = length-map-range_with_len (boot_page is_reserved config) 0 config.frames

  many-vms : length vms ≡ slot_count config
  many-vms = length-replicate (slot_count config) (Some (empty_vm (capacity_of config)))

  abbrev pub booted : Held
  booted = parts_of pages vms (boot_ends config) is_reserved

  page-boot : (f : ℕ) → f < config.frames → page_at booted f ≡ Some (boot_page is_reserved config f)
  page-boot f low =
      whole-page pages vms (boot_ends config) is_reserved f (boot_page is_reserved config 0) (omega (arith, low, many-pages))
      ∙ ap Some (get_or-map-range_with_len (boot_page is_reserved config) 0 config.frames f f (boot_page is_reserved config 0) low (omega arith))

  page-none : (f : ℕ) → config.frames ≤ f → page_at booted f ≡ None
  page-none f past = page-past booted (length pages) f refl refl (omega (arith, past, many-pages))

  vm-boot : (v : ℕ) → v < slot_count config → vm_at booted v ≡ Some (empty_vm (capacity_of config))
  vm-boot v low = whole-vm pages vms (boot_ends config) is_reserved v ∙ get_or-replicate (slot_count config) v (Some (empty_vm (capacity_of config))) None low

  vm-none : (v : ℕ) → slot_count config ≤ v → vm_at booted v ≡ None
  vm-none v past = whole-vm pages vms (boot_ends config) is_reserved v ∙ get_or_past vms v None (omega (arith, past, many-vms))

  -- a page has the neighbours that the boot state gives its frame
  links-boot : (owner : Owner) (f : ℕ) → seen_link owner (link_in (list_of (boot config) owner) f) ≡ link_in (list_of (boot config) owner) f
  links-boot Core f = refl
  links-boot Host f = refl
  links-boot Free f = refl
  links-boot (Vm v) f = refl

  -- they are all of the boot state's
  restricted-boot : IsRestricted (boot config) (exists_in config) booted
  restricted-boot = record { parts = parts; capacities = capacities; room = room }
    where
      parts : (r : Resource) → seen_at booted r ≡ cond (exists_in config r) (Some (linked_part_of (boot config) r)) None
      parts (resource.Frame f) = elim (cases_lt f config.frames) [
        | inl low ↦
            let frame = get_or-map-range_with_len (boot_frame config) 0 config.frames f f (untouched Core) low (omega arith) in
            rw (lt-ltb f config.frames low)
            (ap (λ there. option_map seen_part (option_map page_part there)) (page-boot f low)
            ∙ ap (λ link. Some (frame_and_link (boot_frame config f) link)) (links-boot (boot_owner config f) f)
            ∙ ap (λ (frame : Frame). Some (frame_and_link frame (link_in (list_of (boot config) frame.owner) f))) (sym frame))
        | inr past ↦ rw (le-ltb f config.frames past) (ap (λ there. option_map seen_part (option_map page_part there)) (page-none f past))
      ]
      parts (resource.Vm v) = elim (cases_lt v (slot_count config)) [
        | inl low ↦
            rw (lt-ltb v (slot_count config) low)
            (ap (λ there. option_map seen_part (option_map slot_part there)) (vm-boot v low) ∙ ap (λ slot. Some (slot_and_ends (linked_slot slot))) (sym (slot_at-boot config v low)))
        | inr past ↦ rw (le-ltb v (slot_count config) past) (ap (λ there. option_map seen_part (option_map slot_part there)) (vm-none v past))
      ]
      parts resource.Free = refl

      capacities : (v : ℕ) (vm : VmSlot) → vm_at booted v ≡ Some vm → vm.capacity ≡ capacity_of config
      capacities v vm at = elim (cases_lt v (slot_count config)) [
        | inl low ↦ rw (same_Some vm (empty_vm (capacity_of config)) (sym at ∙ vm-boot v low)) refl
        | inr past ↦ let no : Some vm ≡ None = sym at ∙ vm-none v past in cc
      ]

      room : HasRoom booted
      room reserved f = elim (cases_lt f config.frames) [
        | inl low ↦ ap is_sparse (page-boot f low) ∙ ap not reserved
        | inr past ↦ ap is_sparse (page-none f past)
      ]

  pub linked-boot : IsConfiguration config → IsLinked config booted
  linked-boot is = linked-again (boot config) booted (lawful-boot config is) restricted-boot

  pub state-boot : IsConfiguration config → state_of config booted ≡ boot config
  state-boot is = state-again (boot config) booted (lawful-boot config is) restricted-boot

  pub whole-boot : IsWhole config booted
  whole-boot = whole-parts pages vms (boot_ends config) is_reserved config (sym many-pages) (sym many-vms) filled
    where
      filled : All (λ (vm : Option VmSlot). is_some vm ≡ true) vms
      filled v d low = ap is_some (get_or-replicate (slot_count config) v (Some (empty_vm (capacity_of config))) d (omega (arith, low, many-vms)))

  -- there is a place for each slot
  pub slots-boot : booted.vms.numbers ≡ range_with_len 0 (slot_count config)
  slots-boot = ap (range_with_len 0) many-vms

  -- the parts made one by one
  pub made : (parts : Held) (ps : List Page) (vs : List (Option VmSlot)) (free : Ends)
      → parts ≡ parts_of ps vs free is_reserved → ps ≡ pages → vs ≡ vms → free ≡ boot_ends config → parts ≡ booted
  made parts ps vs free is p v f = is ∙ (λ i. parts_of (p i) (v i) (f i) is_reserved)
