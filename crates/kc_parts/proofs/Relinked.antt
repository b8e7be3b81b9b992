-- The links among the frames of one owner change, and so does the owner's list: what is seen of everything else stays.
use Rattle.std.proofs.Common.{ℕ, zero, suc, ◌≡◌, ◌≢◌, ◌<◌, true, false, List, Option, Some, None, is_some, refl, sym, ap, ◌∙◌, arith}
use Rattle.std.specs.Option.{option_map}
use Rattle.kc_types.specs.declared.link.Ends.{Ends}
use Rattle.kc_types.specs.declared.owner.Owner.{Owner}
use Rattle.kc_types.specs.declared.owner.Owner.TheVariants.{Free, Vm}
use Rattle.kc_types.specs.declared.resource.Resource.{Resource}
use Rattle.kc_types.specs.declared.resource.Resource.TheVariants as resource
use Rattle.kc_model.specs.Lawful.{times_in}
use Rattle.kc_model.specs.State.{Frame}
use Rattle.kc_page.specs.declared.page.Page.{Page}
use Rattle.kc_page.specs.Page.{frame_of}
use Rattle.kc_vms.specs.Vm.{VmSlot}
use Rattle.kc_links.specs.Ending.{listed, KeepsOthers}
use Rattle.kc_parts.specs.Parts.{Held, page_at, held_slot, vm_at, links_of, ends_at}
use Rattle.kc_parts.specs.States.{frame_in, list_in, slot_in, unlinked_slot, owner_at, lacks_list, is_away, here_of, AreLists}
use Rattle.kc_parts.specs.Linking.{IsSameRest}
use Rattle.kc_parts.proofs.Moving.{list-kept}

frame-same : (a b : Option Page) → option_map frame_of b ≡ option_map frame_of a → frame_in b ≡ frame_in a
frame-same None None e = refl
frame-same None (Some b) e = cc
frame-same (Some a) None e = cc
frame-same (Some a) (Some b) e = ap (λ o. inner o) e
  where
    inner : Option Frame → Frame
    inner (Some x) = x
    inner None = frame_of a

here-same : (a b : Option Page) → option_map frame_of b ≡ option_map frame_of a → is_some b ≡ is_some a
here-same None None e = refl
here-same None (Some b) e = cc
here-same (Some a) None e = cc
here-same (Some a) (Some b) e = refl

module _ (old new : Held) (mine : Owner) (frames : List ℕ) (rest : IsSameRest old new) (are : AreLists (links_of old) (ends_at old) (owner_at old))
    (keeps : KeepsOthers (links_of old) (links_of new) frames) (owned : (f : ℕ) → 0 < times_in frames f → owner_at old f ≡ mine) where
  pub frames-stay : (f : ℕ) → frame_in (page_at new f) ≡ frame_in (page_at old f)
  frames-stay f = frame-same (page_at old f) (page_at new f) (rest.frames f)

  pub vms-stay : (v : ℕ) → vm_at new v ≡ vm_at old v
  vms-stay v = ap (λ vms. held_slot vms v) rest.vms

  pub here-stays : (r : Resource) → here_of new r ≡ here_of old r
  here-stays (resource.Frame f) = here-same (page_at old f) (page_at new f) (rest.frames f)
  here-stays (resource.Vm v) = ap is_some (vms-stay v)
  here-stays resource.Free = ap is_some rest.free

  stays : (p : Owner) (e : Ends) → p ≢ mine → ends_at old p ≡ Some e → list_in (links_of new) (Some e) ≡ list_in (links_of old) (Some e)
  stays p e other is = list-kept (links_of old) (links_of new) (ends_at old) (ends_at old) (owner_at old) mine frames are keeps owned p e other is

  pub free-stays : Free ≢ mine → list_in (links_of new) new.free ≡ list_in (links_of old) old.free
  free-stays other = ap (list_in (links_of new)) rest.free ∙ by_ends old.free refl
    where
      by_ends : (there : Option Ends) → old.free ≡ there → list_in (links_of new) there ≡ list_in (links_of old) there
      by_ends None is = refl
      by_ends (Some e) is = stays Free e other is

  pub slot-stays : (v : ℕ) → Vm v ≢ mine → slot_in (links_of new) (vm_at old v) ≡ slot_in (links_of old) (vm_at old v)
  slot-stays v other = by_slot (vm_at old v) refl
    where
      by_slot : (there : Option VmSlot) → vm_at old v ≡ there → slot_in (links_of new) there ≡ slot_in (links_of old) there
      by_slot None is = refl
      by_slot (Some vm) is = ap (unlinked_slot vm.slot) (stays (Vm v) vm.slot.frames other (ap (option_map (λ (vm : VmSlot). vm.slot.frames)) is))

  -- the owner's frames are in no list of another
  pub absent-others : (p : Owner) (e : Ends) → p ≢ mine → ends_at old p ≡ Some e → (f : ℕ) → owner_at old f ≡ mine → times_in (listed (links_of new) e) f ≡ 0
  absent-others p e other is f own = ap (λ fs. times_in fs f) (stays p e other is) ∙ by_count (times_in (listed (links_of old) e) f) refl
    where
      by_count : (n : ℕ) → times_in (listed (links_of old) e) f ≡ n → n ≡ 0
      by_count zero count = refl
      by_count (suc n) count = absurd (other (sym (are.owned p e f is (rw count (omega arith))) ∙ own))

  -- if the ends of the changed list are here, frames whose list is elsewhere keep their links
  pub away-stays : lacks_list old mine ≡ false → (f : ℕ) → is_away old f ≡ true → links_of new f ≡ links_of old f
  away-stays here f away = by_count (times_in frames f) refl
    where
      by_count : (n : ℕ) → times_in frames f ≡ n → links_of new f ≡ links_of old f
      by_count zero count = keeps f count
      by_count (suc n) count = let own = owned f (rw count (omega arith)) in let no : false ≡ true = sym (ap (lacks_list old) own ∙ here) ∙ away in cc
