-- A frame of parts that is here changes.
use Rattle.std.proofs.Common.{ℕ, ◌≡◌, ◌<◌, inl, inr, true, false, ◌∷◌, Option, Some, None, is_some, is_none, refl, sym, ap, ◌∙◌, arith}
use Rattle.std.proofs.lemmas.Bool.{cases_eq}
use Rattle.kc_types.specs.Configuration.{Configuration}
use Rattle.kc_types.specs.declared.link.Ends.{Ends}
use Rattle.kc_types.specs.declared.owner.Owner.{Owner}
use Rattle.kc_types.specs.declared.owner.Owner.TheVariants.{Core, Host, Free, Vm}
use Rattle.kc_types.specs.declared.resource.Resource.{Resource}
use Rattle.kc_types.specs.declared.resource.Resource.TheVariants as resource
use Rattle.kc_model.specs.State.{Frame, frame_at, with_frame}
use Rattle.kc_model.specs.Lawful.{times_in}
use Rattle.kc_page.specs.declared.page.Page.{Page}
use Rattle.kc_page.specs.Page.{frame_of}
use Rattle.kc_vms.specs.Vm.{VmSlot}
use Rattle.kc_links.specs.Chain.{Links}
use Rattle.kc_links.specs.Ending.{listed}
use Rattle.kc_links.proofs.Times.{times-same}
use Rattle.kc_parts.specs.Parts.{Held, page_at, vm_at, with_page, with_vm, link_of, links_of}
use Rattle.kc_parts.specs.States.{frame_in, list_in, state_of, here_of, owner_at, lacks_list, is_away, free_of, IsLinked, IsFreeMove, IsSlotMove}
use Rattle.kc_parts.specs.Emptying.{IsEmptied}
use Rattle.kc_parts.proofs.Pages.{page-set, page-other, links-kept}
use Rattle.kc_parts.proofs.Seen.{frame-seen, state-page, here-page}
use Rattle.kc_parts.proofs.SlotChanges.{here-vm}
use Rattle.kc_core.specs.Applying.{KeepsPlaces}

pub frame-is : (config : Configuration) (h : Held) (f : ℕ) (page : Page) → f < config.frames → page_at h f ≡ Some page → frame_at (state_of config h) f ≡ frame_of page
frame-is config h f page low at = frame-seen config h f low ∙ ap frame_in at

-- the state if one page is changed as the frame is changed
pub changed : (config : Configuration) (h : Held) (f : ℕ) (page new : Page) (change : Frame → Frame) → f < config.frames → page_at h f ≡ Some page → link_of new ≡ link_of page → frame_of new ≡ change (frame_of page)
    → state_of config (with_page h f new) ≡ with_frame (state_of config h) f (change (frame_at (state_of config h) f))
changed config h f page new change low at same to = state-page config h f page new at same ∙ ap (with_frame (state_of config h) f) (to ∙ ap change (sym (frame-is config h f page low at)))

pub places-same : (h : Held) → KeepsPlaces h h
places-same h = record { numbers = refl; slots = refl; filled = refl; reserved = refl; here = λ r. refl; away = λ f away. (refl, refl) }

none-some : {X : Type 0} (a b : Option X) → is_some a ≡ is_some b → is_none a ≡ is_none b
none-some None None e = refl
none-some None (Some y) e = cc
none-some (Some x) None e = cc
none-some (Some x) (Some y) e = refl

-- the same parts are here, so the same lists are elsewhere
lacks-same : (old new : Held) → ((r : Resource) → here_of new r ≡ here_of old r) → (p : Owner) → lacks_list new p ≡ lacks_list old p
lacks-same old new here Core = refl
lacks-same old new here Host = refl
lacks-same old new here Free = none-some new.free old.free (here resource.Free)
lacks-same old new here (Vm v) = none-some (vm_at new v) (vm_at old v) (here (resource.Vm v))

-- a page changes, and keeps its links, and its owner if its list is elsewhere
pub places-page : (h : Held) (f : ℕ) (page new : Page) → page_at h f ≡ Some page → link_of new ≡ link_of page → (is_away h f ≡ true → new.meta.owner ≡ page.meta.owner) → KeepsPlaces h (with_page h f new)
places-page h f page new at same own = record {
  numbers = refl;
  slots = refl;
  filled = refl;
  reserved = refl;
  here = here;
  away = λ g away. (owner g away, ap (λ (links : Links). links g) (links-kept h f page new at same));
}
  where
    here : (r : Resource) → here_of (with_page h f new) r ≡ here_of h r
    here (resource.Frame g) = here-page h f page new at g
    here (resource.Vm v) = refl
    here resource.Free = refl

    owner : (g : ℕ) → is_away h g ≡ true → owner_at (with_page h f new) g ≡ owner_at h g
    owner g away = elim (cases_eq g f) [
      | inl e ↦ ap (owner_at (with_page h f new)) e ∙ ap (λ there. (frame_in there).owner) (page-set h f page new at) ∙ own (ap (is_away h) (sym e) ∙ away) ∙ ap (λ there. (frame_in there).owner) (sym at) ∙ ap (owner_at h) (sym e)
      | inr other ↦ ap (λ there. (frame_in there).owner) (page-other h f g page new at other)
    ]

pub places-vm : (h : Held) (v : ℕ) (vm new : VmSlot) → vm_at h v ≡ Some vm → KeepsPlaces h (with_vm h v new)
places-vm h v vm new at = record { numbers = refl; slots = refl; filled = refl; reserved = refl; here = here-vm h v vm new at; away = λ f away. (refl, refl) }

pub places-move : (old new : Held) → IsFreeMove old new → KeepsPlaces old new
places-move old new move = record { numbers = move.numbers; slots = move.slots; filled = move.filled; reserved = move.reserved; here = move.here; away = λ f away. (move.owners f, move.away f away) }

pub places-slot_move : (v : ℕ) (old new : Held) → IsSlotMove v old new → KeepsPlaces old new
places-slot_move v old new move = record { numbers = move.numbers; slots = move.slots; filled = move.filled; reserved = move.reserved; here = move.here; away = λ f away. (move.owners f, move.away f away) }

pub places-emptied : (config : Configuration) (v : ℕ) (old new : Held) → IsLinked config old → IsEmptied v old new → KeepsPlaces old new
places-emptied config v old new linked is = record { numbers = is.numbers; slots = is.slots; filled = is.filled; reserved = is.reserved; here = is.here; away = λ f away. (is.away config linked f away, ap (λ (links : Links). links f) is.links) }

pub places-through : (old mid new : Held) → KeepsPlaces old mid → KeepsPlaces mid new → KeepsPlaces old new
places-through old mid new first second = record {
  numbers = second.numbers ∙ first.numbers;
  slots = second.slots ∙ first.slots;
  filled = second.filled ∙ first.filled;
  reserved = second.reserved ∙ first.reserved;
  here = λ r. second.here r ∙ first.here r;
  away = λ f away.
      let one = first.away f away in
      let two = second.away f (ap (lacks_list mid) one.0 ∙ lacks-same old mid first.here (owner_at old f) ∙ away) in
      (two.0 ∙ one.0, two.1 ∙ one.1);
}

-- the owner of a frame is the state's
pub host-owner : (config : Configuration) (h : Held) (f : ℕ) → f < config.frames → (frame_at (state_of config h) f).owner ≡ Host → owner_at h f ≡ Host
host-owner config h f low host = sym (ap (λ (frame : Frame). frame.owner) (frame-seen config h f low)) ∙ host

-- a frame of the host's is in no list, so not in one that is elsewhere
pub host-near : (h : Held) (f : ℕ) → owner_at h f ≡ Host → is_away h f ≡ false
host-near h f host = ap (lacks_list h) host

-- the list of a frame that was taken off the free list is here
pub taken-near : (config : Configuration) (old mid : Held) (f : ℕ) → IsLinked config old → IsFreeMove old mid → free_of old ≡ f ∷ free_of mid → is_away mid f ≡ false
taken-near config old mid f linked move first = by_ends old.free refl first
  where
    by_ends : (free : Option Ends) → old.free ≡ free → list_in (links_of old) free ≡ f ∷ free_of mid → is_away mid f ≡ false
    by_ends None e was = cc
    by_ends (Some ends) e was =
        let inside : 0 < times_in (listed (links_of old) ends) f = rw was (let one = times-same f (free_of mid) in omega (arith, one)) in
        ap (lacks_list mid) (move.owners f ∙ linked.lists.owned Free ends f e inside) ∙ none-some mid.free old.free (move.here resource.Free) ∙ ap is_none e

-- if a slot is here, so is the list of its frames
pub owned-near : (h : Held) (v f : ℕ) → owner_at h f ≡ Vm v → is_some (vm_at h v) ≡ true → is_away h f ≡ false
owned-near h v f own some = ap (lacks_list h) own ∙ by_vm (vm_at h v) some
  where
    by_vm : (there : Option VmSlot) → is_some there ≡ true → is_none there ≡ false
    by_vm None e = cc
    by_vm (Some vm) e = refl
