-- A slot is emptied, and its frames become untouched and free.
use Rattle.std.proofs.Common.{ℕ, ◌≡◌, ◌<◌, inl, inr, true, false, is_some, is_none, IsSome, List, [], ◌∷◌, Option, Some, None, set, set-set, refl, sym, ap, subst, ◌∙◌, arith}
use Rattle.kc_types.specs.Configuration.{Configuration}
use Rattle.kc_types.specs.declared.link.Ends.{Ends}
use Rattle.kc_types.specs.declared.owner.Owner.{Owner}
use Rattle.kc_types.specs.declared.owner.Owner.TheVariants.{Free, Vm}
use Rattle.kc_types.specs.declared.resource.Resource.TheVariants as resource
use Rattle.kc_model.specs.State.{State}
use Rattle.kc_model.specs.Effects.{scrubbed}
use Rattle.kc_model.specs.Lawful.{times_in}
use Rattle.kc_model.specs.Linked.{ends_of}
use Rattle.kc_page.specs.declared.page.Page.{Page}
use Rattle.kc_vms.specs.Vm.{VmSlot, empty_vm}
use Rattle.kc_links.specs.Chain.{Links}
use Rattle.kc_links.specs.Ending.{listed}
use Rattle.kc_links.proofs.Steps.{inside-held}
use Rattle.kc_parts.specs.Parts.{Held, place_of, is_sparse, page_at, vm_at, links_of, ends_at, with_vm, with_ends}
use Rattle.kc_parts.specs.States.{frame_in, unlinked_slot, state_of, owner_at, lacks_list, listed_frames, IsLinked}
use Rattle.kc_parts.specs.Linking.{rest_kept}
use Rattle.kc_parts.specs.Emptying.{untouched_page, with_untouched, with_scrubbed, all_scrubbed, IsEmptied}
use Rattle.kc_parts.proofs.Pages.{page-set, page-other, links-kept}
use Rattle.kc_parts.proofs.Seen.{state-page, here-page, ends-pages, sparse-page, room-kept}
use Rattle.kc_parts.proofs.SlotChanges.{vm-set, here-vm, state-vm, ends-vm, linked-vm}
use Rattle.kc_parts.proofs.SlotLists.{frames-here, slot-owned, ends-here, slot-moved, absent-left}
use Rattle.kc_parts.proofs.Moving.{none-or-some, only-first, first-inside, not-first, lists-owners}
use Rattle.kc_parts.proofs.Linked.{held-here}

-- these frames become untouched and free if they are here, and nothing else changes
pub record AreScrubbed (old : Held) (fs : List ℕ) (new : Held) : Type 0 where
  pub rest : new ≡ record old { pages = new.pages }
  pub links : links_of new ≡ links_of old
  pub here : (g : ℕ) → is_some (page_at new g) ≡ is_some (page_at old g)
  pub owners : (g : ℕ) → 0 < times_in fs g → IsSome (links_of old g) → owner_at new g ≡ Free
  pub others : (g : ℕ) → times_in fs g ≡ 0 → owner_at new g ≡ owner_at old g
  pub sparse : (g : ℕ) → is_sparse (page_at new g) ≡ is_sparse (page_at old g)
  pub state : (config : Configuration) → ((g : ℕ) → 0 < times_in fs g → IsSome (links_of old g)) → state_of config new ≡ record (state_of config old) { frames = scrubbed (state_of config old).frames fs }

one-scrubbed : (h : Held) (f : ℕ) (at : Option Page) → page_at h f ≡ at → AreScrubbed h (f ∷ []) (with_untouched h f at)
one-scrubbed h f None is = record {
  rest = refl;
  links = refl;
  here = λ g. refl;
  owners = λ g some held. absurd (held-here h f (rw (only-first f g some) at held) is);
  others = λ g none. refl;
  sparse = λ g. refl;
  state = λ config held. absurd (held-here h f (held f (first-inside f)) is);
}
one-scrubbed h f (Some page) is = record {
  rest = refl;
  links = links-kept h f page (untouched_page page) is refl;
  here = here-page h f page (untouched_page page) is;
  owners = λ g some held. rw (only-first f g some) (ap (λ there. (frame_in there).owner) (page-set h f page (untouched_page page) is));
  others = λ g none. ap (λ there. (frame_in there).owner) (page-other h f g page (untouched_page page) is (not-first f g none));
  sparse = sparse-page h f page (untouched_page page) is refl;
  state = λ config held. state-page config h f page (untouched_page page) is refl;
}

pub scrubbing : (h : Held) (fs : List ℕ) → AreScrubbed h fs (all_scrubbed h fs)
scrubbing h [] = record { rest = refl; links = refl; here = λ g. refl; owners = λ g some held. absurd (omega (arith, some)); others = λ g none. refl; sparse = λ g. refl; state = λ config held. refl }
scrubbing h (f ∷ fs) =
    let first = one-scrubbed h f (page_at h f) refl in
    let later = scrubbing (with_scrubbed h f) fs in
    let held-then : (g : ℕ) → IsSome (links_of h g) → IsSome (links_of (with_scrubbed h f) g) = λ g held. subst (λ (l : Links). IsSome (l g)) (sym first.links) held in
    record {
      rest = later.rest ∙ ap (λ (m : Held). record m { pages = (all_scrubbed h (f ∷ fs)).pages }) first.rest;
      links = later.links ∙ first.links;
      here = λ g. later.here g ∙ first.here g;
      owners = λ g some held. elim (none-or-some (times_in fs g)) [
        | inl none ↦ later.others g none ∙ first.owners g (omega (arith, some, none)) held
        | inr more ↦ later.owners g more (held-then g held)
      ];
      others = λ g none. later.others g (omega (arith, none)) ∙ first.others g (omega (arith, none));
      sparse = λ g. later.sparse g ∙ first.sparse g;
      state = λ config held. later.state config (λ g some. held-then g (held g (omega (arith, some))))
          ∙ ap (λ (m : State). record m { frames = scrubbed m.frames fs }) (first.state config (λ g some. held g (omega (arith, some))));
    }

-- the parts are linked, and these frames are here and in no list
record AreLoose (config : Configuration) (h : Held) (fs : List ℕ) : Type 0 where
  pub linked : IsLinked config h
  pub here : (g : ℕ) → 0 < times_in fs g → IsSome (links_of h g)
  pub absent : (g : ℕ) → 0 < times_in fs g → (p : Owner) (e : Ends) → ends_at h p ≡ Some e → times_in (listed (links_of h) e) g ≡ 0

-- an empty list
listed-none : (links : Links) → listed links (ends_of []) ≡ []
unfolding listed
listed-none links = refl

module _ (old : Held) (v : ℕ) (vm : VmSlot) (at : vm_at old v ≡ Some vm) where
  abbrev pub fs : List ℕ
  fs = listed (links_of old) vm.slot.frames

  -- the slot is empty
  abbrev pub reset : Held
  reset = with_vm old v (empty_vm vm.capacity)

  -- the slot's frames are scrubbed
  abbrev pub emptied : Held
  emptied = all_scrubbed reset fs

  -- the slot gives its list away first
  abbrev unlisted : Held
  unlisted = with_vm old v (with_ends vm (ends_of []))

  reset-unlisted : with_vm unlisted v (empty_vm vm.capacity) ≡ reset
  reset-unlisted = ap (λ (slots : List (Option VmSlot)). record old { vms = record { numbers = old.vms.numbers; slots = slots } })
      (set-set old.vms.slots (place_of old.vms.numbers v) (Some (with_ends vm (ends_of []))) (Some (empty_vm vm.capacity)))

  loose-reset : (config : Configuration) → IsLinked config old → AreLoose config reset fs
  loose-reset config linked =
      let owned = slot-owned old v vm linked.lists at in
      let given = vm-set old v vm (with_ends vm (ends_of [])) at in
      let moved = slot-moved old old v vm (ends_of []) fs (rest_kept old) at linked.lists (λ g none. refl) owned
      (rw (listed-none (links_of old)) (record { head = refl; tail = refl; count = refl; linked = tt }))
      (λ g some. let no : 0 < times_in [] g = rw (listed-none (links_of old)) at some in absurd (omega (arith, no))) in
      subst (λ h. AreLoose config h fs) reset-unlisted (record {
        linked = linked-vm config unlisted v (with_ends vm (ends_of [])) (empty_vm vm.capacity) (moved.linked config linked) given refl refl;
        here = λ g some. inside-held (links_of old) vm.slot.frames g (linked.lists.spelled (Vm v) vm.slot.frames (ends-here old v vm at)) some;
        absent = λ g some p e is. absent-left old old v vm (ends_of []) fs (rest_kept old) at linked.lists (λ g none. refl) owned g some (rw (listed-none (links_of old)) refl) p e
            (sym (ends-vm unlisted v (with_ends vm (ends_of [])) (empty_vm vm.capacity) given refl p) ∙ is);
      })

  pub slot-emptied : IsEmptied v old emptied
  slot-emptied =
      let only = scrubbing reset fs in
      let same : listed_frames old v ≡ fs = frames-here old v vm at in
      record {
        numbers = ap (λ (h : Held). h.numbers) only.rest;
        slots = ap (λ (h : Held). h.vms.numbers) only.rest;
        filled = ap (λ (h : Held). h.filled) only.rest;
        reserved = ap (λ (h : Held). h.is_reserved) only.rest;
        free = ap (λ (h : Held). h.free) only.rest;
        links = only.links;
        here = elim [
          | resource.Frame f ↦ only.here f
          | resource.Vm w ↦ ap (λ (h : Held). is_some (vm_at h w)) only.rest ∙ here-vm old v vm (empty_vm vm.capacity) at (resource.Vm w)
          | resource.Free ↦ ap (λ (h : Held). is_some h.free) only.rest
        ];
        owners = λ config linked f some. let mine = rw same at some in only.owners f mine ((loose-reset config linked).here f mine);
        away = λ config linked f away. elim (none-or-some (times_in fs f)) [
          | inl none ↦ only.others f none
          | inr some ↦ let no : false ≡ true = sym (ap (lacks_list old) (slot-owned old v vm linked.lists at f some) ∙ ap is_none at) ∙ away in cc
        ];
        state = λ config linked low. only.state config (loose-reset config linked).here
            ∙ ap (λ (m : State). record m { frames = scrubbed m.frames fs }) (state-vm config old v vm (empty_vm vm.capacity) at)
            ∙ (λ i. record (state_of config old) { frames = scrubbed (state_of config old).frames (sym same i); slots = set (state_of config old).slots v (unlinked_slot (empty_vm (linked.vms v vm at i)).slot (listed-none (links_of old) i)) });
        linked = λ config linked. let loose = loose-reset config linked in record {
          frames = λ f here. linked.frames f (sym (only.here f) ∙ here);
          vms = λ w there is. loose.linked.vms w there (sym (ap (λ h. vm_at h w) only.rest) ∙ is);
          lists = lists-owners (links_of reset) (links_of emptied) (ends_at reset) (ends_at emptied) (owner_at reset) (owner_at emptied) fs
              only.links (λ p. ap (λ h. ends_at h p) only.rest ∙ ends-pages reset (all_scrubbed reset fs).pages p) only.others loose.absent
              (λ f some host. let no = sym (only.owners f some (loose.here f some)) ∙ host in cc) loose.linked.lists;
          room = room-kept reset emptied (ap (λ (h : Held). h.is_reserved) only.rest) only.sparse loose.linked.room;
        };
      }
