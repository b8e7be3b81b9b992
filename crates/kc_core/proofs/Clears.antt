-- A slot that is cleared.
use Rattle.std.proofs.Common.{ℕ, zero, suc, ◌≡◌, ◌<◌, ◌++◌, true, List, Option, Some, None, is_some, IfSome, set, refl, sym, ap, ◌∙◌, arith}
use Rattle.kc_types.specs.Configuration.{Configuration, slot_count}
use Rattle.kc_types.specs.declared.link.Ends.{Ends}
use Rattle.kc_types.specs.declared.owner.Owner.TheVariants.{Free, Vm}
use Rattle.kc_types.specs.declared.call.Call.TheVariants.{Clear}
use Rattle.kc_model.specs.State.{State, Slot, empty_slot}
use Rattle.kc_model.specs.Refusals.{refusal, conditions}
use Rattle.kc_model.specs.Effects.{cleared, scrubbed}
use Rattle.kc_model.specs.Lawful.{times_in}
use Rattle.kc_model.proofs.Refusals.Answered.{vm-in}
use Rattle.kc_vms.specs.Vm.{VmSlot}
use Rattle.kc_links.specs.Chain.{Links}
use Rattle.kc_links.specs.Ending.{listed, IsList, AreApart}
use Rattle.kc_parts.specs.Parts.{Held, vm_at, links_of}
use Rattle.kc_parts.specs.States.{list_in, state_of, owner_at, free_of, listed_frames, IsLinked, IsFreeMove}
use Rattle.kc_parts.specs.Emptying.{IsEmptied}
use Rattle.kc_parts.proofs.SlotLists.{frames-here, ends-here, slot-owned}
use Rattle.kc_parts.proofs.Looked.{slot-is}
use Rattle.kc_model.proofs.Refusals.Served.{none-of}

pub clear-served : (m : State) (v : ℕ) → refusal m (Clear v) ≡ None → v < slot_count m.config
clear-served m v served = vm-in m v (none-of (conditions m (Clear v)) served 0)

-- a slot that is here
pub record IsThere (at : Option VmSlot) : Type 0 where
  pub vm : VmSlot
  pub is : at ≡ Some vm

pub the-slot : (at : Option VmSlot) → is_some at ≡ true → IsThere at
the-slot (Some vm) some = record { vm = vm; is = refl }
the-slot None some = cc

-- a slot that was here has been emptied, and this is the list that it had
pub record IsClearing (config : Configuration) (old mid : Held) (v : ℕ) (list : Ends) : Type 0 where
  pub linked : IsLinked config old
  pub low : v < slot_count config
  pub there : IsThere (vm_at old v)
  pub emptied : IsEmptied v old mid
  pub had : IfSome (vm_at old v) (λ slot. list ≡ slot.slot.frames)

module _ (config : Configuration) (old mid : Held) (v : ℕ) (list : Ends) (is : IsClearing config old mid v list) where
  ends_are : list ≡ is.there.vm.slot.frames
  ends_are = rw is.there.is at is.had

  -- the links spell the list as before
  listed-kept : listed (links_of mid) list ≡ listed_frames old v
  listed-kept = ap (λ (links : Links). listed links list) is.emptied.links ∙ ap (λ ends. listed (links_of old) ends) ends_are ∙ sym (frames-here old v is.there.vm is.there.is)

  free-kept : free_of mid ≡ free_of old
  free-kept = ap (λ free. list_in (links_of mid) free) is.emptied.free ∙ ap (λ links. list_in links old.free) is.emptied.links

  pub list-cleared : IsList (links_of mid) list
  list-cleared = rw (is.emptied.links, ends_are) (is.linked.lists.spelled (Vm v) is.there.vm.slot.frames (ends-here old v is.there.vm is.there.is))

  pub owned-cleared : (f : ℕ) → 0 < times_in (listed (links_of mid) list) f → owner_at mid f ≡ Free
  owned-cleared f some = is.emptied.owners config is.linked f (rw listed-kept at some)

  -- no free frame is in the list of a slot
  free-owned : (f : ℕ) → 0 < times_in (free_of old) f → owner_at old f ≡ Free
  free-owned f some = by_ends old.free refl some
    where
      by_ends : (free : Option Ends) → old.free ≡ free → 0 < times_in (list_in (links_of old) free) f → owner_at old f ≡ Free
      by_ends None here some = absurd (omega (arith, some))
      by_ends (Some ends) here some = is.linked.lists.owned Free ends f here some

  pub apart-cleared : AreApart (free_of mid) (listed (links_of mid) list)
  apart-cleared f some = by_count (times_in (listed (links_of mid) list) f) refl
    where
      by_count : (n : ℕ) → times_in (listed (links_of mid) list) f ≡ n → n ≡ 0
      by_count zero count = refl
      by_count (suc n) count =
          let free : owner_at old f ≡ Free = free-owned f (rw free-kept at some) in
          let inside : 0 < times_in (listed (links_of old) is.there.vm.slot.frames) f = rw (← frames-here old v is.there.vm is.there.is, ← listed-kept, count) (omega arith) in
          let mine : owner_at old f ≡ Vm v = slot-owned old v is.there.vm is.linked.lists is.there.is f inside in
          let both = sym free ∙ mine in cc

  pub state-cleared : (new : Held) → IsFreeMove mid new → free_of new ≡ free_of mid ++ listed (links_of mid) list → state_of config new ≡ cleared (state_of config old) v
  state-cleared new move free =
      let m : State = state_of config old in
      move.state config
      ∙ ap (λ (s : State). record s { free = free_of new }) (is.emptied.state config is.linked is.low)
      ∙ ap (λ fs. record (cleared_with m (listed_frames old v)) { free = fs }) (free ∙ ap (λ fs. fs ++ listed (links_of mid) list) free-kept ∙ ap (λ fs. free_of old ++ fs) listed-kept)
      ∙ ap (λ fs. record (cleared_with m fs) { free = m.free ++ fs }) (frames-here old v is.there.vm is.there.is ∙ sym (ap (λ (slot : Slot). slot.frames) (slot-is config old v is.there.vm is.low is.there.is)))
    where
      cleared_with : State → List ℕ → State
      cleared_with m fs = record m { frames = scrubbed m.frames fs; slots = set m.slots v (empty_slot config.version) }
