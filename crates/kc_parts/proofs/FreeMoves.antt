-- The free list gains a frame, or gives one away.
use Rattle.std.proofs.Common.{ℕ, ◌≡◌, ◌≢◌, ◌<◌, inl, inr, List, [], ◌∷◌, ◌++◌, Option, Some, None, is_some, is_none, IfSome, MatchOption, refl, sym, ap, ◌∙◌, arith}
use Rattle.std.specs.List.{range_with_len}
use Rattle.std.specs.Option.{option_map}
use Rattle.std.proofs.lemmas.Bool.{cases_eq}
use Rattle.kc_types.specs.Configuration.{slot_count}
use Rattle.kc_types.specs.declared.link.Ends.{Ends}
use Rattle.kc_types.specs.declared.owner.Owner.{Owner}
use Rattle.kc_types.specs.declared.owner.Owner.TheVariants.{Core, Host, Free, Vm}
use Rattle.kc_types.specs.declared.resource.Resource.{Resource}
use Rattle.kc_types.specs.declared.resource.Resource.TheVariants as resource
use Rattle.kc_model.specs.Lawful.{times_in}
use Rattle.kc_model.specs.State.{Frame}
use Rattle.kc_model.proofs.States.Members.{times_in-append}
use Rattle.kc_vms.specs.Vm.{VmSlot}
use Rattle.kc_links.specs.Chain.{unlinked}
use Rattle.kc_links.specs.Ending.{listed, IsList, KeepsOthers}
use Rattle.kc_links.proofs.Times.{times-same, times-other, once-first}
use Rattle.kc_links.proofs.Chains.{chain-once}
use Rattle.kc_parts.specs.Parts.{HeldSlots, Held, page_at, vm_at, links_of, ends_at}
use Rattle.kc_parts.specs.States.{frame_in, slot_in, owner_at, here_of, AreLists, IsLoose, IsFreeMove}
use Rattle.kc_parts.specs.Linking.{IsSameRest}
use Rattle.kc_parts.proofs.Moving.{lists-moved, lists-same}
use Rattle.kc_parts.proofs.Relinked.{frames-stay, vms-stay, here-stays, slot-stays, absent-others, away-stays}
use Rattle.kc_parts.proofs.Seen.{table-same, room-kept}

module _ (old mid : Held) (e e' : Ends) (frames : List ℕ) (rest : IsSameRest old mid) (free_is : old.free ≡ Some e) (are : AreLists (links_of old) (ends_at old) (owner_at old))
    (keeps : KeepsOthers (links_of old) (links_of mid) frames) (owned : (f : ℕ) → 0 < times_in frames f → owner_at old f ≡ Free) where
  abbrev pub moved : Held
  moved = record mid { free = Some e' }

  not_free : (v : ℕ) → Vm v ≢ Free
  not_free v is = cc

  ends-others : (p : Owner) → p ≢ Free → ends_at moved p ≡ ends_at old p
  ends-others Core other = refl
  ends-others Host other = refl
  ends-others Free other = absurd (other refl)
  ends-others (Vm v) other = ap (option_map (λ (vm : VmSlot). vm.slot.frames)) (vms-stay old mid Free frames rest are keeps owned v)

  owners-same : (f : ℕ) → owner_at moved f ≡ owner_at old f
  owners-same f = ap (λ (frame : Frame). frame.owner) (frames-stay old mid Free frames rest are keeps owned f)

  pub free-moved : IsList (links_of mid) e' → ((f : ℕ) → 0 < times_in (listed (links_of mid) e') f → 0 < times_in frames f) → IsFreeMove old moved
  free-moved list within = record {
    numbers = rest.numbers;
    slots = ap (λ (vms : HeldSlots). vms.numbers) rest.vms;
    filled = rest.filled;
    reserved = rest.reserved;
    here = here-all;
    owners = owners-same;
    away = away-stays old mid Free frames rest are keeps owned (ap is_none free_is);
    state = λ config i. record {
      config = config;
      frames = table-same (λ f. frame_in (page_at old f)) (λ f. frame_in (page_at moved f)) (range_with_len 0 config.frames) (frames-stay old mid Free frames rest are keeps owned) i;
      free = listed (links_of mid) e';
      slots = table-same (λ v. slot_in (links_of old) (vm_at old v)) (λ v. slot_in (links_of moved) (vm_at moved v)) (range_with_len 0 (slot_count config)) (λ v. ap (slot_in (links_of mid)) (vms-stay old mid Free frames rest are keeps owned v) ∙ slot-stays old mid Free frames rest are keeps owned v (not_free v)) i;
    };
    linked = λ config linked. record {
      frames = λ f here. linked.frames f (sym (here-all (resource.Frame f)) ∙ here);
      vms = λ v vm is. linked.vms v vm (sym (vms-stay old mid Free frames rest are keeps owned v) ∙ is);
      lists = lists-same (links_of mid) (links_of mid) (ends_at moved) (ends_at moved) (owner_at old) (owner_at moved) refl (λ p. refl) owners-same
          (lists-moved (links_of old) (links_of mid) (ends_at old) (ends_at moved) (owner_at old) Free frames are keeps owned e' refl ends-others (λ is. cc) list within);
      room = room-kept old moved rest.reserved rest.sparse linked.room;
    };
  }
    where
      here-all : (r : Resource) → here_of moved r ≡ here_of old r
      here-all (resource.Frame f) = here-stays old mid Free frames rest are keeps owned (resource.Frame f)
      here-all (resource.Vm v) = here-stays old mid Free frames rest are keeps owned (resource.Vm v)
      here-all resource.Free = sym (ap is_some free_is)

  -- a frame that was taken off the list is in no list
  pub loose-popped : (f : ℕ) → listed (links_of old) e ≡ f ∷ listed (links_of mid) e' → frames ≡ listed (links_of old) e → links_of mid f ≡ Some unlinked → IsLoose moved f
  loose-popped f was frames_are alone = record {
    alone = alone;
    absent = absent-from;
  }
    where
      mine : owner_at old f ≡ Free
      mine = owned f (rw (frames_are, was) (let one = times-same f (listed (links_of mid) e') in omega (arith, one)))

      absent-from : (p : Owner) (ends : Ends) → ends_at moved p ≡ Some ends → times_in (listed (links_of mid) ends) f ≡ 0
      absent-from Core ends is = cc
      absent-from Host ends is = cc
      absent-from Free ends is = let same : e' ≡ ends = ap (λ o. inner o) is in rw (← same) (once-first f (listed (links_of mid) e') (λ g. let once = chain-once (links_of old) e (listed (links_of old) e) (are.spelled Free e free_is) g in rw was at once))
        where
          inner : Option Ends → Ends
          inner (Some x) = x
          inner None = ends
      absent-from (Vm v) ends is = absent-others old mid Free frames rest are keeps owned (Vm v) ends (not_free v) (sym (ends-others (Vm v) (not_free v)) ∙ is) f mine

  pub loose-first : (r : Option ℕ) → MatchOption r ((listed (links_of old) e ≡ []) × (listed (links_of mid) e' ≡ [])) (λ f. listed (links_of old) e ≡ f ∷ listed (links_of mid) e') → frames ≡ listed (links_of old) e
      → IfSome r (λ f. links_of mid f ≡ Some unlinked) → IfSome r (IsLoose moved)
  loose-first None gave are alone = tt
  loose-first (Some f) gave are alone = loose-popped f gave are alone

-- what is left was there
pub popped-within : (old new : List ℕ) (r : Option ℕ) → MatchOption r ((old ≡ []) × (new ≡ [])) (λ f. old ≡ f ∷ new) → (g : ℕ) → 0 < times_in new g → 0 < times_in old g
popped-within old new None gave g some = rw gave.0 (rw gave.1 at some)
popped-within old new (Some f) gave g some = rw gave (omega (arith, some))

-- the frames of a list with one more frame
pub owned-appended : (owner_at : ℕ → Owner) (owner : Owner) (fs : List ℕ) (f : ℕ) → ((g : ℕ) → 0 < times_in fs g → owner_at g ≡ owner) → owner_at f ≡ owner → (g : ℕ) → 0 < times_in (fs ++ f ∷ []) g → owner_at g ≡ owner
owned-appended owner_at owner fs f owned mine g some = elim (cases_eq g f) [
  | inl same ↦ ap owner_at same ∙ mine
  | inr other ↦ let whole = times_in-append fs (f ∷ []) g in let last = times-other f [] g other in owned g (omega (arith, some, whole, last))
]
