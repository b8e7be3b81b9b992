-- Calls whose footprints share nothing do on their own parts what they do one after another.
use Rattle.std.proofs.Common.{ℕ, zero, suc, ◌≡◌, ◌≢◌, ◌<◌, ◌≤◌, ◌+◌, ◌-◌, Bool, true, false, cond, ◌||◌, List, ◌∷◌, length, Option, Some, None, refl, sym, ap, ◌∙◌, subst, arith}
use Rattle.std.specs.Option.{option_map}
use Rattle.kc_types.specs.declared.call.Call.{Call}
use Rattle.kc_types.specs.declared.owner.Owner.{Owner}
use Rattle.kc_types.specs.declared.owner.Owner.TheVariants.{Core, Host, Free, Vm}
use Rattle.kc_types.specs.declared.resource.Resource.TheVariants as resource
use Rattle.kc_model.specs.State.{State}
use Rattle.kc_model.specs.Lawful.{IsLawful}
use Rattle.kc_model.specs.Resources.{Resource, Resources, IsWithin, is_in, need}
use Rattle.kc_model.specs.Local.{AgreesOn}
use Rattle.kc_model.specs.Links.{list_of}
use Rattle.kc_model.specs.Linked.{LinkedPart, linked_part_of}
use Rattle.kc_model.specs.Footprints.{call_at, state_at}
use Rattle.kc_model.proofs.Local.Agreeing.{merged-agrees, keeps-others}
use Rattle.kc_model.proofs.Local.Parts.{need-merged}
use Rattle.kc_model.proofs.Local.LinksKept.{links-kept, needs-free, needs-slot}
use Rattle.kc_footprints.proofs.Reordered.{size-at}
use Rattle.kc_model.proofs.Lawful.LawfulTraces.{lawful-at, orderly-at, lists-all}
use Rattle.kc_vms.specs.Vm.{VmSlot, capacity_of}
use Rattle.kc_parts.specs.Parts.{Held, vm_at}
use Rattle.kc_parts.specs.Cuts.{HeldPart, held_at, IsSplit, IsJoin, either}
use Rattle.kc_parts.specs.Cuts.HeldPart.{slot_part}
use Rattle.kc_parts.specs.Restricted.{seen_part, seen_at, exists_in, has_ends, IsRestricted, IsClosed}
use Rattle.kc_parts.proofs.Rooms.{room-taken, room-rest, room-joined}
use Rattle.kc_replay.specs.Wave.{AreApart, out, IsRest}

from-need : (a b : Bool) → (a ≡ true → b ≡ true) → b ≡ false → a ≡ false
from-need true b le none = let yes = le refl in let no = rw none at yes in cc
from-need false b le none = refl

module _ (m : State) (calls : List Call) (footprints : ℕ → Resources) (is : IsLawful m) (are : AreApart m calls footprints) where
  lawful : (k : ℕ) → k ≤ length calls → IsLawful (state_at m calls k)
  lawful k le = lawful-at m calls is k le

  pub config-at : (k : ℕ) → (state_at m calls k).config ≡ m.config
  config-at k = (size-at m calls k).config

  not-in : (j k : ℕ) (r : Resource) → j < length calls → k < length calls → j ≢ k → footprints k r ≡ true → footprints j r ≡ false
  not-in j k r hj hk other e = by_test (footprints j r) refl
    where
      by_test : (b : Bool) → footprints j r ≡ b → b ≡ false
      by_test true t = absurd (are.apart j k r hj hk other t e)
      by_test false t = refl

  -- if what earlier calls of the wave leave agrees with the start on a call's footprint, the call needs the same
  needs-same : (s : State) (k : ℕ) → k < length calls → AgreesOn (footprints k) m s → (r : Resource) → need s (call_at calls k) r ≡ need m (call_at calls k) r
  needs-same s k low agrees r =
      sym (ap (λ s. need s (call_at calls k) r) (merged-agrees (footprints k) m s agrees)) ∙ need-merged (footprints k) m s (call_at calls k) (are.needs k low) r

  -- and it does agree
  mutual-agrees : (i k : ℕ) → i ≤ k → k < length calls → AgreesOn (footprints k) m (state_at m calls i)
  mutual-agrees zero k le low = record { size = size-at m calls zero; parts = λ r e. refl }
  mutual-agrees (suc i) k le low = record {
    size = size-at m calls (suc i);
    parts = λ r e.
        let before : i < length calls = omega (arith, le, low) in
        let apart : footprints i r ≡ false = not-in i k r before low (λ same. omega (arith, same, le)) e in
        keeps-others (state_at m calls i) (call_at calls i) (orderly-at m calls is i before) r
        (from-need (need (state_at m calls i) (call_at calls i) r) (footprints i r) (λ needed. are.needs i before r (sym (needs-same (state_at m calls i) i before (mutual-agrees i i (omega arith) before) r) ∙ needed)) apart)
        ∙ (mutual-agrees i k (omega (arith, le)) low).parts r e;
  }

  pub needs-at : (k : ℕ) → k < length calls → IsWithin (need (state_at m calls k) (call_at calls k)) (footprints k)
  needs-at k low r needed = are.needs k low r (sym (needs-same (state_at m calls k) k low (mutual-agrees k k (omega arith) low) r) ∙ needed)

  -- a call leaves what is not in its footprint, links too
  keeps : (k : ℕ) (r : Resource) → k < length calls → footprints k r ≡ false → linked_part_of (state_at m calls (suc k)) r ≡ linked_part_of (state_at m calls k) r
  keeps k r low none =
      links-kept (state_at m calls k) (call_at calls k) (orderly-at m calls is k low) (lists-all (state_at m calls k) (lawful k (omega (arith, low)))) r
      (from-need (need (state_at m calls k) (call_at calls k) r) (footprints k r) (needs-at k low r) none)

  -- from call i up to call i + d none touches r
  keeps-more : (d i : ℕ) (r : Resource) → d + i ≤ length calls → ((j : ℕ) → i ≤ j → j < d + i → footprints j r ≡ false) → linked_part_of (state_at m calls (d + i)) r ≡ linked_part_of (state_at m calls i) r
  keeps-more zero i r le none = let e : 0 + i ≡ i = omega arith in rw e refl
  keeps-more (suc d) i r le none =
      let e : suc d + i ≡ suc (d + i) = omega arith in
      rw e (keeps (d + i) r (omega (arith, le)) (none (d + i) (omega arith) (omega arith)) ∙ keeps-more d i r (omega (arith, le)) (λ j from below. none j from (omega (arith, below))))

  keeps-between : (i j : ℕ) (r : Resource) → i ≤ j → j ≤ length calls → ((k : ℕ) → i ≤ k → k < j → footprints k r ≡ false) → linked_part_of (state_at m calls j) r ≡ linked_part_of (state_at m calls i) r
  keeps-between i j r le within none =
      let e : (j - i) + i ≡ j = omega (arith, le) in
      subst (λ n. linked_part_of (state_at m calls n) r ≡ linked_part_of (state_at m calls i) r) e
      (keeps-more (j - i) i r (omega (arith, e, within)) (λ k from below. none k from (omega (arith, e, below))))

  -- in its footprint a call finds what was there at the start, and what it leaves there stays to the end
  finds : (k : ℕ) (r : Resource) → k < length calls → footprints k r ≡ true → linked_part_of (state_at m calls k) r ≡ linked_part_of m r
  finds k r low e = keeps-between 0 k r (omega arith) (omega (arith, low)) (λ j from below. not-in j k r (omega (arith, below, low)) low (λ same. omega (arith, same, below)) e)

  leaves : (k : ℕ) (r : Resource) → k < length calls → footprints k r ≡ true → linked_part_of (state_at m calls (length calls)) r ≡ linked_part_of (state_at m calls (suc k)) r
  leaves k r low e = keeps-between (suc k) (length calls) r low (omega arith) (λ j from below. not-in j k r below low (λ same. omega (arith, same, from)) e)

  untouched : (r : Resource) → ((k : ℕ) → k < length calls → footprints k r ≡ false) → linked_part_of (state_at m calls (length calls)) r ≡ linked_part_of m r
  untouched r none = keeps-between 0 (length calls) r (omega arith) (omega arith) (λ k from below. none k below)

  -- a footprint with a list's ends has all its frames
  pub closed-at : (k : ℕ) → k < length calls → IsClosed (state_at m calls k) (footprints k)
  closed-at k low = record {
    exist = subst (λ config. IsWithin (footprints k) (exists_in config)) (sym (config-at k)) (are.exist k low);
    lists = lists;
  }
    where
      s : State
      s = state_at m calls k

      needed : (r : Resource) → need m (call_at calls k) r ≡ true → need (state_at m calls k) (call_at calls k) r ≡ true
      needed r e = needs-same (state_at m calls k) k low (mutual-agrees k k (omega arith) low) r ∙ e

      lists : (p : Owner) (f : ℕ) → has_ends (footprints k) p ≡ true → is_in (list_of (state_at m calls k) p) f ≡ true → footprints k (resource.Frame f) ≡ true
      lists Core f ends inside = cc
      lists Host f ends inside = cc
      lists Free f ends inside = needs-at k low (resource.Frame f) (needs-free (state_at m calls k) (call_at calls k) f (needed resource.Free (are.free k low ends)) inside)
      lists (Vm v) f ends inside = needs-at k low (resource.Frame f) (needs-slot (state_at m calls k) (call_at calls k) v f (needed (resource.Vm v) (are.slots k v low ends)) inside)

  shown-split : (b : Bool) (there : Option HeldPart) → option_map seen_part (cond b there None) ≡ cond b (option_map seen_part there) None
  shown-split true there = refl
  shown-split false there = refl

  shown-rest : (b : Bool) (there : Option HeldPart) → option_map seen_part (cond b None there) ≡ cond b None (option_map seen_part there)
  shown-rest true there = refl
  shown-rest false there = refl

  step-taken : (b o e : Bool) (h t : Option LinkedPart) (l a : LinkedPart) → (b ≡ true → o ≡ false) → (b ≡ true → e ≡ true) → h ≡ cond o None (cond e (Some l) None) → t ≡ cond b h None → (b ≡ true → a ≡ l) → t ≡ cond b (Some a) None
  step-taken true o e h t l a free there is took same = took ∙ is ∙ rw (free refl, there refl) (ap Some (sym (same refl)))
  step-taken false o e h t l a free there is took same = took

  step-rest : (b o : Bool) (h t l : Option LinkedPart) → h ≡ cond o None l → t ≡ cond b None h → t ≡ cond (b || o) None l
  step-rest true o h t l is left = left
  step-rest false o h t l is left = left ∙ is

  -- a call's parts taken out of the store are those of the state before it
  pub taken : (ks : List ℕ) (k : ℕ) (h rest got : Held) → k < length calls → ((r : Resource) → footprints k r ≡ true → out footprints ks r ≡ false) → IsRest m footprints ks h → IsSplit h (footprints k) rest got → IsRestricted (state_at m calls k) (footprints k) got
  taken ks k h rest got low free left split = record {
    parts = λ r.
        step-taken (footprints k r) (out footprints ks r) (exists_in m.config r) (seen_at h r) (seen_at got r) (linked_part_of m r) (linked_part_of (state_at m calls k) r) (free r) (are.exist k low r) (left.parts r)
        (ap (option_map seen_part) (split.taken_is r) ∙ shown-split (footprints k r) (held_at h r)) (finds k r low);
    capacities = λ v vm at. left.capacities v vm (of-slot (footprints k (resource.Vm v)) (vm_at h v) (vm_at got v) vm (split.taken_is (resource.Vm v)) at) ∙ ap capacity_of (sym (config-at k));
    room = room-taken h (footprints k) rest got left.room split;
  }
    where
      of-slot : (b : Bool) (was there : Option VmSlot) (vm : VmSlot) → option_map slot_part there ≡ cond b (option_map slot_part was) None → there ≡ Some vm → was ≡ Some vm
      of-slot true None None vm split at = cc
      of-slot true (Some w) None vm split at = cc
      of-slot true None (Some t) vm split at = cc
      of-slot true (Some w) (Some t) vm split at = cc
      of-slot false was None vm split at = cc
      of-slot false was (Some t) vm split at = cc

  pub rest-left : (ks : List ℕ) (k : ℕ) (h rest got : Held) → IsRest m footprints ks h → IsSplit h (footprints k) rest got → IsRest m footprints (k ∷ ks) rest
  rest-left ks k h rest got left split = record {
    parts = λ r. step-rest (footprints k r) (out footprints ks r) (seen_at h r) (seen_at rest r) (cond (exists_in m.config r) (Some (linked_part_of m r)) None) (left.parts r) (ap (option_map seen_part) (split.rest_is r) ∙ shown-rest (footprints k r) (held_at h r));
    capacities = λ v vm at. left.capacities v vm (of-slot (footprints k (resource.Vm v)) (vm_at h v) (vm_at rest v) vm (split.rest_is (resource.Vm v)) at);
    room = room-rest h (footprints k) rest got left.room split;
  }
    where
      of-slot : (b : Bool) (was there : Option VmSlot) (vm : VmSlot) → option_map slot_part there ≡ cond b None (option_map slot_part was) → there ≡ Some vm → was ≡ Some vm
      of-slot false None None vm split at = cc
      of-slot false (Some w) None vm split at = cc
      of-slot false None (Some t) vm split at = cc
      of-slot false (Some w) (Some t) vm split at = cc
      of-slot true was None vm split at = cc
      of-slot true was (Some t) vm split at = cc

  -- when all calls are out, what is here is what they leave
  pub all-out : (ks : List ℕ) (h : Held) → ((k : ℕ) (r : Resource) → k < length calls → footprints k r ≡ true → out footprints ks r ≡ true) → IsRest m footprints ks h → IsRest (state_at m calls (length calls)) footprints ks h
  all-out ks h all left = record {
    parts = λ r. left.parts r ∙ by_out r (out footprints ks r) refl;
    capacities = λ v vm at. left.capacities v vm at ∙ ap capacity_of (sym (config-at (length calls)));
    room = left.room;
  }
    where
      end : State
      end = state_at m calls (length calls)

      by_out : (r : Resource) (b : Bool) → out footprints ks r ≡ b → cond b None (cond (exists_in m.config r) (Some (linked_part_of m r)) None) ≡ cond b None (cond (exists_in (state_at m calls (length calls)).config r) (Some (linked_part_of (state_at m calls (length calls)) r)) None)
      by_out r true e = refl
      by_out r false e =
          ap (λ part. cond (exists_in m.config r) (Some part) None) (sym (untouched r (λ k low. from-need (footprints k r) (out footprints ks r) (all k r low) e)))
          ∙ ap (λ config. cond (exists_in config r) (Some (linked_part_of (state_at m calls (length calls)) r)) None) (sym (config-at (length calls)))

  step-back : (b o e : Bool) (h f g : Option LinkedPart) (l a : LinkedPart) → (b ≡ true → o ≡ false) → (b ≡ true → e ≡ true) → h ≡ cond (b || o) None (cond e (Some l) None) → f ≡ cond b (Some a) None → (b ≡ true → l ≡ a) → g ≡ either h f → g ≡ cond o None (cond e (Some l) None)
  step-back true o e h f g l a free there is done same join = join ∙ rw (is, done, free refl, there refl) (ap Some (sym (same refl)))
  step-back false o e h f g l a free there is done same join = join ∙ rw done (either-none h) ∙ is
    where
      either-none : (o : Option LinkedPart) → either o None ≡ o
      either-none None = refl
      either-none (Some x) = refl

  shown-join : (a b : Option HeldPart) → option_map seen_part (either a b) ≡ either (option_map seen_part a) (option_map seen_part b)
  shown-join None b = refl
  shown-join (Some a) b = refl

  -- what a call left is put back
  pub back : (ks : List ℕ) (k : ℕ) (h done joined : Held) → k < length calls → ((r : Resource) → footprints k r ≡ true → out footprints ks r ≡ false)
      → IsRest (state_at m calls (length calls)) footprints (k ∷ ks) h → IsRestricted (state_at m calls (suc k)) (footprints k) done → IsJoin h done joined → IsRest (state_at m calls (length calls)) footprints ks joined
  back ks k h done joined low free left is_done join = record {
    parts = λ r.
        step-back (footprints k r) (out footprints ks r) (exists_in (state_at m calls (length calls)).config r) (seen_at h r) (seen_at done r) (seen_at joined r) (linked_part_of (state_at m calls (length calls)) r) (linked_part_of (state_at m calls (suc k)) r)
        (free r) (λ e. ap (λ config. exists_in config r) (config-at (length calls)) ∙ are.exist k low r e) (left.parts r) (is_done.parts r) (leaves k r low) (ap (option_map seen_part) (join.parts r) ∙ shown-join (held_at h r) (held_at done r));
    capacities = λ v vm at. of-slot (vm_at h v) (vm_at done v) (vm_at joined v) vm (join.parts (resource.Vm v)) at (left.capacities v vm) (λ e. is_done.capacities v vm e ∙ ap capacity_of (config-at (suc k) ∙ sym (config-at (length calls))));
    room = room-joined h done joined left.room is_done.room join;
  }
    where
      of-slot : (a b there : Option VmSlot) (vm : VmSlot) → option_map slot_part there ≡ either (option_map slot_part a) (option_map slot_part b) → there ≡ Some vm → (a ≡ Some vm → vm.capacity ≡ capacity_of (state_at m calls (length calls)).config) → (b ≡ Some vm → vm.capacity ≡ capacity_of (state_at m calls (length calls)).config) → vm.capacity ≡ capacity_of (state_at m calls (length calls)).config
      of-slot (Some a) b None vm join at first second = cc
      of-slot (Some a) b (Some t) vm join at first second = first cc
      of-slot None None None vm join at first second = cc
      of-slot None None (Some t) vm join at first second = cc
      of-slot None (Some b) None vm join at first second = cc
      of-slot None (Some b) (Some t) vm join at first second = second cc
