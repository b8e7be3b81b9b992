-- Parts that are a state's are linked, and are seen as what is cut from the state.
use Rattle.std.proofs.Common.{ℕ, zero, suc, ◌≡◌, ◌<◌, ◌≤◌, ◌+◌, Bool, true, false, cond, List, [], ◌∷◌, length, map, get_or, Option, Some, None, is_some, refl, sym, ap, ◌∙◌, subst, arith}
use Rattle.std.specs.List.{range_with_len}
use Rattle.std.specs.Option.{option_map}
use Rattle.std.proofs.lemmas.Bool.{lt-ltb, ltb-true}
use Rattle.std.proofs.lemmas.Option.{same_Some}
use Rattle.kc_types.specs.Limits.{frame_limit}
use Rattle.kc_model.proofs.States.Configurations.{few-frames}
use Rattle.kc_types.specs.Configuration.{slot_count}
use Rattle.kc_types.specs.declared.link.Ends.{Ends}
use Rattle.kc_types.specs.declared.link.Link.{Link}
use Rattle.kc_types.specs.declared.owner.Owner.{Owner}
use Rattle.kc_types.specs.declared.owner.Owner.TheVariants.{Core, Host, Free, Vm}
use Rattle.kc_types.specs.declared.resource.Resource.TheVariants as resource
use Rattle.kc_model.specs.State.{State, Frame, frame_at, slot_at, no_slot, untouched}
use Rattle.kc_model.specs.Lawful.{IsLawful, same_owner}
use Rattle.kc_model.specs.Resources.{Resource, Resources, is_in, pick}
use Rattle.kc_model.specs.Local.{cut}
use Rattle.kc_model.specs.Links.{link_in, list_of}
use Rattle.kc_model.specs.Linked.{LinkedPart, LinkedSlot, frame_and_link, slot_and_ends, free_ends, linked_part_of, linked_slot, ends_of}
use Rattle.kc_model.proofs.States.Members.{IsOnce, held-times_in}
use Rattle.kc_model.proofs.Local.Orderly.{owned-is}
use Rattle.kc_page.specs.declared.page.Page.{Page}
use Rattle.kc_page.specs.Page.{frame_of}
use Rattle.kc_vms.specs.Vm.{VmSlot}
use Rattle.kc_links.specs.Chain.{unlinked}
use Rattle.kc_links.specs.Ending.{listed, IsList, Chain}
use Rattle.kc_links.proofs.Chains.{chain-listed, chain-is_list}
use Rattle.kc_links.proofs.Neighbours.{chain-each}
use Rattle.kc_parts.specs.Parts.{Held, page_at, vm_at, link_of, links_of, ends_at}
use Rattle.kc_parts.specs.Cuts.HeldPart.{page_part, slot_part, ends_part}
use Rattle.kc_parts.specs.States.{frame_in, slot_in, list_in, unlinked_slot, state_of, here_of, owner_at, IsLinked}
use Rattle.kc_parts.specs.Restricted.{seen_link, seen_part, seen_at, IsRestricted, has_ends, IsClosed}

-- what a part shows
abbrev pub frame_shown : LinkedPart → Frame
frame_shown (frame_and_link frame link) = frame
frame_shown _ = untouched Core

abbrev pub link_shown : LinkedPart → Link
link_shown (frame_and_link frame link) = link
link_shown _ = unlinked

abbrev pub slot_shown : LinkedPart → LinkedSlot
slot_shown (slot_and_ends slot) = slot
slot_shown _ = linked_slot no_slot

abbrev pub ends_shown : LinkedPart → Ends
ends_shown (free_ends ends) = ends
ends_shown _ = ends_of []

-- a list that has another's elements at the numbers that pass a test, and the default elsewhere
pub picked : {X : Type 0} (test : ℕ → Bool) (d : X) (xs : List X) (look : ℕ → X) (a n : ℕ) → n ≡ length xs → ((i : ℕ) → i < n → look (a + i) ≡ cond (test i) (get_or xs i d) d) → map look (range_with_len a n) ≡ pick test d xs []
picked test d [] look a zero is each = refl
picked test d [] look a (suc n) is each = absurd (omega (arith, is))
picked test d (x ∷ xs) look a zero is each = absurd (omega (arith, is))
picked test d (x ∷ xs) look a (suc n) is each =
    let first : look a ≡ cond (test 0) x d = ap look (let e : a ≡ a + 0 = omega arith in e) ∙ each 0 (omega arith) in
    rw (first, picked (λ i. test (suc i)) d xs look (a + 1) n (omega (arith, is)) (λ i low. ap look (let e : a + 1 + i ≡ a + suc i = omega arith in e) ∙ each (suc i) (omega (arith, low)))) refl

-- what is there shows what should be shown
pub record IsShown {A : Type 0} (part : A → LinkedPart) (there : Option A) (shown : LinkedPart) : Type 0 where
  pub it : A
  pub is : there ≡ Some it
  pub same : part it ≡ shown

module _ (m : State) (here : Resources) (h : Held) (is : IsLawful m) (closed : IsClosed m here) (cut_is : IsRestricted m here h) where
  by-here : (r : Resource) (b : Bool) → here r ≡ b → seen_at h r ≡ cond b (Some (linked_part_of m r)) None
  by-here r b e = cut_is.parts r ∙ ap (λ b. cond b (Some (linked_part_of m r)) None) e

  -- the page of a frame among the resources
  abbrev pub PageOf : ℕ → Type 0
  PageOf f = IsShown (λ page. frame_and_link (frame_of page) (seen_link page.meta.owner (link_of page))) (page_at h f) (linked_part_of m (resource.Frame f))

  pub page-shown : (f : ℕ) → here (resource.Frame f) ≡ true → PageOf f
  page-shown f e = of (page_at h f) (by-here (resource.Frame f) true e)
    where
      of : (there : Option Page) → option_map seen_part (option_map page_part there) ≡ Some (linked_part_of m (resource.Frame f)) → IsShown (λ page. frame_and_link (frame_of page) (seen_link page.meta.owner (link_of page))) there (linked_part_of m (resource.Frame f))
      of None e = cc
      of (Some page) e = record { it = page; is = refl; same = same_Some (frame_and_link (frame_of page) (seen_link page.meta.owner (link_of page))) (linked_part_of m (resource.Frame f)) e }

  pub page-none : (f : ℕ) → here (resource.Frame f) ≡ false → page_at h f ≡ None
  page-none f e = of (page_at h f) (by-here (resource.Frame f) false e)
    where
      of : (there : Option Page) → option_map seen_part (option_map page_part there) ≡ None → there ≡ None
      of None e = refl
      of (Some page) e = cc

  pub vm-shown : (v : ℕ) → here (resource.Vm v) ≡ true → IsShown (λ (vm : VmSlot). slot_and_ends vm.slot) (vm_at h v) (linked_part_of m (resource.Vm v))
  vm-shown v e = of (vm_at h v) (by-here (resource.Vm v) true e)
    where
      of : (there : Option VmSlot) → option_map seen_part (option_map slot_part there) ≡ Some (linked_part_of m (resource.Vm v)) → IsShown (λ (vm : VmSlot). slot_and_ends vm.slot) there (linked_part_of m (resource.Vm v))
      of None e = cc
      of (Some vm) e = record { it = vm; is = refl; same = same_Some (slot_and_ends vm.slot) (linked_part_of m (resource.Vm v)) e }

  pub vm-none : (v : ℕ) → here (resource.Vm v) ≡ false → vm_at h v ≡ None
  vm-none v e = of (vm_at h v) (by-here (resource.Vm v) false e)
    where
      of : (there : Option VmSlot) → option_map seen_part (option_map slot_part there) ≡ None → there ≡ None
      of None e = refl
      of (Some vm) e = cc

  pub free-shown : here resource.Free ≡ true → h.free ≡ Some (ends_of m.free)
  free-shown e = of h.free (by-here resource.Free true e)
    where
      of : (there : Option Ends) → option_map seen_part (option_map ends_part there) ≡ Some (free_ends (ends_of m.free)) → there ≡ Some (ends_of m.free)
      of None e = cc
      of (Some ends) e = ap (λ part. Some (ends_shown part)) (same_Some (free_ends ends) (free_ends (ends_of m.free)) e)

  pub free-none : here resource.Free ≡ false → h.free ≡ None
  free-none e = of h.free (by-here resource.Free false e)
    where
      of : (there : Option Ends) → option_map seen_part (option_map ends_part there) ≡ None → there ≡ None
      of None e = refl
      of (Some ends) e = cc

  -- what is here is what the resources say
  pub here-is : (r : Resource) → here_of h r ≡ here r
  here-is (resource.Frame f) = by_test (here (resource.Frame f)) refl
    where
      by_test : (b : Bool) → here (resource.Frame f) ≡ b → is_some (page_at h f) ≡ b
      by_test true e = ap is_some (page-shown f e).is
      by_test false e = ap is_some (page-none f e)
  here-is (resource.Vm v) = by_test (here (resource.Vm v)) refl
    where
      by_test : (b : Bool) → here (resource.Vm v) ≡ b → is_some (vm_at h v) ≡ b
      by_test true e = ap is_some (vm-shown v e).is
      by_test false e = ap is_some (vm-none v e)
  here-is resource.Free = by_test (here resource.Free) refl
    where
      by_test : (b : Bool) → here resource.Free ≡ b → is_some h.free ≡ b
      by_test true e = ap is_some (free-shown e)
      by_test false e = ap is_some (free-none e)

  frame-low : (f : ℕ) → here (resource.Frame f) ≡ true → f < m.config.frames
  frame-low f e = ltb-true f m.config.frames (closed.exist (resource.Frame f) e)

  pub owner-is : (f : ℕ) → here (resource.Frame f) ≡ true → owner_at h f ≡ (frame_at m f).owner
  owner-is f e = let page = page-shown f e in ap (λ there. (frame_in there).owner) page.is ∙ ap (λ part. (frame_shown part).owner) page.same

  pub link-is : (f : ℕ) (e : here (resource.Frame f) ≡ true) → links_of h f ≡ Some (link_of (page-shown f e).it)
  link-is f e = let few = few-frames m.config is.config in let low = frame-low f e in rw (lt-ltb f frame_limit (omega (arith, low, few)), (page-shown f e).is) refl

  list-link : (p : Owner) → has_ends here p ≡ true → (f : ℕ) → is_in (list_of m p) f ≡ true → links_of h f ≡ Some (link_in (list_of m p) f)
  list-link p ends f listed =
      let e : here (resource.Frame f) ≡ true = closed.lists p f ends listed in
      let page = page-shown f e in
      let own : (frame_at m f).owner ≡ p = owned-is m is p f listed in
      let mine : page.it.meta.owner ≡ p = ap (λ part. (frame_shown part).owner) page.same ∙ own in
      link-is f e ∙ ap Some (not-core p ends page.it.meta.owner (link_of page.it) mine ∙ ap link_shown page.same ∙ ap (λ o. link_in (list_of m o) f) own)
    where
      not-core : (p : Owner) → has_ends here p ≡ true → (o : Owner) (link : Link) → o ≡ p → link ≡ seen_link o link
      not-core Core ends o link same = cc
      not-core Host ends o link same = cc
      not-core Free ends o link same = rw same refl
      not-core (Vm v) ends o link same = rw same refl

  once-list : (p : Owner) → has_ends here p ≡ true → IsOnce (list_of m p)
  once-list Core ends f = cc
  once-list Host ends f = cc
  once-list Free ends f = rw (is.free f) (low (same_owner (frame_at m f).owner Free))
    where
      low : (b : Bool) → cond b 1 0 ≤ 1
      low true = omega arith
      low false = omega arith
  once-list (Vm v) ends f = rw (is.listed v (ltb-true v (slot_count m.config) (closed.exist (resource.Vm v) ends)) f) (low (same_owner (frame_at m f).owner (Vm v)))
    where
      low : (b : Bool) → cond b 1 0 ≤ 1
      low true = omega arith
      low false = omega arith

  -- each list whose ends are here is linked
  pub list-chain : (p : Owner) → has_ends here p ≡ true → Chain (links_of h) (ends_of (list_of m p)) (list_of m p)
  list-chain p ends = chain-each (links_of h) (list_of m p) (once-list p ends) (λ f some. list-link p ends f (held-times_in (list_of m p) f some))

  -- the ends of a list that is here
  pub ends-are : (p : Owner) (ends : Ends) → ends_at h p ≡ Some ends → (has_ends here p ≡ true) × (ends ≡ ends_of (list_of m p))
  ends-are Core ends e = cc
  ends-are Host ends e = cc
  ends-are Free ends e = by_test (here resource.Free) refl
    where
      by_test : (b : Bool) → here resource.Free ≡ b → (here resource.Free ≡ true) × (ends ≡ ends_of m.free)
      by_test true t = (t, same_Some ends (ends_of m.free) (sym e ∙ free-shown t))
      by_test false t = let no : None ≡ Some ends = sym (free-none t) ∙ e in cc
  ends-are (Vm v) ends e = by_test (here (resource.Vm v)) refl
    where
      by_test : (b : Bool) → here (resource.Vm v) ≡ b → (here (resource.Vm v) ≡ true) × (ends ≡ ends_of (slot_at m v).frames)
      by_test true t =
          let vm = vm-shown v t in
          (t, same_Some ends vm.it.slot.frames (sym e ∙ ap (option_map (λ (vm : VmSlot). vm.slot.frames)) vm.is) ∙ ap (λ part. (slot_shown part).frames) vm.same)
      by_test false t = let no : None ≡ Some ends = sym (ap (option_map (λ (vm : VmSlot). vm.slot.frames)) (vm-none v t)) ∙ e in cc

  pub listed-is : (p : Owner) (ends : Ends) → ends_at h p ≡ Some ends → listed (links_of h) ends ≡ list_of m p
  listed-is p ends e = let are = ends-are p ends e in ap (listed (links_of h)) are.1 ∙ chain-listed (links_of h) (ends_of (list_of m p)) (list_of m p) (list-chain p are.0)

  alone-host : (f : ℕ) → owner_at h f ≡ Host → links_of h f ≡ Some unlinked
  alone-host f host = by_test (here (resource.Frame f)) refl
    where
      by_test : (b : Bool) → here (resource.Frame f) ≡ b → links_of h f ≡ Some unlinked
      by_test false e = let core : Core ≡ Host = sym (ap (λ there. (frame_in there).owner) (page-none f e)) ∙ host in cc
      by_test true e =
          let page = page-shown f e in
          let own : (frame_at m f).owner ≡ Host = sym (owner-is f e) ∙ host in
          let mine : page.it.meta.owner ≡ Host = ap (λ part. (frame_shown part).owner) page.same ∙ own in
          link-is f e ∙ ap Some (sym (ap (λ o. seen_link o (link_of page.it)) mine) ∙ ap link_shown page.same ∙ ap (λ o. link_in (list_of m o) f) own)

  -- the parts are linked
  pub linked-cut : IsLinked m.config h
  linked-cut = record {
    frames = λ f some. frame-low f (sym (here-is (resource.Frame f)) ∙ some);
    vms = cut_is.capacities;
    lists = record {
      spelled = λ p ends e. let are = ends-are p ends e in subst (λ x. IsList (links_of h) x) (sym are.1) (chain-is_list (links_of h) (ends_of (list_of m p)) (list_of m p) (list-chain p are.0));
      owned = λ p ends f e some.
          let listed : is_in (list_of m p) f ≡ true = held-times_in (list_of m p) f (rw (listed-is p ends e) at some) in
          let there : here (resource.Frame f) ≡ true = closed.lists p f (ends-are p ends e).0 listed in
          owner-is f there ∙ owned-is m is p f listed;
      alone = alone-host;
    };
    room = cut_is.room;
  }

  frame-cut : (f : ℕ) → frame_in (page_at h f) ≡ cond (here (resource.Frame f)) (frame_at m f) (untouched Core)
  frame-cut f = by_test (here (resource.Frame f)) refl
    where
      by_test : (b : Bool) → here (resource.Frame f) ≡ b → frame_in (page_at h f) ≡ cond b (frame_at m f) (untouched Core)
      by_test true e = let page = page-shown f e in ap frame_in page.is ∙ ap frame_shown page.same
      by_test false e = ap frame_in (page-none f e)

  slot-cut : (v : ℕ) → slot_in (links_of h) (vm_at h v) ≡ cond (here (resource.Vm v)) (slot_at m v) no_slot
  slot-cut v = by_test (here (resource.Vm v)) refl
    where
      by_test : (b : Bool) → here (resource.Vm v) ≡ b → slot_in (links_of h) (vm_at h v) ≡ cond b (slot_at m v) no_slot
      by_test true e =
          let vm = vm-shown v e in
          let same : vm.it.slot ≡ linked_slot (slot_at m v) = ap slot_shown vm.same in
          ap (slot_in (links_of h)) vm.is
          ∙ ap (unlinked_slot vm.it.slot) (listed-is (Vm v) vm.it.slot.frames (ap (option_map (λ (vm : VmSlot). vm.slot.frames)) vm.is))
          ∙ ap (λ slot. unlinked_slot slot (slot_at m v).frames) same
      by_test false e = ap (slot_in (links_of h)) (vm-none v e)

  free-cut : list_in (links_of h) h.free ≡ cond (here resource.Free) m.free []
  free-cut = by_test (here resource.Free) refl
    where
      by_test : (b : Bool) → here resource.Free ≡ b → list_in (links_of h) h.free ≡ cond b m.free []
      by_test true e = ap (list_in (links_of h)) (free-shown e) ∙ listed-is Free (ends_of m.free) (free-shown e)
      by_test false e = ap (list_in (links_of h)) (free-none e)

  -- they are seen as the state at the resources
  pub state-cut : state_of m.config h ≡ cut m here
  state-cut = λ i. record {
    config = m.config;
    frames = picked (λ f. here (resource.Frame f)) (untouched Core) m.frames (λ f. frame_in (page_at h f)) 0 m.config.frames (sym is.frames) (λ f low. let same : 0 + f ≡ f = omega arith in ap (λ g. frame_in (page_at h g)) same ∙ frame-cut f) i;
    free = free-cut i;
    slots = picked (λ v. here (resource.Vm v)) no_slot m.slots (λ v. slot_in (links_of h) (vm_at h v)) 0 (slot_count m.config) (sym is.slots) (λ v low. let same : 0 + v ≡ v = omega arith in ap (λ w. slot_in (links_of h) (vm_at h w)) same ∙ slot-cut v) i;
  }
