-- A call on parts that are a state's leaves parts that are the next state's.
use Rattle.std.proofs.Common.{ℕ, ◌≡◌, ◌<◌, Bool, true, false, cond, [], Option, Some, None, is_some, is_none, IsSome, refl, sym, ap, ◌∙◌, subst, arith}
use Rattle.std.specs.Option.{option_map}
use Rattle.std.proofs.lemmas.Bool.{lt-ltb, ltb-true}
use Rattle.std.proofs.lemmas.Option.{same_Some}
use Rattle.kc_types.specs.Limits.{frame_limit}
use Rattle.kc_model.proofs.States.Configurations.{few-frames}
use Rattle.kc_types.specs.Configuration.{slot_count}
use Rattle.kc_types.specs.declared.call.Call.{Call}
use Rattle.kc_types.specs.declared.link.Ends.{Ends}
use Rattle.kc_types.specs.declared.link.Link.{Link}
use Rattle.kc_types.specs.declared.owner.Owner.{Owner}
use Rattle.kc_types.specs.declared.owner.Owner.TheVariants.{Core, Host, Free, Vm}
use Rattle.kc_types.specs.declared.reply.Reply.{Reply}
use Rattle.kc_types.specs.declared.resource.Resource.TheVariants as resource
use Rattle.kc_model.specs.State.{State, Frame, Slot, frame_at, slot_at}
use Rattle.kc_model.specs.Lawful.{IsLawful, times_in}
use Rattle.kc_model.specs.Next.{next}
use Rattle.kc_model.specs.Resources.{Resource, Resources, IsWithin, is_in, need}
use Rattle.kc_model.specs.Local.{IsOrderly, cut}
use Rattle.kc_model.specs.Links.{link_in, link_at, list_of}
use Rattle.kc_model.specs.Linked.{frame_and_link, slot_and_ends, free_ends, linked_part_of, linked_slot, ends_of}
use Rattle.kc_model.proofs.Local.Merges.{frame-merged, slot-merged, free-merged}
use Rattle.kc_model.proofs.States.Members.{times_in-held}
use Rattle.kc_model.proofs.States.Sizes.{sized-next}
use Rattle.kc_model.proofs.Lawful.Keeps.{lawful-next}
use Rattle.kc_model.proofs.Local.Parts.{orderly-cut, need-merged}
use Rattle.kc_model.proofs.Local.Agreeing.{on-parts, keeps-others, slot_of_part, free_of_part}
use Rattle.kc_model.proofs.Local.Orderly.{owned-is}
use Rattle.kc_model.proofs.Lawful.LawfulTraces.{orderly-is, lists-all}
use Rattle.kc_page.specs.declared.page.Page.{Page}
use Rattle.kc_page.specs.Page.{frame_of}
use Rattle.kc_vms.specs.Vm.{capacity_of, VmSlot}
use Rattle.kc_links.specs.Chain.{unlinked}
use Rattle.kc_links.specs.Ending.{listed}
use Rattle.kc_links.proofs.Linked.{linked-holds}
use Rattle.kc_links.proofs.Neighbours.{link_in-linked, chain-ends}
use Rattle.kc_parts.specs.Cuts.HeldPart.{page_part, slot_part, ends_part}
use Rattle.kc_parts.specs.Parts.{Held, page_at, vm_at, link_of, links_of, ends_at}
use Rattle.kc_parts.specs.States.{frame_in, slot_in, list_in, unlinked_slot, state_of, here_of, owner_at, lacks_list, is_away}
use Rattle.kc_parts.proofs.Seen.{frame-seen, slot-seen}
use Rattle.kc_parts.proofs.Linked.{held-here}
use Rattle.kc_core.specs.Applying.{IsAble, IsAnswer}
use Rattle.kc_parts.specs.Restricted.{seen_link, seen_part, seen_at, exists_in, IsRestricted, has_ends, IsClosed}
use Rattle.kc_parts.proofs.Restricting.{frame_shown, link_shown, page-shown, vm-none, free-none, here-is, owner-is, link-is, linked-cut, state-cut}

-- a call can be made on them
pub able-cut : (m : State) (here : Resources) (h : Held) (call : Call) → IsLawful m → IsClosed m here → IsRestricted m here h → IsWithin (need m call) here → IsAble m.config h call
able-cut m here h call is closed cut_is within = record {
  orderly = subst IsOrderly (sym (state-cut m here h is closed cut_is)) (orderly-cut m here (orderly-is m is));
  linked = linked-cut m here h is closed cut_is;
  here = λ r needed.
      here-is m here h is closed cut_is r
      ∙ within r (sym (need-merged here m (record { config = m.config; frames = []; free = []; slots = [] }) call within r) ∙ sym (ap (λ s. need s call r) (state-cut m here h is closed cut_is)) ∙ needed);
}

module _ (m : State) (here : Resources) (old new : Held) (call : Call) (reply : Reply) (is : IsLawful m) (closed : IsClosed m here) (cut_is : IsRestricted m here old)
    (within : IsWithin (need m call) here) (answer : IsAnswer m.config old new call reply) where
  abbrev pub after : State
  after = (next m call).1

  lawful-after : IsLawful after
  lawful-after = lawful-next m call is

  orderly-m : IsOrderly m
  orderly-m = orderly-is m is

  config-after : after.config ≡ m.config
  config-after = (sized-next m call).config

  both : (reply ≡ (next m call).0) × (state_of m.config new ≡ cut after here)
  both = on-parts (state_of m.config old) (state_of m.config new) call reply answer.reply answer.state here m (record { config = m.config; frames = []; free = []; slots = [] }) orderly-m within (state-cut m here old is closed cut_is)

  pub reply-is : reply ≡ (next m call).0
  reply-is = both.0

  here-new : (r : Resource) → here_of new r ≡ here r
  here-new r = answer.places.here r ∙ here-is m here old is closed cut_is r

  frame-low : (f : ℕ) → here (resource.Frame f) ≡ true → f < m.config.frames
  frame-low f e = ltb-true f m.config.frames (closed.exist (resource.Frame f) e)

  vm-low : (v : ℕ) → here (resource.Vm v) ≡ true → v < slot_count m.config
  vm-low v e = ltb-true v (slot_count m.config) (closed.exist (resource.Vm v) e)

  frame-new : (f : ℕ) (page : Page) → here (resource.Frame f) ≡ true → page_at new f ≡ Some page → frame_of page ≡ frame_at after f
  frame-new f page e at =
      ap frame_in (sym at) ∙ sym (frame-seen m.config new f (frame-low f e)) ∙ ap (λ s. frame_at s f) both.1
      ∙ frame-merged here after (record { config = after.config; frames = []; free = []; slots = [] }) f (λ low. e)

  slot-new : (v : ℕ) (vm : VmSlot) → here (resource.Vm v) ≡ true → vm_at new v ≡ Some vm → unlinked_slot vm.slot (listed (links_of new) vm.slot.frames) ≡ slot_at after v
  slot-new v vm e at =
      ap (slot_in (links_of new)) (sym at) ∙ sym (slot-seen m.config new v (vm-low v e)) ∙ ap (λ s. slot_at s v) both.1
      ∙ slot-merged here after (record { config = after.config; frames = []; free = []; slots = [] }) v (λ low. e)

  free-new : (ends : Ends) → here resource.Free ≡ true → new.free ≡ Some ends → listed (links_of new) ends ≡ after.free
  free-new ends e at =
      ap (list_in (links_of new)) (sym at) ∙ ap (λ (s : State). s.free) both.1
      ∙ free-merged here after (record { config = after.config; frames = []; free = []; slots = [] }) e

  -- the list of an owner whose ends are here, and its ends
  list-new : (p : Owner) → has_ends here p ≡ true → (ends : Ends) × (ends_at new p ≡ Some ends) × (listed (links_of new) ends ≡ list_of after p)
  list-new Core e = cc
  list-new Host e = cc
  list-new Free e = by_free new.free refl
    where
      by_free : (there : Option Ends) → new.free ≡ there → (ends : Ends) × (new.free ≡ Some ends) × (listed (links_of new) ends ≡ after.free)
      by_free None at = let some : is_some new.free ≡ true = here-new resource.Free ∙ e in let no = rw at at some in cc
      by_free (Some ends) at = (ends, at, free-new ends e at)
  list-new (Vm v) e = by_vm (vm_at new v) refl
    where
      by_vm : (there : Option VmSlot) → vm_at new v ≡ there → (ends : Ends) × (ends_at new (Vm v) ≡ Some ends) × (listed (links_of new) ends ≡ (slot_at after v).frames)
      by_vm None at = let some : is_some (vm_at new v) ≡ true = here-new (resource.Vm v) ∙ e in let no = rw at at some in cc
      by_vm (Some vm) at = (vm.slot.frames, ap (option_map (λ (vm : VmSlot). vm.slot.frames)) at, ap (λ (s : Slot). s.frames) (slot-new v vm e at))

  -- if the ends of a list are here, so still are all its frames
  pub closed-after : IsClosed after here
  closed-after = record {
    exist = subst (λ config. IsWithin here (exists_in config)) (sym config-after) closed.exist;
    lists = λ p f e listed_in.
        let list = list-new p e in
        let some : 0 < times_in (listed (links_of new) list.0) f = rw list.2 (times_in-held (list_of after p) f listed_in) in
        let held : IsSome (links_of new f) = linked-holds (links_of new) None (listed (links_of new) list.0) None f (answer.linked.lists.spelled p list.0 list.1).linked some in
        sym (here-new (resource.Frame f)) ∙ linked-here f (page_at new f) refl held;
  }
    where
      linked-here : (f : ℕ) (there : Option Page) → page_at new f ≡ there → IsSome (links_of new f) → is_some there ≡ true
      linked-here f (Some page) at held = refl
      linked-here f None at held = absurd (held-here new f held at)

  link-new : (f : ℕ) (page : Page) → here (resource.Frame f) ≡ true → page_at new f ≡ Some page → links_of new f ≡ Some (link_of page)
  link-new f page e at = let few = few-frames m.config is.config in let low = frame-low f e in rw (lt-ltb f frame_limit (omega (arith, low, few)), at) refl

  -- if the ends of its list are elsewhere, the frame's link stays, and the list too
  away-link : (p : Owner) (f : ℕ) (page : Page) → has_ends here p ≡ false → here (resource.Frame f) ≡ true → page_at new f ≡ Some page
      → (owner-old : (frame_at m f).owner ≡ p) → lacks_list old p ≡ true → list_of after p ≡ list_of m p → ((link : Link) → seen_link p link ≡ link) → link_of page ≡ link_in (list_of after p) f
  away-link p f page none e at owner-old lacks same listed-p =
      let there = page-shown m here old is closed cut_is f e in
      let own : owner_at old f ≡ p = owner-is m here old is closed cut_is f e ∙ owner-old in
      let away : is_away old f ≡ true = ap (lacks_list old) own ∙ lacks in
      let kept : links_of new f ≡ links_of old f = (answer.places.away f away).1 in
      let mine : there.it.meta.owner ≡ p = ap (λ part. (frame_shown part).owner) there.same ∙ owner-old in
      same_Some (link_of page) (link_of there.it) (sym (link-new f page e at) ∙ kept ∙ link-is m here old is closed cut_is f e)
      ∙ sym (listed-p (link_of there.it)) ∙ sym (ap (λ o. seen_link o (link_of there.it)) mine) ∙ ap link_shown there.same
      ∙ ap (λ o. link_in (list_of m o) f) owner-old ∙ ap (λ fs. link_in fs f) (sym same)

  -- if they are here, the link is the list's
  here-link : (p : Owner) (f : ℕ) (page : Page) → has_ends here p ≡ true → here (resource.Frame f) ≡ true → page_at new f ≡ Some page → is_in (list_of after p) f ≡ true → link_of page ≡ link_in (list_of after p) f
  here-link p f page ends e at inside =
      let list = list-new p ends in
      let some : 0 < times_in (listed (links_of new) list.0) f = rw list.2 (times_in-held (list_of after p) f inside) in
      same_Some (link_of page) (link_in (listed (links_of new) list.0) f)
      (sym (link-new f page e at) ∙ link_in-linked (links_of new) None (listed (links_of new) list.0) f (answer.linked.lists.spelled p list.0 list.1).linked some)
      ∙ ap (λ fs. link_in fs f) list.2

  not-needed : (r : Resource) → here r ≡ false → need m call r ≡ false
  not-needed r e = by_need (need m call r) refl
    where
      by_need : (b : Bool) → need m call r ≡ b → b ≡ false
      by_need false n = refl
      by_need true n = let yes = within r n in let no = rw e at yes in cc

  link-after : (f : ℕ) (page : Page) → here (resource.Frame f) ≡ true → page_at new f ≡ Some page → (p : Owner) → (frame_at after f).owner ≡ p → seen_link p (link_of page) ≡ link_in (list_of after p) f
  link-after f page e at Core own = refl
  link-after f page e at Host own =
      let host : owner_at new f ≡ Host = ap (λ there. (frame_in there).owner) at ∙ ap (λ (x : Frame). x.owner) (frame-new f page e at) ∙ own in
      same_Some (link_of page) unlinked (sym (link-new f page e at) ∙ answer.linked.lists.alone f host)
  link-after f page e at Free own = by_ends (here resource.Free) refl
    where
      inside : is_in after.free f ≡ true
      inside = (lists-all after lawful-after).free f own

      by_ends : (b : Bool) → here resource.Free ≡ b → link_of page ≡ link_in after.free f
      by_ends true t = here-link Free f page t e at inside
      by_ends false t =
          let same : after.free ≡ m.free = ap free_of_part (keeps-others m call orderly-m resource.Free (not-needed resource.Free t)) in
          let before : is_in m.free f ≡ true = rw same at inside in
          away-link Free f page t e at (owned-is m is Free f before) (ap is_none (free-none m here old is closed cut_is t)) same (λ link. refl)
  link-after f page e at (Vm v) own = by_ends (here (resource.Vm v)) refl
    where
      low : v < slot_count m.config
      low = subst (λ config. v < slot_count config) config-after ((lawful-after.each_frame f (rw lawful-after.frames (subst (λ config. f < config.frames) (sym config-after) (frame-low f e)))).slot v own)

      inside : is_in (slot_at after v).frames f ≡ true
      inside = (lists-all after lawful-after).slots v f (subst (λ config. v < slot_count config) (sym config-after) low) own

      by_ends : (b : Bool) → here (resource.Vm v) ≡ b → link_of page ≡ link_in (slot_at after v).frames f
      by_ends true t = here-link (Vm v) f page t e at inside
      by_ends false t =
          let same : (slot_at after v).frames ≡ (slot_at m v).frames = ap (λ (s : Slot). s.frames) (ap slot_of_part (keeps-others m call orderly-m (resource.Vm v) (not-needed (resource.Vm v) t))) in
          let before : is_in (slot_at m v).frames f ≡ true = rw same at inside in
          away-link (Vm v) f page t e at (owned-is m is (Vm v) f before) (ap is_none (vm-none m here old is closed cut_is v t)) same (λ link. refl)

  -- the parts that are left are those of the next state
  pub restricted-after : IsRestricted after here new
  restricted-after = record {
    parts = parts;
    capacities = λ v vm at. answer.linked.vms v vm at ∙ ap capacity_of (sym config-after);
    room = answer.linked.room;
  }
    where
      parts : (r : Resource) → seen_at new r ≡ cond (here r) (Some (linked_part_of after r)) None
      parts (resource.Frame f) = by_test (here (resource.Frame f)) refl (page_at new f) refl
        where
          by_test : (b : Bool) → here (resource.Frame f) ≡ b → (there : Option Page) → page_at new f ≡ there → option_map seen_part (option_map page_part there) ≡ cond b (Some (linked_part_of after (resource.Frame f))) None
          by_test true e None at = let some : is_some (page_at new f) ≡ true = here-new (resource.Frame f) ∙ e in let no = rw at at some in cc
          by_test true e (Some page) at =
              let frame = frame-new f page e at in
              let link = link-after f page e at (frame_at after f).owner refl in
              ap Some (ap (λ (x : Frame). frame_and_link (frame_of page) (seen_link x.owner (link_of page))) frame ∙ ap (frame_and_link (frame_of page)) link ∙ ap (λ (x : Frame). frame_and_link x (link_at after f)) frame)
          by_test false e None at = refl
          by_test false e (Some page) at = let none : is_some (page_at new f) ≡ false = here-new (resource.Frame f) ∙ e in let no = rw at at none in cc
      parts (resource.Vm v) = by_test (here (resource.Vm v)) refl (vm_at new v) refl
        where
          by_test : (b : Bool) → here (resource.Vm v) ≡ b → (there : Option VmSlot) → vm_at new v ≡ there → option_map seen_part (option_map slot_part there) ≡ cond b (Some (linked_part_of after (resource.Vm v))) None
          by_test true e None at = let some : is_some (vm_at new v) ≡ true = here-new (resource.Vm v) ∙ e in let no = rw at at some in cc
          by_test true e (Some vm) at =
              let slot = slot-new v vm e at in
              let chain = answer.linked.lists.spelled (Vm v) vm.slot.frames (ap (option_map (λ (vm : VmSlot). vm.slot.frames)) at) in
              let ends = chain-ends (links_of new) vm.slot.frames (listed (links_of new) vm.slot.frames) chain in
              ap (λ x. Some (slot_and_ends x)) (ap (λ ends. record vm.slot { frames = ends }) ends ∙ ap linked_slot slot)
          by_test false e None at = refl
          by_test false e (Some vm) at = let none : is_some (vm_at new v) ≡ false = here-new (resource.Vm v) ∙ e in let no = rw at at none in cc
      parts resource.Free = by_test (here resource.Free) refl new.free refl
        where
          by_test : (b : Bool) → here resource.Free ≡ b → (there : Option Ends) → new.free ≡ there → option_map seen_part (option_map ends_part there) ≡ cond b (Some (linked_part_of after resource.Free)) None
          by_test true e None at = let some : is_some new.free ≡ true = here-new resource.Free ∙ e in let no = rw at at some in cc
          by_test true e (Some ends) at =
              let chain = answer.linked.lists.spelled Free ends at in
              ap (λ x. Some (free_ends x)) (chain-ends (links_of new) ends (listed (links_of new) ends) chain ∙ ap ends_of (free-new ends e at))
          by_test false e None at = refl
          by_test false e (Some ends) at = let none : is_some new.free ≡ false = here-new resource.Free ∙ e in let no = rw at at none in cc
