-- Parts that a sound dump shows are those of a core.
use Rattle.std.proofs.Common.{ℕ, ◌≡◌, ◌<◌, ◌≤◌, inl, inr, Bool, true, false, ◌&&◌, cond, nat_lt, nat_le, List, [], length, get_or, Option, Some, None, is_some, All, refl, sym, ap, ◌∙◌, arith}
use Rattle.std.specs.Prelude.{◌↔◌, ◌==◌}
use Rattle.std.specs.List.{slice_get, list_all, list_any, range_with_len}
use Rattle.std.specs.Option.{option_map}
use Rattle.std.specs.FinMap as finite
use Rattle.std.proofs.lemmas.Bool.{cases_lt, lt-ltb, ltb-true, leb-true, and_parts}
use Rattle.std.proofs.lemmas.List.{get_or_past, get_or_default}
use Rattle.std.proofs.lemmas.List.FromFn.{get_or-range_with_len, length-range_with_len, length-map-range_with_len}
use Rattle.std.proofs.lemmas.Option.{slice_get-get_or, slice_get_past, same_Some}
use mathlib.Core.Path.{fun_ext}
use Rattle.kc_types.specs.Limits.{frame_limit, share_limit}
use Rattle.kc_types.specs.Configuration.{Configuration, IsConfiguration, slot_count, slots_of, gfns_of, roots_of}
use Rattle.kc_types.specs.declared.version.Version.{Version}
use Rattle.kc_types.specs.declared.link.Ends.{Ends}
use Rattle.kc_types.specs.declared.link.Link.{Link}
use Rattle.kc_types.specs.declared.owner.Owner.{Owner}
use Rattle.kc_types.specs.declared.owner.Owner.TheVariants.{Core, Host, Free, Vm}
use Rattle.kc_types.specs.declared.slot.Phase.TheVariants.{Empty}
use Rattle.kc_model.specs.State.{State, Frame, Slot, frame_at, slot_at, mapped_at, untouched, empty_slot}
use Rattle.kc_model.specs.Lawful.{IsLawful, IsLawfulFrame, IsLawfulSlot, ListsOnce, times_in, same_owner}
use Rattle.kc_model.proofs.States.Configurations.{few-frames}
use Rattle.kc_page.specs.declared.page.Page.{Page}
use Rattle.kc_page.specs.Page.{frame_of}
use Rattle.kc_vms.specs.Vm.{VmSlot}
use Rattle.kc_links.specs.Chain.{Links, unlinked}
use Rattle.kc_links.specs.Ending.{Chain, listed, IsList}
use Rattle.kc_links.proofs.Chains.{chain-listed, chain-is_list}
use Rattle.kc_parts.specs.Parts.{Held, page_at, vm_at, link_of, links_of, ends_at, is_filled, place_of}
use Rattle.kc_parts.specs.States.{frame_in, slot_in, unlinked_slot, state_of, owner_at, IsLinked}
use Rattle.kc_parts.specs.Booting.{IsWhole}
use Rattle.kc_parts.proofs.Pages.{filled-number}
use Rattle.kc_parts.proofs.Seen.{frame-seen}
use Rattle.kc_parts.proofs.Looked.{slot-is}
use Rattle.kc_vms.proofs.Rising.{empty-entries}
use Rattle.kc_core.specs.KCore.{IsCore}
use Rattle.kc_dump.specs.declared.line.FrameLine.{FrameLine}
use Rattle.kc_dump.specs.Dump.{Dumped, SlotDump, absent_line, line_at, line_owner, line_link, line_links, slot_dump_at, empty_dump, maps, no_ends}
use Rattle.kc_dump.specs.Lists.{HasList, owned}
use Rattle.kc_dump.specs.Ranges.{is_below, is_owner, is_frame, IsDump}
use Rattle.kc_dump.specs.Sound.{IsSound, IsSoundFrame}
use Rattle.kc_dump.proofs.Entries.{entry-get}
use Rattle.kc_model.proofs.States.Owners.{same-is}
use Rattle.kc_snapshot.proofs.Shows.{ShowsPage, ShowsSlot, Shows}

-- a list without ends has no frames
listed-none : (links : Links) → listed links no_ends ≡ []
unfolding listed
listed-none links = refl

-- there is something
there-is : {X : Type 0} (o : Option X) → is_some o ≡ true → (x : X) × (o ≡ Some x)
there-is None h = cc
there-is (Some x) h = (x, refl)

or-none : {X : Type 0} (o : Option X) → (is_some o ≡ true → ⊥) → o ≡ None
or-none None h = refl
or-none (Some x) h = absurd (h refl)

-- the numbers of a frame's line are in range
record InRange (version : Version) (line : FrameLine) : Type 0 where
  owner : is_owner version line.owner ≡ true
  share : line.share ≤ share_limit
  gfn : is_below (gfns_of version) line.gfn ≡ true

in-range : (version : Version) (n : ℕ) (line : FrameLine) → is_frame version n line ≡ true → InRange version line
in-range version n line e =
    let p1 = and_parts (is_owner version line.owner && nat_le line.share share_limit && is_below (gfns_of version) line.gfn && is_below n line.prev && is_below n line.next && (length line.digest == 32)) (list_all (λ b. nat_lt b 256) line.digest) e in
    let p2 = and_parts (is_owner version line.owner && nat_le line.share share_limit && is_below (gfns_of version) line.gfn && is_below n line.prev && is_below n line.next) (length line.digest == 32) p1.0 in
    let p3 = and_parts (is_owner version line.owner && nat_le line.share share_limit && is_below (gfns_of version) line.gfn && is_below n line.prev) (is_below n line.next) p2.0 in
    let p4 = and_parts (is_owner version line.owner && nat_le line.share share_limit && is_below (gfns_of version) line.gfn) (is_below n line.prev) p3.0 in
    let p5 = and_parts (is_owner version line.owner && nat_le line.share share_limit) (is_below (gfns_of version) line.gfn) p4.0 in
    let p6 = and_parts (is_owner version line.owner) (nat_le line.share share_limit) p5.0 in
    record { owner = p6.0; share = leb-true line.share share_limit p6.1; gfn = p5.1 }

owner-low : (version : Version) (owner : Owner) (v : ℕ) → is_owner version owner ≡ true → owner ≡ Vm v → v < slots_of version
owner-low version owner v e is = ltb-true v (slots_of version) (rw is at e)

below-of : (limit : ℕ) (o : Option ℕ) (g : ℕ) → is_below limit o ≡ true → o ≡ Some g → g < limit
below-of limit o g e is = ltb-true g limit (rw is at e)

-- a number that is in a list only if the owners are the same, and is in it
mine-where : (a b : Owner) (n : ℕ) → 0 < n → n ≡ cond (same_owner a b) 1 0 → a ≡ b
mine-where a b n some e = by_test (same_owner a b) refl
  where
    by_test : (t : Bool) → same_owner a b ≡ t → a ≡ b
    by_test true is = same-is a b is
    by_test false is = absurd (let none : n ≡ 0 = rw is at e in omega (arith, none, some))

module _ (config : Configuration) (d : Dumped) (h : Held) (is : IsConfiguration config) (range : IsDump d) (sound : IsSound d) (shows : Shows config d h) where
  abbrev lines : List FrameLine
  lines = d.frames

  abbrev m : State
  m = state_of config h

  slots-same : slot_count config ≡ length d.slots
  unfolding slot_count
  slots-same = ap slots_of shows.dump.version ∙ sym range.slots

  -- a page that is here is one of the configuration's
  page-low : (f : ℕ) → is_some (page_at h f) ≡ true → f < config.frames
  page-low f here = by_flag (is_filled h.numbers h.filled f) refl
    where
      by_flag : (b : Bool) → is_filled h.numbers h.filled f ≡ b → f < config.frames
      by_flag false e =
          let at : page_at h f ≡ None = ap (λ b. slice_get h.pages (cond b (place_of h.numbers f) (length h.pages))) e ∙ slice_get_past h.pages (length h.pages) (omega arith) in
          let none : is_some (page_at h f) ≡ false = ap is_some at in cc
      by_flag true e =
          let number : get_or (range_with_len 0 config.frames) (place_of h.numbers f) 0 ≡ f = ap (λ ns. get_or ns (place_of h.numbers f) 0) (sym shows.readied.whole.numbers) ∙ filled-number h.numbers h.filled f e in
          let some = is.some_frames in
          elim (cases_lt (place_of h.numbers f) config.frames) [
            | inl low ↦ let same = get_or-range_with_len 0 config.frames (place_of h.numbers f) 0 low in omega (arith, number, same, low)
            | inr past ↦ let long = length-range_with_len 0 config.frames in let zero = get_or_past (range_with_len 0 config.frames) (place_of h.numbers f) 0 (omega (arith, long, past)) in omega (arith, number, zero, some)
          ]

  page-past : (f : ℕ) → config.frames ≤ f → page_at h f ≡ None
  page-past f past = or-none (page_at h f) (λ here. let low = page-low f here in omega (arith, low, past))

  page-of : (f : ℕ) → f < config.frames → (page : Page) × (page_at h f ≡ Some page)
  page-of f low = there-is (page_at h f) (shows.readied.whole.frames f low)

  line-past : (f : ℕ) → config.frames ≤ f → line_at lines f ≡ absent_line
  line-past f past = get_or_past lines f absent_line (rw (← shows.dump.frames) past)

  links-same : links_of h ≡ line_links lines
  links-same = fun_ext (λ f. elim (cases_lt f config.frames) [
    | inl low ↦
        let here = page-of f low in
        let page = shows.each_page f here.0 low here.1 in
        let few = few-frames config is in
        let limit : nat_lt f frame_limit ≡ true = lt-ltb f frame_limit (omega (arith, low, few)) in
        let link : link_of here.0 ≡ line_link (line_at lines f) = λ i. record { prev = page.prev i; next = page.next i } in
        let held : links_of h f ≡ Some (link_of here.0) = rw (limit, here.1) refl in
        let line : line_links lines f ≡ Some (line_link (line_at lines f)) = ap (option_map line_link) (slice_get-get_or lines f absent_line (rw (← shows.dump.frames) low)) in
        held ∙ ap Some link ∙ sym line
    | inr past ↦
        let none : links_of h f ≡ None = none-at f (page-past f past) in
        let line : line_links lines f ≡ None = ap (option_map line_link) (slice_get_past lines f (rw (← shows.dump.frames) past)) in
        none ∙ sym line
  ])
    where
      none-at : (f : ℕ) → page_at h f ≡ None → links_of h f ≡ None
      none-at f at = rw at (by_test (nat_lt f frame_limit))
        where
          by_test : (b : Bool) → ◌≡◌ {A = Option Link} (cond b None None) None
          by_test true = refl
          by_test false = refl

  frame-is : (f : ℕ) (page : Page) → f < config.frames → page_at h f ≡ Some page → frame_at m f ≡ frame_of page
  frame-is f page low at = frame-seen config h f low ∙ ap frame_in at

  frame-past : (f : ℕ) → config.frames ≤ f → frame_at m f ≡ untouched Core
  frame-past f past = get_or_past m.frames f (untouched Core) (rw (length-map-range_with_len (λ g. frame_in (page_at h g)) 0 config.frames) past)

  owner-same : (f : ℕ) → (frame_at m f).owner ≡ line_owner lines f
  owner-same f = elim (cases_lt f config.frames) [
    | inl low ↦ let here = page-of f low in ap (λ (x : Frame). x.owner) (frame-is f here.0 low here.1) ∙ (shows.each_page f here.0 low here.1).owner
    | inr past ↦ ap (λ (x : Frame). x.owner) (frame-past f past) ∙ sym (ap (λ (l : FrameLine). l.owner) (line-past f past))
  ]

  gfn-same : (f : ℕ) → (frame_at m f).gfn ≡ (line_at lines f).gfn
  gfn-same f = elim (cases_lt f config.frames) [
    | inl low ↦ let here = page-of f low in ap (λ (x : Frame). x.gfn) (frame-is f here.0 low here.1) ∙ (shows.each_page f here.0 low here.1).gfn
    | inr past ↦ ap (λ (x : Frame). x.gfn) (frame-past f past) ∙ sym (ap (λ (l : FrameLine). l.gfn) (line-past f past))
  ]

  share-same : (f : ℕ) → (frame_at m f).share ≡ (line_at lines f).share
  share-same f = elim (cases_lt f config.frames) [
    | inl low ↦ let here = page-of f low in ap (λ (x : Frame). x.share) (frame-is f here.0 low here.1) ∙ (shows.each_page f here.0 low here.1).share
    | inr past ↦ ap (λ (x : Frame). x.share) (frame-past f past) ∙ sym (ap (λ (l : FrameLine). l.share) (line-past f past))
  ]

  held-owner : (f : ℕ) → owner_at h f ≡ line_owner lines f
  held-owner f = elim (cases_lt f config.frames) [
    | inl low ↦ let here = page-of f low in ap (λ there. (frame_in there).owner) here.1 ∙ (shows.each_page f here.0 low here.1).owner
    | inr past ↦ ap (λ there. (frame_in there).owner) (page-past f past) ∙ sym (ap (λ (l : FrameLine). l.owner) (line-past f past))
  ]

  -- the ends and links of a dump's list spell it in the parts
  list-is : (owner : Owner) (ends : Ends) → HasList lines owner ends → IsList (links_of h) ends
  list-is owner ends list = chain-is_list (links_of h) ends list.frames (rw links-same list.spelled.chain)

  list-each : (owner : Owner) (ends : Ends) → HasList lines owner ends → (f : ℕ) → times_in (listed (links_of h) ends) f ≡ owned lines owner f
  list-each owner ends list f = let chain : Chain (links_of h) ends list.frames = rw links-same list.spelled.chain in rw (chain-listed (links_of h) ends list.frames chain) (list.spelled.each f)

  list-once : (owner : Owner) (ends : Ends) → HasList lines owner ends → ListsOnce m owner (listed (links_of h) ends)
  list-once owner ends list f = list-each owner ends list f ∙ ap (λ o. cond (same_owner o owner) 1 0) (sym (owner-same f))

  list-owned : (owner : Owner) (ends : Ends) → HasList lines owner ends → (f : ℕ) → 0 < times_in (listed (links_of h) ends) f → owner_at h f ≡ owner
  list-owned owner ends list f some = held-owner f ∙ mine-where (line_owner lines f) owner (times_in (listed (links_of h) ends) f) some (list-each owner ends list f)

  vm-of : (v : ℕ) → v < slot_count config → (vm : VmSlot) × (vm_at h v ≡ Some vm)
  vm-of v low = there-is (vm_at h v) (shows.readied.whole.vms v low)

  vm-low : (v : ℕ) (vm : VmSlot) → vm_at h v ≡ Some vm → v < slot_count config
  vm-low v vm at = shows.readied.whole.past v (ap is_some at)

  slot-list : (v : ℕ) (vm : VmSlot) → v < slot_count config → vm_at h v ≡ Some vm → HasList lines (Vm v) vm.slot.frames
  slot-list v vm low at = rw (shows.each_slot v vm low at).list (sound.listed v (rw (← slots-same) low))

  list-of : (owner : Owner) (ends : Ends) → ends_at h owner ≡ Some ends → HasList lines owner ends
  list-of Core ends at = cc
  list-of Host ends at = cc
  list-of Free ends at = let same : d.free ≡ ends = same_Some d.free ends (sym shows.free ∙ at) in rw (← same) sound.free
  list-of (Vm v) ends at = by_vm (vm_at h v) refl at
    where
      by_vm : (there : Option VmSlot) → vm_at h v ≡ there → option_map (λ (vm : VmSlot). vm.slot.frames) there ≡ Some ends → HasList lines (Vm v) ends
      by_vm None e is = cc
      by_vm (Some vm) e is = let same : vm.slot.frames ≡ ends = same_Some vm.slot.frames ends is in rw (← same) (slot-list v vm (vm-low v vm e) e)

  linked : IsLinked config h
  linked = record {
    frames = page-low;
    vms = shows.readied.capacities;
    lists = record {
      spelled = λ owner ends at. list-is owner ends (list-of owner ends at);
      owned = λ owner ends f at some. list-owned owner ends (list-of owner ends at) f some;
      alone = λ f host. elim (cases_lt f config.frames) [
        | inl low ↦
            let line = (sound.each_frame f (rw (← shows.dump.frames) low)).host_alone (sym (held-owner f) ∙ host) in
            let there : line_links lines f ≡ Some (line_link (line_at lines f)) = ap (option_map line_link) (slice_get-get_or lines f absent_line (rw (← shows.dump.frames) low)) in
            ap (λ (links : Links). links f) links-same ∙ there ∙ ap Some line
        | inr past ↦ let core : owner_at h f ≡ Core = ap (λ there. (frame_in there).owner) (page-past f past) in let no : Core ≡ Host = sym core ∙ host in cc
      ];
    };
    room = shows.room;
  }

  lawful-frame : (f : ℕ) → f < config.frames → IsLawfulFrame config f (frame_at m f)
  unfolding slot_count
  lawful-frame f low =
      let here = page-of f low in
      let page = shows.each_page f here.0 low here.1 in
      let within : f < length lines = rw (← shows.dump.frames) low in
      let line = sound.each_frame f within in
      let numbers = in-range d.version (length lines) (line_at lines f) (range.frames f within) in
      let core = shows.dump.core in
      rw (frame-is f here.0 low here.1) (record {
        core = (λ e. (let placed = line.placed.0 (sym page.owner ∙ e) in rw core placed), λ placed. page.owner ∙ line.placed.1 (rw (← core) placed));
        mapped = rw (page.gfn, page.owner) line.mapped;
        shared = rw page.share numbers.share;
        sharer = rw (page.share, page.owner) line.sharer;
        reached = rw (page.present, page.owner, page.share) line.reached;
        zeroed = λ free. page.zeroed (sym page.owner ∙ free);
        page = page.whole;
        slot = λ v mine. ap-slots v (owner-low d.version (line_at lines f).owner v numbers.owner (sym page.owner ∙ mine));
        gfn = λ g at. rw shows.dump.version (below-of (gfns_of d.version) (line_at lines f).gfn g numbers.gfn (sym page.gfn ∙ at));
      })
    where
      ap-slots : (v : ℕ) → v < slots_of d.version → v < slots_of config.version
      ap-slots v low = rw shows.dump.version low

  lawful-slot : (v : ℕ) → v < slot_count config → IsLawfulSlot config (slot_at m v)
  lawful-slot v low =
      let here = vm-of v low in
      let vm = here.0 in
      let there = shows.each_slot v vm low here.1 in
      let within : v < length d.slots = rw (← slots-same) low in
      let slot = sound.each_slot v within in
      rw (slot-is config h v vm low here.1) (record {
        vcpus = there.kept.vcpu_count;
        each_vcpu = there.kept.each_vcpu;
        few_images = there.kept.few_images;
        each_image = there.kept.each_image;
        apart = there.kept.apart;
        few_leaves = rw (there.leaves, shows.dump.leaves) slot.few_leaves;
        leaves_once = rw there.leaves slot.leaves_once;
        each_leaf = rw there.leaves (λ k e lt. roots k e lt within);
        rooted = λ g f at. rw there.leaves (slot.rooted g f (rw (← there.entries) ((entry-get vm.slot.mapped g f).1 at)));
        booting = there.images;
        empty = λ none. empty-is vm there none (slot.empty (sym there.phase ∙ none));
      })
    where
      roots : (k e : ℕ) → k < length (slot_dump_at d v).leaves → v < length d.slots → get_or (slot_dump_at d v).leaves k e < roots_of config.version
      roots k e lt within = let same = get_or_default (slot_dump_at d v).leaves k e 0 lt in let low = range.roots v k within lt in let version = ap (λ version. roots_of version) shows.dump.version in omega (arith, same, low, version)

      empty-is : (vm : VmSlot) → ShowsSlot config.version (slot_dump_at d v) vm → vm.slot.phase ≡ Empty → slot_dump_at d v ≡ empty_dump → unlinked_slot vm.slot (listed (links_of h) vm.slot.frames) ≡ empty_slot config.version
      empty-is vm there none e = λ i. record {
        phase = none i;
        vcpus = there.kept.empty_vcpus none i;
        images = there.kept.empty_images none i;
        frames = (ap (listed (links_of h)) (there.list ∙ ap (λ (s : SlotDump). s.list) e) ∙ listed-none (links_of h)) i;
        mapped = finite.same_entries_map vm.slot.mapped finite.empty (there.entries ∙ ap (λ (s : SlotDump). s.entries) e ∙ sym empty-entries) i;
        leaves = (there.leaves ∙ ap (λ (s : SlotDump). s.leaves) e) i;
      }

  mapped-is : (v g f : ℕ) → v < slot_count config → (mapped_at m v g ≡ Some f) ↔ (((frame_at m f).owner ≡ Vm v) × ((frame_at m f).gfn ≡ Some g))
  mapped-is v g f low =
      let here = vm-of v low in
      let vm = here.0 in
      let there = shows.each_slot v vm low here.1 in
      let table : mapped_at m v g ≡ finite.get vm.slot.mapped g = ap (λ (s : Slot). finite.get s.mapped g) (slot-is config h v vm low here.1) in
      let entry = entry-get vm.slot.mapped g f in
      let says = sound.mapped v g f in (
        λ at. (let both = says.0 (rw (← there.entries) (entry.1 (sym table ∙ at))) in (owner-same f ∙ both.0, gfn-same f ∙ both.1)),
        λ both. table ∙ entry.0 (rw there.entries (says.1 (sym (owner-same f) ∙ both.0, sym (gfn-same f) ∙ both.1))),
      )

  lawful : IsLawful m
  lawful = record {
    config = is;
    frames = length-map-range_with_len (λ f. frame_in (page_at h f)) 0 config.frames;
    slots = length-map-range_with_len (λ v. slot_in (links_of h) (vm_at h v)) 0 (slot_count config);
    each_frame = λ f low. lawful-frame f (rw length-map-range_with_len at low);
    each_slot = lawful-slot;
    free = rw shows.free (list-once Free d.free sound.free);
    listed = λ v low. (let here = vm-of v low in rw (slot-is config h v here.0 low here.1) (list-once (Vm v) here.0.slot.frames (slot-list v here.0 low here.1)));
    mapped = mapped-is;
    shared = λ v f low mine some. (let here = vm-of v low in rw (slot-is config h v here.0 low here.1)
        ((shows.each_slot v here.0 low here.1).phase ∙ shows.shared v f (sym (owner-same f) ∙ mine) (rw (← share-same f) some)));
  }

  -- parts that a sound dump shows are those of a core
  pub core-shown : IsCore config h
  core-shown = record { lawful = lawful; linked = linked; whole = shows.readied.whole }
