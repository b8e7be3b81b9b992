-- The parts that are made from a description are those of a core, which it describes.
use denote.Bor.{Bor}
use Rattle.std.proofs.Common.{ℕ, ◌≡◌, ◌<◌, ◌≤◌, inl, inr, true, false, cond, List, [], length, map, get_or, Option, Some, None, is_some, All, refl, sym, ap, subst, ◌∙◌, arith}
use Rattle.std.specs.List.{range_with_len}
use Rattle.std.specs.FinMap as finite
use Rattle.std.proofs.lemmas.Bool.{cases_lt}
use Rattle.std.proofs.lemmas.List.{ext_get_or, get_or_past, get_or_default, get_or-map, length-map}
use Rattle.std.proofs.lemmas.List.FromFn.{get_or-map-range_with_len, length-map-range_with_len}
use Rattle.std.proofs.Math.ListN.{get_or-map as content-at}
use Rattle.std.proofs.lemmas.Option.{same_Some}
use Rattle.kc_types.specs.Configuration.{Configuration, slot_count, slots_of}
use Rattle.kc_types.specs.declared.link.Ends.{Ends}
use Rattle.kc_types.specs.declared.owner.Owner.{Owner}
use Rattle.kc_types.specs.declared.owner.Owner.TheVariants.{Core, Host, Free, Vm}
use Rattle.kc_model.specs.State.{State, Frame, Slot, frame_at, slot_at, zero_page, untouched, no_slot}
use Rattle.kc_model.specs.Links.{link_at}
use Rattle.kc_page.specs.declared.page.Page.{Page}
use Rattle.kc_page.specs.Page.{frame_of}
use Rattle.kc_page.specs.PageBytes.{Content}
use Rattle.kc_model.specs.Lawful.{IsPage}
use Rattle.kc_vms.specs.Vm.{VmSlot, Capacity, capacity_for}
use Rattle.kc_parts.specs.Parts.{Held, page_at, vm_at, links_of}
use Rattle.kc_parts.specs.States.{frame_in, slot_in, unlinked_slot, state_of}
use Rattle.kc_parts.specs.Booting.{parts_of, IsWhole}
use Rattle.kc_parts.proofs.Whole.{whole-page, whole-vm, whole-parts}
use Rattle.kc_parts.proofs.Seen.{frame-seen}
use Rattle.kc_parts.proofs.Looked.{slot-is}
use Rattle.kc_links.specs.Ending.{listed}
use Rattle.kc_core.specs.KCore.{IsCore, has_list, shown}
use Rattle.kc_core.proofs.Shown.{record-shown}
use Rattle.kc_core.proofs.Ended.{free-some, slot-ended}
use Rattle.kc_dump.specs.declared.line.FrameLine.{FrameLine}
use Rattle.kc_dump.specs.Dump.{Dumped, SlotDump, absent_line, line_at, empty_dump, slot_dump_at}
use Rattle.kc_dump.specs.Sound.{IsSoundFrame}
use Rattle.sha2.specs.Sha256.{sha256}
use Rattle.kc_snapshot.specs.Dumping.{frame_line, frame_lines, slot_dump, dump_of}
use Rattle.kc_snapshot.specs.Told.{Told, SlotRest, slot_rest, told_of, config_of, bytes_of}
use Rattle.kc_snapshot.specs.Unlawful.{IsSized, slot_rest_at, page_of}
use Rattle.kc_snapshot.specs.Making.{IsJudged, IsVmTold, IsPlaceTold, AreVmsTold, content_of, page_told}
use Rattle.kc_snapshot.proofs.Mapped.{entry-key, has}
use Rattle.kc_snapshot.proofs.Shows.{Shows, SharesInActive}
use Rattle.kc_snapshot.proofs.Shown.{core-shown}

-- what is there if there is no slot
abbrev no_rest : SlotRest
no_rest = record { vcpus = []; images = [] }

-- the neighbours of a page's frame are those of its line: the core's and the host's frames have none
module _ (core f : ℕ) (line : FrameLine) (bytes : Content) (is : IsSoundFrame core f line) where
  prev-shown : (shown (page_told line bytes).meta).prev ≡ line.prev
  prev-shown = by_owner line.owner refl
    where
      by_owner : (owner : Owner) → line.owner ≡ owner → cond (has_list owner) line.prev None ≡ line.prev
      by_owner Core e = ap (λ l. None) e ∙ sym (ap (λ l. l.prev) (is.core_alone e))
      by_owner Host e = ap (λ l. None) e ∙ sym (ap (λ l. l.prev) (is.host_alone e))
      by_owner Free e = refl
      by_owner (Vm v) e = refl

  next-shown : (shown (page_told line bytes).meta).next ≡ line.next
  next-shown = by_owner line.owner refl
    where
      by_owner : (owner : Owner) → line.owner ≡ owner → cond (has_list owner) line.next None ≡ line.next
      by_owner Core e = ap (λ l. None) e ∙ sym (ap (λ l. l.next) (is.core_alone e))
      by_owner Host e = ap (λ l. None) e ∙ sym (ap (λ l. l.next) (is.host_alone e))
      by_owner Free e = refl
      by_owner (Vm v) e = refl

module _ (t : Told) (sized : IsSized t) (judged : IsJudged t) (vms : List (Option VmSlot)) (count : length vms ≡ length t.dump.slots) (each : AreVmsTold t.dump t.rest.slots vms (length t.dump.slots))
    (contents : List Content) (spells : bytes_of contents ≡ t.rest.pages) where
  abbrev d : Dumped
  d = t.dump

  abbrev config : Configuration
  config = config_of t

  abbrev capacity : Capacity
  capacity = capacity_for d.version d.leaves

  abbrev page_made : ℕ → Page
  page_made f = page_told (line_at d.frames f) (content_of contents f)

  bytes-made : (f : ℕ) → (content_of contents f).bytes ≡ page_of t.rest.pages f
  bytes-made f = sym (content-at (λ (page : Content). page.bytes) contents f (record { bytes = zero_page; is_reserved = false })) ∙ ap (λ pages. page_of pages f) spells

  abbrev pages : List Page
  pages = map page_made (range_with_len 0 (length d.frames))

  abbrev h : Held
  h = parts_of pages vms d.free false

  abbrev m : State
  m = state_of config h

  long : length pages ≡ length d.frames
  long = length-map-range_with_len page_made 0 (length d.frames)

  slots-count : slot_count config ≡ length d.slots
  unfolding slot_count
  slots-count = sym judged.range.slots

  page-here : (f : ℕ) → f < length d.frames → page_at h f ≡ Some (page_made f)
  page-here f low = whole-page pages vms d.free false f (page_made f) (rw long low) ∙ ap Some (get_or-map-range_with_len page_made 0 (length d.frames) f f (page_made f) low (omega arith))

  vm-told : (v : ℕ) (vm : VmSlot) → v < length d.slots → vm_at h v ≡ Some vm → IsVmTold capacity (slot_dump_at d v) (slot_rest_at t.rest.slots v) vm
  vm-told v vm low at = subst (IsPlaceTold capacity (slot_dump_at d v) (slot_rest_at t.rest.slots v)) (sym (whole-vm pages vms d.free false v) ∙ at) (each v low)

  some-told : (v : ℕ) (there : Option VmSlot) → IsPlaceTold capacity (slot_dump_at d v) (slot_rest_at t.rest.slots v) there → is_some there ≡ true
  some-told v (Some vm) is = refl
  some-told v None is = absurd is

  whole : IsWhole config h
  whole = whole-parts pages vms d.free false config (sym long) (slots-count ∙ sym count) (λ v e low. ap is_some (get_or_default vms v e None low) ∙ some-told v (get_or vms v None) (each v (rw count at low)))

  vm-low : (v : ℕ) (vm : VmSlot) → vm_at h v ≡ Some vm → v < length d.slots
  vm-low v vm at = rw slots-count at (whole.past v (ap is_some at))

  in-active : SharesInActive d
  in-active v f mine some = elim (cases_lt f (length d.frames)) [
    | inl low ↦ (judged.frames f low).sharer v mine some
    | inr past ↦ let core : Core ≡ Vm v = sym (ap (λ (l : FrameLine). l.owner) (get_or_past d.frames f absent_line past)) ∙ mine in cc
  ]

  shows : Shows config d h
  shows = record {
    readied = record { whole = whole; capacities = λ v vm at. (vm-told v vm (vm-low v vm at) at).room };
    dump = record { version = refl; frames = refl; core = refl; leaves = refl };
    free = refl;
    each_page = λ f page low at. (let is : page ≡ page_made f = same_Some page (page_made f) (sym at ∙ page-here f low) in
        rw is (record { owner = refl; share = refl; gfn = refl; present = refl; prev = refl; next = refl; zeroed = λ free. bytes-made f ∙ (judged.frames f low).zeroed free; whole = subst IsPage (sym (bytes-made f)) (judged.pages f low) }));
    each_slot = λ v vm low at. (
        let within : v < length d.slots = rw slots-count at low in
        let told = vm-told v vm within at in
        let slot = judged.slots v within in
        record {
          phase = told.phase;
          list = told.list;
          leaves = told.roots;
          entries = told.entries;
          kept = rw (told.phase, told.vcpus, told.images) slot.kept;
          images = λ booting g. entry-key vm.slot.mapped g ∙ ap (λ es. has es g) told.entries ∙ slot.booting (sym told.phase ∙ booting) g ∙ rw told.images refl;
        });
    shared = in-active;
    room = λ reserved f. cc;
  }

  pub core-made : IsCore config h
  core-made = core-shown config d h sized.config judged.range judged.sound shows

  frame-is : (f : ℕ) → f < length d.frames → frame_at m f ≡ frame_of (page_made f)
  frame-is f low = frame-seen config h f low ∙ ap frame_in (page-here f low)

  vm-of : (v : ℕ) → v < length d.slots → (vm : VmSlot) × (vm_at h v ≡ Some vm)
  vm-of v low = there-is (vm_at h v) (whole.vms v (rw slots-count low))
    where
      there-is : (o : Option VmSlot) → is_some o ≡ true → (vm : VmSlot) × (o ≡ Some vm)
      there-is None none = cc
      there-is (Some vm) some = (vm, refl)

  slot-same : (v : ℕ) (vm : VmSlot) → v < length d.slots → vm_at h v ≡ Some vm → slot_at m v ≡ unlinked_slot vm.slot (listed (links_of h) vm.slot.frames)
  slot-same v vm low at = slot-is config h v vm (rw slots-count low) at

  frames-long : length m.frames ≡ length d.frames
  frames-long = length-map-range_with_len (λ f. frame_in (page_at h f)) 0 config.frames

  slots-long : length m.slots ≡ length d.slots
  slots-long = length-map-range_with_len (λ v. slot_in (links_of h) (vm_at h v)) 0 (slot_count config) ∙ slots-count

  pages-told : map (λ (frame : Frame). frame.bytes) m.frames ≡ t.rest.pages
  pages-told = ext_get_or zero_page _ _ (length-map m.frames (λ (frame : Frame). frame.bytes) ∙ frames-long ∙ sym sized.pages) (λ f low.
      let within : f < length m.frames = rw length-map at low in
      get_or-map (λ (frame : Frame). frame.bytes) m.frames f (untouched Core) zero_page within ∙ ap (λ (frame : Frame). frame.bytes) (frame-is f (rw frames-long at within)) ∙ bytes-made f)

  rests-told : map slot_rest m.slots ≡ t.rest.slots
  rests-told = ext_get_or no_rest _ _ (length-map m.slots slot_rest ∙ slots-long ∙ sym sized.slots) (λ v low.
      let within : v < length m.slots = rw length-map at low in
      let inside : v < length d.slots = rw slots-long at within in
      let here = vm-of v inside in
      let told = vm-told v here.0 inside here.1 in
      get_or-map slot_rest m.slots v no_slot no_rest within ∙ ap slot_rest (slot-same v here.0 inside here.1) ∙ (λ i. record { vcpus = told.vcpus i; images = told.images i }))

  slots-told : map slot_dump m.slots ≡ d.slots
  slots-told = ext_get_or empty_dump _ _ (length-map m.slots slot_dump ∙ slots-long) (λ v low.
      let within : v < length m.slots = rw length-map at low in
      let inside : v < length d.slots = rw slots-long at within in
      let here = vm-of v inside in
      let told = vm-told v here.0 inside here.1 in
      let there : Bor VmSlot = record { ref_ptr = (0, 0); now = here.0 } in
      let ends = slot-ended config h core-made v (rw slots-count inside) (Some there) (sym here.1) in
      let slot = slot-same v here.0 inside here.1 in
      get_or-map slot_dump m.slots v no_slot empty_dump within ∙ (λ i. record {
        phase = (ap (λ (s : Slot). s.phase) slot ∙ told.phase) i;
        list = (sym ends ∙ told.list) i;
        leaves = (ap (λ (s : Slot). s.leaves) slot ∙ told.roots) i;
        entries = (ap (λ (s : Slot). finite.entries s.mapped) slot ∙ told.entries) i;
      }))

  line-told : (f : ℕ) → f < length d.frames → frame_line (frame_at m f) (link_at m f) ≡ line_at d.frames f
  line-told f low =
      let line = line_at d.frames f in
      let bytes = content_of contents f in
      let record' = record-shown config h core-made f (shown (page_made f).meta) low (rw (page-here f low) refl) in
      let frame = frame-is f low in
      let sound = judged.sound.each_frame f low in
      λ i. record {
        owner = (ap (λ (x : Frame). x.owner) frame) i;
        share = (ap (λ (x : Frame). x.share) frame) i;
        gfn = (ap (λ (x : Frame). x.gfn) frame) i;
        present = (ap (λ (x : Frame). x.present) frame) i;
        prev = (sym record'.prev ∙ prev-shown d.core f line bytes sound) i;
        next = (sym record'.next ∙ next-shown d.core f line bytes sound) i;
        digest = (ap (λ (x : Frame). sha256 x.bytes) frame ∙ ap sha256 (bytes-made f) ∙ sym (judged.frames f low).digest) i;
      }

  lines-told : frame_lines m config.frames ≡ d.frames
  lines-told = ext_get_or absent_line _ _ (length-map-range_with_len (λ f. frame_line (frame_at m f) (link_at m f)) 0 config.frames) (λ f low.
      let within : f < length d.frames = rw length-map-range_with_len at low in
      get_or-map-range_with_len (λ f. frame_line (frame_at m f) (link_at m f)) 0 config.frames f f absent_line within (omega arith) ∙ line-told f within)

  -- this is the description of the core's state
  pub told-made : told_of m ≡ t
  told-made i = record {
    rest = record { host = t.rest.host; approved = t.rest.approved; slots = rests-told i; pages = pages-told i };
    dump = record { version = d.version; core = d.core; leaves = d.leaves; free = sym (free-some config h core-made d.free refl) i; slots = slots-told i; frames = lines-told i };
  }

-- the same for parts that are made one after another
module _ (t : Told) (sized : IsSized t) (judged : IsJudged t) (vms : List (Option VmSlot)) (count : length vms ≡ length t.dump.slots) (each : AreVmsTold t.dump t.rest.slots vms (length t.dump.slots))
    (config : Configuration) (lines : List FrameLine) (bytes : List Content) (pages : List Page) (free : Ends) (parts : Held) (is_config : config ≡ config_of t) (is_lines : lines ≡ t.dump.frames) (is_bytes : bytes_of bytes ≡ t.rest.pages)
    (are_pages : pages ≡ map (λ f. page_told (line_at lines f) (content_of bytes f)) (range_with_len 0 (length lines))) (is_free : free ≡ t.dump.free) (are_parts : parts ≡ parts_of pages vms free false) where
  parts-made : parts ≡ parts_of (map (λ f. page_told (line_at t.dump.frames f) (content_of bytes f)) (range_with_len 0 (length t.dump.frames))) vms t.dump.free false
  parts-made = are_parts ∙ (λ i. parts_of ((are_pages ∙ (λ k. map (λ f. page_told (line_at (is_lines k) f) (content_of bytes f)) (range_with_len 0 (length (is_lines k))))) i) vms (is_free i) false)

  pub core-assembled : IsCore config parts
  core-assembled = rw (is_config, parts-made) (core-made t sized judged vms count each bytes is_bytes)

  pub told-assembled : told_of (state_of config parts) ≡ t
  told-assembled = (λ i. told_of (state_of (is_config i) (parts-made i))) ∙ told-made t sized judged vms count each bytes is_bytes
