-- What a core shows of its parts is what the state has.
use Rattle.std.proofs.Common.{ℕ, ◌≡◌, ◌<◌, ◌≤◌, ◌+◌, Bool, true, false, cond, List, [], ◌∷◌, ◌++◌, length, map, Option, Some, None, is_some, eq-eqb, refl, sym, ap, ◌∙◌, arith}
use Rattle.std.specs.Prelude.{filter}
use Rattle.std.specs.List.{range_with_len}
use Rattle.std.specs.Option.{option_map}
use Rattle.std.specs.Borrow.{Bor}
use Rattle.std.proofs.lemmas.Bool.{lt-ltb}
use Rattle.std.proofs.lemmas.List.{map-id, map-append, append-nil, get_or_past, ext_get_or, get_or-map, length-map}
use Rattle.std.proofs.lemmas.List.Elements.{filter-append}
use Rattle.std.proofs.lemmas.List.FromFn.{map-range_with_len_more, length-map-range_with_len, get_or-map-range_with_len}
use Rattle.std.proofs.lemmas.Option.{same_Some}
use Rattle.kc_types.specs.Limits.{frame_limit}
use Rattle.kc_model.proofs.States.Configurations.{few-frames}
use Rattle.kc_types.specs.Configuration.{Configuration, slot_count}
use Rattle.kc_types.specs.declared.link.Ends.{Ends}
use Rattle.kc_types.specs.declared.link.Link.{Link}
use Rattle.kc_types.specs.declared.owner.Owner.{Owner}
use Rattle.kc_types.specs.declared.owner.Owner.TheVariants.{Core, Host, Free, Vm}
use Rattle.kc_model.specs.State.{State, Frame, Slot, frame_at, slot_at, no_slot, untouched}
use Rattle.kc_model.specs.Lawful.{same_owner, times_in}
use Rattle.kc_model.specs.Links.{link_in, link_at, list_of}
use Rattle.kc_page.specs.declared.page.Page.{Page}
use Rattle.kc_page.specs.declared.page.PageRecord.{PageRecord}
use Rattle.kc_page.specs.Page.{frame_of, IsRecordOf}
use Rattle.kc_page.specs.PageBytes.{Content}
use Rattle.kc_vms.specs.Vm.{VmSlot}
use Rattle.kc_links.specs.Ending.{listed, IsList}
use Rattle.kc_links.proofs.Neighbours.{link_in-linked}
use Rattle.kc_parts.specs.Parts.{Held, page_at, vm_at, link_of, links_of}
use Rattle.kc_parts.specs.States.{frame_in, slot_in, list_in, state_of}
use Rattle.kc_parts.proofs.Seen.{frame-seen, slot-seen}
use Rattle.kc_core.specs.KCore.{IsCore, shown, ShowsRecord}

one-of : (there : Bool) (n : ℕ) → there ≡ true → n ≡ cond there 1 0 → 0 < n
one-of true n is e = omega (arith, e)
one-of false n is e = cc

module _ (config : Configuration) (h : Held) (is : IsCore config h) where
  pub frame-shown : (f : ℕ) (page : Page) → f < config.frames → page_at h f ≡ Some page → frame_at (state_of config h) f ≡ frame_of page
  frame-shown f page low at = frame-seen config h f low ∙ ap frame_in at

  link-here : (f : ℕ) (page : Page) → f < config.frames → page_at h f ≡ Some page → links_of h f ≡ Some (link_of page)
  link-here f page low at = let few = few-frames config is.lawful.config in rw (lt-ltb f frame_limit (omega (arith, low, few)), at) refl

  -- the link of a frame that its owner's list holds
  link-listed : (f : ℕ) (page : Page) (ends : Ends) → f < config.frames → page_at h f ≡ Some page → IsList (links_of h) ends → 0 < times_in (listed (links_of h) ends) f → link_in (listed (links_of h) ends) f ≡ link_of page
  link-listed f page ends low at list some = sym (same_Some (link_of page) (link_in (listed (links_of h) ends) f) (sym (link-here f page low at) ∙ link_in-linked (links_of h) None (listed (links_of h) ends) f list.linked some))

  shown-link : PageRecord → Link
  shown-link meta = record { prev = (shown meta).prev; next = (shown meta).next }

  link-shown : (f : ℕ) (page : Page) → f < config.frames → page_at h f ≡ Some page → (owner : Owner) → page.meta.owner ≡ owner → link_in (list_of (state_of config h) owner) f ≡ shown-link page.meta
  unfolding shown-link
  link-shown f page low at Core mine = rw mine refl
  link-shown f page low at Host mine = rw mine refl
  link-shown f page low at Free mine = rw mine (by_ends h.free refl)
    where
      by_ends : (free : Option Ends) → h.free ≡ free → link_in (list_in (links_of h) free) f ≡ link_of page
      by_ends None e = let some = is.whole.free in let none : is_some h.free ≡ false = ap is_some e in cc
      by_ends (Some ends) e =
          let owner : same_owner (frame_at (state_of config h) f).owner Free ≡ true = ap (λ (frame : Frame). same_owner frame.owner Free) (frame-shown f page low at) ∙ ap (λ o. same_owner o Free) mine in
          let inside : 0 < times_in (listed (links_of h) ends) f = rw e at (one-of (same_owner (frame_at (state_of config h) f).owner Free) (times_in (state_of config h).free f) owner (is.lawful.free f)) in
          link-listed f page ends low at (is.linked.lists.spelled Free ends e) inside
  link-shown f page low at (Vm v) mine = rw mine (by_vm (vm_at h v) refl)
    where
      owned : (frame_at (state_of config h) f).owner ≡ Vm v
      owned = ap (λ (frame : Frame). frame.owner) (frame-shown f page low at) ∙ mine

      slot_low : v < slot_count config
      slot_low = (is.lawful.each_frame f (rw is.lawful.frames low)).slot v owned

      by_vm : (there : Option VmSlot) → vm_at h v ≡ there → link_in (slot_at (state_of config h) v).frames f ≡ link_of page
      by_vm None e = let some = is.whole.vms v slot_low in let none : is_some (vm_at h v) ≡ false = ap is_some e in cc
      by_vm (Some vm) e =
          let frames : (slot_at (state_of config h) v).frames ≡ listed (links_of h) vm.slot.frames = ap (λ (slot : Slot). slot.frames) (slot-seen config h v slot_low ∙ ap (slot_in (links_of h)) e) in
          let mine' : same_owner (frame_at (state_of config h) f).owner (Vm v) ≡ true = ap (λ o. same_owner o (Vm v)) owned ∙ eq-eqb v v refl in
          let inside : 0 < times_in (listed (links_of h) vm.slot.frames) f = rw frames at (one-of (same_owner (frame_at (state_of config h) f).owner (Vm v)) (times_in (slot_at (state_of config h) v).frames f) mine' (is.lawful.listed v slot_low f)) in
          ap (λ fs. link_in fs f) frames ∙ link-listed f page vm.slot.frames low at (is.linked.lists.spelled (Vm v) vm.slot.frames (ap (option_map (λ (vm : VmSlot). vm.slot.frames)) e)) inside

  -- the record of a page is that of its frame
  pub record-shown : (f : ℕ) (meta : PageRecord) → f < config.frames → ShowsRecord h f meta → IsRecordOf (state_of config h) f meta
  unfolding shown-link
  record-shown f meta low shows = by_page (page_at h f) refl shows
    where
      by_page : (there : Option Page) → page_at h f ≡ there → Some meta ≡ option_map (λ (page : Page). shown page.meta) there → IsRecordOf (state_of config h) f meta
      by_page None e s = cc
      by_page (Some page) e s =
          let is_shown : meta ≡ shown page.meta = same_Some meta (shown page.meta) s in
          let frame = frame-shown f page low e in
          let link : link_at (state_of config h) f ≡ shown-link page.meta = ap (λ (x : Frame). link_in (list_of (state_of config h) x.owner) f) frame ∙ link-shown f page low e page.meta.owner refl in
          rw is_shown (record {
            owner = sym (ap (λ (x : Frame). x.owner) frame);
            share = sym (ap (λ (x : Frame). x.share) frame);
            gfn = sym (ap (λ (x : Frame). x.gfn) frame);
            present = sym (ap (λ (x : Frame). x.present) frame);
            prev = sym (ap (λ (l : Link). l.prev) link);
            next = sym (ap (λ (l : Link). l.next) link);
          })

-- the bytes of frames that are lent, with those of one more frame
pub lent-more : (bytes : ℕ → List ℕ) (n : ℕ) (old new : List (Bor Content)) (one : Bor Content) → map (λ (lent : Bor Content). lent.now.bytes) old ≡ map bytes (range_with_len 0 n) → new ≡ old ++ one ∷ [] → one.now.bytes ≡ bytes n
    → map (λ (lent : Bor Content). lent.now.bytes) new ≡ map bytes (range_with_len 0 (n + 1))
lent-more bytes n old new one so_far pushed is =
    let lent_bytes : Bor Content → List ℕ = λ lent. lent.now.bytes in
    ap (map lent_bytes) pushed ∙ map-append lent_bytes old (one ∷ []) ∙ ap (λ (l : List (List ℕ)). l ++ one.now.bytes ∷ []) so_far
    ∙ ap (λ (b : List ℕ). map bytes (range_with_len 0 n) ++ b ∷ []) is ∙ sym (map-range_with_len_more bytes 0 n n (omega arith))

-- the bytes of all frames, by their numbers
pub bytes-ranged : (m : State) (count : ℕ) → count ≡ length m.frames → map (λ f. (frame_at m f).bytes) (range_with_len 0 count) ≡ map (λ (frame : Frame). frame.bytes) m.frames
bytes-ranged m count all = ext_get_or [] _ _ (length-map-range_with_len (λ f. (frame_at m f).bytes) 0 count ∙ all ∙ sym (length-map m.frames (λ (frame : Frame). frame.bytes))) (λ i low.
    let within : i < count = rw (length-map-range_with_len (λ f. (frame_at m f).bytes) 0 count) at low in
    get_or-map-range_with_len (λ f. (frame_at m f).bytes) 0 count i i [] within (omega arith)
    ∙ sym (get_or-map (λ (frame : Frame). frame.bytes) m.frames i (untouched Core) [] (rw (← all) within)))

-- the frames of a VM
pub vm-listed : (config : Configuration) (h : Held) (v : ℕ) (vm : VmSlot) → v < slot_count config → vm_at h v ≡ Some vm → (slot_at (state_of config h) v).frames ≡ listed (links_of h) vm.slot.frames
vm-listed config h v vm low at = ap (λ (slot : Slot). slot.frames) (slot-seen config h v low ∙ ap (slot_in (links_of h)) at)

pub vm-absent : (config : Configuration) (h : Held) (v : ℕ) → vm_at h v ≡ None → v < slot_count config → (slot_at (state_of config h) v).frames ≡ []
vm-absent config h v at low = ap (λ (slot : Slot). slot.frames) (slot-seen config h v low ∙ ap (slot_in (links_of h)) at)

pub vm-past : (config : Configuration) (h : Held) (v : ℕ) → slot_count config ≤ v → (slot_at (state_of config h) v).frames ≡ []
vm-past config h v past = ap (λ (slot : Slot). slot.frames) (get_or_past (state_of config h).slots v no_slot (rw (length-map-range_with_len (λ w. slot_in (links_of h) (vm_at h w)) 0 (slot_count config)) past))

-- the numbers that pass a test, for one more number
filtered-more : (test : ℕ → Bool) (n : ℕ) → filter test (range_with_len 0 (n + 1)) ≡ filter test (range_with_len 0 n) ++ cond (test n) (n ∷ []) []
filtered-more test n =
    let more : range_with_len 0 (n + 1) ≡ range_with_len 0 n ++ n ∷ [] = sym (map-id (range_with_len 0 (n + 1))) ∙ map-range_with_len_more (λ f. f) 0 n n (omega arith) ∙ ap (λ fs. fs ++ n ∷ []) (map-id (range_with_len 0 n)) in
    rw more (filter-append test (range_with_len 0 n) (n ∷ []))

pub filtered-taken : (test : ℕ → Bool) (n x : ℕ) (old new : List ℕ) → old ≡ filter test (range_with_len 0 n) → test n ≡ true → x ≡ n → new ≡ old ++ x ∷ [] → new ≡ filter test (range_with_len 0 (n + 1))
filtered-taken test n x old new so_far passes is pushed = rw (filtered-more test n, passes, ← so_far, ← is) pushed

pub filtered-left : (test : ℕ → Bool) (n : ℕ) (old : List ℕ) → old ≡ filter test (range_with_len 0 n) → test n ≡ false → old ≡ filter test (range_with_len 0 (n + 1))
filtered-left test n old so_far fails = rw (filtered-more test n, fails, append-nil) so_far
