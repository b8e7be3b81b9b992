-- The calls that hand a frame to a slot keep the state lawful.
use Rattle.std.proofs.Common.{ℕ, ◌≡◌, ◌<◌, ◌≤◌, ◌+◌, ◌⊎◌, ◌||◌, inl, inr, true, false, None, Some, is_some, List, [], ◌∷◌, ◌++◌, length, get_or, set, nat_eq, eq-eqb, refl, sym, ap, subst, ◌∙◌, arith, length-set, All}
use Rattle.std.specs.List.{list_any}
use Rattle.std.proofs.lemmas.Bool.{cases_eq, leb-false}
use Rattle.std.proofs.lemmas.List.Elements.{All-set}
use Rattle.std.specs.FinMap as map
use Rattle.std.proofs.lemmas.List.{set-set}
use Rattle.kc_types.specs.Configuration.{Configuration, slot_count, vcpus_of, gfns_of, roots_of, most_images}
use Rattle.kc_types.specs.declared.version.Version.{Version}
use Rattle.kc_types.specs.declared.call.Call.TheVariants.{Remap, Map}
use Rattle.kc_types.specs.declared.owner.Owner.{Owner}
use Rattle.kc_types.specs.declared.owner.Owner.TheVariants.{Host, Free, Vm}
use Rattle.kc_types.specs.declared.slot.Phase.TheVariants.{Empty, Booting, Active}
use Rattle.kc_model.specs.State.{State, Frame, Slot, Image, frame_at, slot_at, vcpu_at, image_at, mapped_at, with_frame, with_slot, with_vcpu, absent_vcpu}
use Rattle.kc_model.specs.Refusals.{refusal, pending, next_gfn, pages_of, conditions}
use Rattle.kc_model.specs.Effects.{effect, with_leaf}
use Rattle.kc_model.specs.Lawful.{IsLawful, IsLawfulFrame, IsLawfulSlot, IsLawfulImage, Apart, holds, has_leaf, same_owner, is_vm}
use Rattle.kc_model.proofs.Refusals.Served.{when-none, none-of}
use Rattle.kc_model.proofs.Refusals.Answered.{vm-in, vcpu-in, frame-in, was-host, was-booting, was-active, was-registered, was-pending, was-unmapped, was-room, is_none-of, is_short-is}
use Rattle.kc_model.proofs.States.Lists.{lists-other, lists-gained, changed-same, changed-other}
use Rattle.kc_model.proofs.States.Leaves.{leaves-grown, root-in}
use Rattle.kc_model.proofs.States.Slots.{lawful-with_vcpu, waits-not, next-held, apart-set, holds-more, list_any-set_more}
use Rattle.kc_model.proofs.States.Tables.{got-elsewhere, has-after, table-gained}
use Rattle.kc_model.proofs.States.Changes.{lawful-handed, slot-here, other_vm}

-- the frame and the slot after the hand
pub handed_frame : State → ℕ → ℕ → ℕ → Frame
handed_frame m v g f = record (frame_at m f) { owner = Vm v; gfn = Some g; present = false }

pub handed_slot : Slot → ℕ → ℕ → List Image → Slot
handed_slot slot g f images = record slot { frames = slot.frames ++ f ∷ []; mapped = map.insert slot.mapped g f; leaves = with_leaf slot.leaves g; images = images }

lawful-handed_frame : (m : State) (v g f : ℕ) → IsLawfulFrame m.config f (frame_at m f) → (frame_at m f).owner ≡ Host → v < slot_count m.config → g < gfns_of m.config.version → IsLawfulFrame m.config f (handed_frame m v g f)
unfolding handed_frame
lawful-handed_frame m v g f is host v_in g_in = record {
  core = (λ h. absurd cc, λ h. let core = is.core.1 h in absurd cc);
  mapped = refl;
  shared = is.shared;
  sharer = λ h. refl;
  reached = λ h. absurd cc;
  zeroed = λ h. absurd cc;
  page = is.page;
  slot = λ w h. let same : v ≡ w = cc in omega arith;
  gfn = λ h e. let same : g ≡ h = cc in omega arith;
}

lawful-handed_slot : (config : Configuration) (slot : Slot) (g f : ℕ) (images : List Image) → IsLawfulSlot config slot → (slot.phase ≡ Empty → ⊥) → g < gfns_of config.version → (has_leaf slot.leaves g ≡ true) ⊎ (length slot.leaves < config.leaves)
    → length images ≤ most_images config.version → All (IsLawfulImage config.version) images → Apart images → (slot.phase ≡ Booting → (h : ℕ) → (is_some (map.get slot.mapped h) || nat_eq h g) ≡ list_any (holds h) images) → IsLawfulSlot config (handed_slot slot g f images)
unfolding handed_slot
lawful-handed_slot config slot g f images is used g_in room few each apart booting =
    let grown = leaves-grown (roots_of config.version) config.leaves slot.leaves g room (root-in config.version g g_in) is.few_leaves is.leaves_once is.each_leaf in
    record {
      vcpus = is.vcpus;
      each_vcpu = is.each_vcpu;
      few_images = few;
      each_image = each;
      apart = apart;
      few_leaves = grown.few;
      leaves_once = grown.once;
      each_leaf = grown.each;
      rooted = λ h k e. elim (cases_eq h g) [
        | inl same ↦ rw same grown.here
        | inr other ↦ grown.kept h (is.rooted h k (sym (got-elsewhere slot.mapped g f h other) ∙ e))
      ];
      booting = λ b h. has-after slot.mapped g f h ∙ booting b h;
      empty = λ e. absurd (used e);
    }

host-no_vm : (owner : Owner) (w : ℕ) → owner ≡ Host → same_owner owner (Vm w) ≡ false
host-no_vm owner w host = ap (λ (o : Owner). same_owner o (Vm w)) host

-- handing a frame of the host's to a slot, which may change in other ways too
pub lawful-hand : (m : State) (v g f : ℕ) (slot : Slot) → IsLawful m → v < slot_count m.config → g < gfns_of m.config.version → f < length m.frames → (frame_at m f).owner ≡ Host → mapped_at m v g ≡ None
    → slot.frames ≡ (slot_at m v).frames ++ f ∷ [] → slot.mapped ≡ map.insert (slot_at m v).mapped g f → slot.phase ≡ (slot_at m v).phase → IsLawfulSlot m.config slot
    → IsLawful (with_slot (with_frame m f (handed_frame m v g f)) v slot)
unfolding handed_frame
lawful-hand m v g f slot is v_in g_in lt host unmapped frames mapped phase there =
    let here = lawful-handed_frame m v g f (is.each_frame f lt) host v_in g_in in
    let mine : same_owner (Vm v) (Vm v) ≡ true = eq-eqb v v refl in
    let not_free : same_owner (frame_at m f).owner Free ≡ false = ap (λ (o : Owner). same_owner o Free) host in
    lawful-handed m f (handed_frame m v g f) v slot m.free is lt v_in here there
    (λ w ne. (host-no_vm (frame_at m f).owner w host, other_vm (Vm v) v w refl ne))
    (lists-other m f (handed_frame m v g f) Free m.free lt is.free not_free refl)
    (rw frames (lists-gained m f (handed_frame m v g f) (Vm v) (slot_at m v).frames lt (is.listed v v_in) (host-no_vm (frame_at m f).owner v host) mine))
    (rw mapped (table-gained m f (handed_frame m v g f) v g is v_in lt (λ e. cc) unmapped refl refl))
    (λ k. elim (cases_eq k f) [
      | inl same ↦ rw (same, changed-same m f (handed_frame m v g f) lt) (λ owned some. let vm = (is.each_frame f lt).sharer some in let not_vm : is_vm (frame_at m f).owner ≡ false = ap is_vm host in absurd cc)
      | inr other ↦ rw (changed-other m f (handed_frame m v g f) k other) (λ owned some. phase ∙ is.shared v k v_in owned some)
    ])

-- a slot that is written, and then changed
pub written-twice : (m : State) (v : ℕ) (slot : Slot) (change : Slot → Slot) → v < length m.slots → with_slot (with_slot m v slot) v (change (slot_at (with_slot m v slot) v)) ≡ with_slot m v (change slot)
written-twice m v slot change lt = ap (λ (s : Slot). with_slot (with_slot m v slot) v (change s)) (slot-here m v slot lt) ∙ ap (λ (slots : List Slot). record m { slots = slots }) (set-set m.slots v slot (change slot))

more_pages : (version : Version) (image : Image) → IsLawfulImage version image → image.pages < pages_of image.len → IsLawfulImage version (record image { pages = image.pages + 1 })
more_pages version image is short = record { some = is.some; small = is.small; within = is.within; pages = omega arith }

-- a served `remap`
pub record IsRemap (m : State) (v i f : ℕ) : Type 0 where
  pub vm : v < slot_count m.config
  pub frame : f < m.config.frames
  pub booting : (slot_at m v).phase ≡ Booting
  pub image : i < length (slot_at m v).images
  pub short : (image_at m v i).pages < pages_of (image_at m v i).len
  pub host : (frame_at m f).owner ≡ Host
  pub room : (has_leaf (slot_at m v).leaves (next_gfn m v i) ≡ true) ⊎ (length (slot_at m v).leaves < m.config.leaves)

pub remap-served : (m : State) (v i f : ℕ) → refusal m (Remap v i f) ≡ None → IsRemap m v i f
remap-served m v i f served =
    let none = none-of (conditions m (Remap v i f)) served in
    record {
      vm = vm-in m v (none 0);
      frame = frame-in m f (none 1);
      booting = was-booting m v (none 3);
      image = leb-false _ _ (when-none _ _ (none 4));
      short = is_short-is (image_at m v i) (when-none _ _ (none 5));
      host = was-host m f (none 6);
      room = was-room m v (next_gfn m v i) (none 7);
    }

pub lawful-remap : (m : State) (v i f : ℕ) → IsLawful m → refusal m (Remap v i f) ≡ None → IsLawful (effect m (Remap v i f)).1
unfolding handed_frame handed_slot
lawful-remap m v i f is served =
    let seen = remap-served m v i f served in
    let v_in = seen.vm in
    let lt : f < length m.frames = rw is.frames seen.frame in
    let booting = seen.booting in
    let i_in = seen.image in
    let short = seen.short in
    let host = seen.host in
    let slot = slot_at m v in
    let there = is.each_slot v v_in in
    let g = next_gfn m v i in
    let image = image_at m v i in
    let absent : Image = record { base = 0; len = 0; pages = 0 } in
    let image_is : IsLawfulImage m.config.version image = there.each_image i absent i_in in
    let g_in : g < gfns_of m.config.version = (let within = image_is.within in omega arith) in
    let paged : Image = record image { pages = image.pages + 1 } in
    let unheld = next-held m.config.version slot.images i absent g there.apart there.each_image i_in refl short in
    let unmapped : mapped_at m v g ≡ None = is_none-of (mapped_at m v g) (there.booting booting g ∙ unheld) in
    let lawful_slot = lawful-handed_slot m.config slot g f (set slot.images i paged) there (λ h. cc) g_in seen.room
    (rw length-set there.few_images)
    (All-set (IsLawfulImage m.config.version) slot.images i paged (more_pages m.config.version image image_is short) there.each_image)
    (apart-set slot.images i paged absent i_in refl refl there.apart)
    (λ b h. rw (there.booting b h) (sym (list_any-set_more (holds h) slot.images i paged absent (nat_eq h g) i_in (holds-more h image.base image.pages)))) in
    subst IsLawful (sym (written-twice (with_frame m f (handed_frame m v g f)) v (handed_slot slot g f slot.images) (λ (s : Slot). record s { images = set slot.images i paged }) (rw is.slots v_in)))
    (lawful-hand m v g f (handed_slot slot g f (set slot.images i paged)) is v_in g_in lt host unmapped refl refl refl lawful_slot)

-- a served `map`
pub record IsMap (m : State) (v c f : ℕ) : Type 0 where
  pub vm : v < slot_count m.config
  pub vcpu : c < vcpus_of m.config.version
  pub frame : f < m.config.frames
  pub active : (slot_at m v).phase ≡ Active
  pub registered : (vcpu_at m v c).registered ≡ true
  pub waits : (vcpu_at m v c).fault ≡ Some (pending m v c)
  pub unmapped : mapped_at m v (pending m v c) ≡ None
  pub host : (frame_at m f).owner ≡ Host
  pub room : (has_leaf (slot_at m v).leaves (pending m v c) ≡ true) ⊎ (length (slot_at m v).leaves < m.config.leaves)

pub map-served : (m : State) (v c f : ℕ) → refusal m (Map v c f) ≡ None → IsMap m v c f
map-served m v c f served =
    let none = none-of (conditions m (Map v c f)) served in
    record {
      vm = vm-in m v (none 0);
      vcpu = vcpu-in m c (none 1);
      frame = frame-in m f (none 2);
      active = was-active m v (none 4);
      registered = was-registered m v c (none 5);
      waits = was-pending (vcpu_at m v c).fault _ (none 6);
      unmapped = was-unmapped (mapped_at m v (pending m v c)) _ (none 7);
      host = was-host m f (none 8);
      room = was-room m v (pending m v c) (none 9);
    }

pub lawful-map : (m : State) (v c f : ℕ) → IsLawful m → refusal m (Map v c f) ≡ None → IsLawful (effect m (Map v c f)).1
unfolding handed_frame handed_slot
lawful-map m v c f is served =
    let seen = map-served m v c f served in
    let v_in = seen.vm in
    let c_in = seen.vcpu in
    let lt : f < length m.frames = rw is.frames seen.frame in
    let active = seen.active in
    let host = seen.host in
    let g = pending m v c in
    let slot = slot_at m v in
    let there = is.each_slot v v_in in
    let g_in : g < gfns_of m.config.version = (there.each_vcpu c).gfn g seen.waits in
    let handed_is = lawful-handed_slot m.config slot g f slot.images there (λ h. cc) g_in seen.room there.few_images there.each_image there.apart (λ b h. absurd cc) in
    let spent = record (vcpu_at m v c) { fault = None } in
    let lawful_slot = lawful-with_vcpu m.config (handed_slot slot g f slot.images) c spent handed_is (λ h. cc) c_in (waits-not m.config.version slot.phase spent refl) in
    subst IsLawful (sym (written-twice (with_frame m f (handed_frame m v g f)) v (handed_slot slot g f slot.images) (λ (s : Slot). with_vcpu s c (record (get_or s.vcpus c absent_vcpu) { fault = None })) (rw is.slots v_in)))
    (lawful-hand m v g f (with_vcpu (handed_slot slot g f slot.images) c spent) is v_in g_in lt host seen.unmapped refl refl refl lawful_slot)
