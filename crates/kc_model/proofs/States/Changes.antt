-- What a change of one frame, of one slot, or of both leaves of a lawful state.
use Rattle.std.proofs.Common.{ℕ, ◌≡◌, ◌<◌, ◌↔◌, inl, inr, true, false, Some, List, length, eq-eqb, refl, sym, ap, subst, ◌∙◌, length-set, get_or-set_same, get_or-set_other}
use Rattle.std.proofs.lemmas.Bool.{cases_eq, cases_lt, ne_eqb}
use Rattle.std.proofs.lemmas.List.{get_or_past}
use Rattle.std.specs.FinMap as map
use Rattle.kc_types.specs.declared.owner.Owner.{Owner}
use Rattle.kc_types.specs.declared.owner.Owner.TheVariants.{Core, Host, Free, Vm}
use Rattle.kc_types.specs.declared.slot.Phase.TheVariants.{Active}
use Rattle.kc_model.specs.State.{State, Frame, Slot, frame_at, slot_at, with_frame, with_slot, untouched, no_slot}
use Rattle.kc_model.specs.Lawful.{IsLawful, IsLawfulFrame, IsLawfulSlot, ListsOnce, same_owner, is_vm}
use Rattle.kc_model.proofs.States.Frames.{each-set, part-set}
use Rattle.kc_model.proofs.States.Lists.{lists-other, changed-same, changed-other}
use Rattle.kc_types.specs.Configuration.{slot_count}

-- a slot after the change, and another one
pub slot-here : (m : State) (v : ℕ) (slot : Slot) → v < length m.slots → slot_at (with_slot m v slot) v ≡ slot
slot-here m v slot lt = get_or-set_same m.slots v slot no_slot lt

pub slot-elsewhere : (m : State) (v : ℕ) (slot : Slot) (w : ℕ) → (w ≡ v → ⊥) → slot_at (with_slot m v slot) w ≡ slot_at m w
slot-elsewhere m v slot w ne = get_or-set_other m.slots v w slot no_slot ne

-- owners that differ
pub not_vm-of : (owner : Owner) (v : ℕ) → is_vm owner ≡ false → same_owner owner (Vm v) ≡ false
not_vm-of Core v h = refl
not_vm-of Host v h = refl
not_vm-of Free v h = refl
not_vm-of (Vm w) v h = cc

pub free-is : (owner : Owner) → same_owner owner Free ≡ true → owner ≡ Free
free-is Free h = refl
free-is Core h = cc
free-is Host h = cc
free-is (Vm w) h = cc

pub vm-same : (v w : ℕ) → Vm v ≡ Vm w → v ≡ w
vm-same v w e = cc

pub other_vm : (owner : Owner) (v w : ℕ) → owner ≡ Vm v → (w ≡ v → ⊥) → same_owner owner (Vm w) ≡ false
other_vm owner v w is ne = ap (λ (o : Owner). same_owner o (Vm w)) is ∙ ne_eqb v w (λ e. ne (sym e))

pub not_owner-of : (owner : Owner) (w : ℕ) → same_owner owner (Vm w) ≡ false → owner ≡ Vm w → ⊥
not_owner-of owner w h e = let same = eq-eqb w w refl in let is : same_owner owner (Vm w) ≡ true = ap (λ (o : Owner). same_owner o (Vm w)) e ∙ same in cc

-- a frame that is not the core's exists
pub exists : (m : State) (f : ℕ) → ((frame_at m f).owner ≡ Core → ⊥) → f < length m.frames
exists m f not_core = elim (cases_lt f (length m.frames)) [
  | inl lt ↦ lt
  | inr past ↦ absurd (not_core (ap (λ (x : Frame). x.owner) (get_or_past m.frames f (untouched Core) past)))
]

-- a frame that keeps its owner and its guest frame
pub lawful-with_frame : (m : State) (f : ℕ) (frame : Frame) → IsLawful m → f < length m.frames → frame.owner ≡ (frame_at m f).owner → frame.gfn ≡ (frame_at m f).gfn → IsLawfulFrame m.config f frame
    → ((v : ℕ) → v < slot_count m.config → frame.owner ≡ Vm v → 0 < frame.share → (slot_at m v).phase ≡ Active) → IsLawful (with_frame m f frame)
lawful-with_frame m f frame is lt owner gfn here sharing =
    let owners = part-set (λ (x : Frame). x.owner) m.frames f frame (untouched Core) owner in
    let gfns = part-set (λ (x : Frame). x.gfn) m.frames f frame (untouched Core) gfn in
    record {
      config = is.config;
      frames = length-set m.frames f frame ∙ is.frames;
      slots = is.slots;
      each_frame = each-set (IsLawfulFrame m.config) m.frames f frame (untouched Core) is.each_frame here;
      each_slot = is.each_slot;
      free = λ k. rw (owners k) (is.free k);
      listed = λ v within k. rw (owners k) (is.listed v within k);
      mapped = λ v g k within. rw (owners k, gfns k) (is.mapped v g k within);
      shared = λ v k within. elim (cases_eq k f) [
        | inl same ↦ rw (same, changed-same m f frame lt) (sharing v within)
        | inr other ↦ rw (changed-other m f frame k other) (is.shared v k within)
      ];
    }

-- a frame that neither was a VM's nor becomes a VM's
pub lawful-moved : (m : State) (f : ℕ) (frame : Frame) (free : List ℕ) → IsLawful m → f < length m.frames → is_vm (frame_at m f).owner ≡ false → is_vm frame.owner ≡ false → IsLawfulFrame m.config f frame → ListsOnce (with_frame m f frame) Free free → IsLawful (record (with_frame m f frame) { free = free })
lawful-moved m f frame free is lt before after here once = record {
  config = is.config;
  frames = length-set m.frames f frame ∙ is.frames;
  slots = is.slots;
  each_frame = each-set (IsLawfulFrame m.config) m.frames f frame (untouched Core) is.each_frame here;
  each_slot = is.each_slot;
  free = once;
  listed = λ v within. lists-other m f frame (Vm v) _ lt (is.listed v within) (not_vm-of _ v before) (not_vm-of _ v after);
  mapped = λ v g k within. elim (cases_eq k f) [
    | inl same ↦ rw (same, changed-same m f frame lt) (
      λ h. let was : (frame_at m f).owner ≡ Vm v = ((is.mapped v g f within).0 h).0 in let vm : is_vm (frame_at m f).owner ≡ true = ap is_vm was in cc,
      λ h. let vm : is_vm frame.owner ≡ true = ap is_vm h.0 in cc,
    )
    | inr other ↦ rw (changed-other m f frame k other) (is.mapped v g k within)
  ];
  shared = λ v k within. elim (cases_eq k f) [
    | inl same ↦ rw (same, changed-same m f frame lt) (λ owned some. let vm : is_vm frame.owner ≡ true = ap is_vm owned in absurd cc)
    | inr other ↦ rw (changed-other m f frame k other) (is.shared v k within)
  ];
}

-- a slot that keeps its frames and its table
pub lawful-with_slot : (m : State) (v : ℕ) (slot : Slot) → IsLawful m → v < slot_count m.config → slot.frames ≡ (slot_at m v).frames → slot.mapped ≡ (slot_at m v).mapped → IsLawfulSlot m.config slot
    → ((slot_at m v).phase ≡ Active → slot.phase ≡ Active) → IsLawful (with_slot m v slot)
lawful-with_slot m v slot is v_in frames mapped here active =
    let lists = part-set (λ (x : Slot). x.frames) m.slots v slot no_slot frames in
    let tables = part-set (λ (x : Slot). x.mapped) m.slots v slot no_slot mapped in
    record {
      config = is.config;
      frames = is.frames;
      slots = length-set m.slots v slot ∙ is.slots;
      each_frame = is.each_frame;
      each_slot = λ w within. elim (cases_eq w v) [
        | inl same ↦ rw (same, slot-here m v slot (rw is.slots v_in)) here
        | inr other ↦ rw (slot-elsewhere m v slot w other) (is.each_slot w within)
      ];
      free = is.free;
      listed = λ w within k. rw (lists w) (is.listed w within k);
      mapped = λ w g k within. rw (tables w) (is.mapped w g k within);
      shared = λ w k within owned some. elim (cases_eq w v) [
        | inl same ↦ rw (same, slot-here m v slot (rw is.slots v_in)) (active (subst (λ x. (slot_at m x).phase ≡ Active) same (is.shared w k within owned some)))
        | inr other ↦ rw (slot-elsewhere m v slot w other) (is.shared w k within owned some)
      ];
    }

-- a frame and a slot change together: the frame is not, and was not, another slot's
pub lawful-handed : (m : State) (f : ℕ) (frame : Frame) (v : ℕ) (slot : Slot) (free : List ℕ) → IsLawful m → f < length m.frames → v < slot_count m.config
    → IsLawfulFrame m.config f frame → IsLawfulSlot m.config slot
    → ((w : ℕ) → (w ≡ v → ⊥) → (same_owner (frame_at m f).owner (Vm w) ≡ false) × (same_owner frame.owner (Vm w) ≡ false))
    → ListsOnce (with_frame m f frame) Free free → ListsOnce (with_frame m f frame) (Vm v) slot.frames
    → ((g k : ℕ) → (map.get slot.mapped g ≡ Some k) ↔ (((frame_at (with_frame m f frame) k).owner ≡ Vm v) × ((frame_at (with_frame m f frame) k).gfn ≡ Some g)))
    → ((k : ℕ) → (frame_at (with_frame m f frame) k).owner ≡ Vm v → 0 < (frame_at (with_frame m f frame) k).share → slot.phase ≡ Active)
    → IsLawful (record (with_slot (with_frame m f frame) v slot) { free = free })
lawful-handed m f frame v slot free is lt v_in here there apart once listed table sharing = record {
  config = is.config;
  frames = length-set m.frames f frame ∙ is.frames;
  slots = length-set m.slots v slot ∙ is.slots;
  each_frame = each-set (IsLawfulFrame m.config) m.frames f frame (untouched Core) is.each_frame here;
  each_slot = λ w within. elim (cases_eq w v) [
    | inl same ↦ rw (same, slot-here m v slot (rw is.slots v_in)) there
    | inr other ↦ rw (slot-elsewhere m v slot w other) (is.each_slot w within)
  ];
  free = once;
  listed = λ w within. elim (cases_eq w v) [
    | inl same ↦ rw (same, slot-here m v slot (rw is.slots v_in)) listed
    | inr other ↦ rw (slot-elsewhere m v slot w other) (lists-other m f frame (Vm w) _ lt (is.listed w within) (apart w other).0 (apart w other).1)
  ];
  mapped = λ w g k within. elim (cases_eq w v) [
    | inl same ↦ rw (same, slot-here m v slot (rw is.slots v_in)) (table g k)
    | inr other ↦ rw (slot-elsewhere m v slot w other) (elim (cases_eq k f) [
      | inl at ↦ rw (at, changed-same m f frame lt) (
        λ h. absurd (not_owner-of _ w (apart w other).0 ((is.mapped w g f within).0 h).0),
        λ h. absurd (not_owner-of _ w (apart w other).1 h.0),
      )
      | inr away ↦ rw (changed-other m f frame k away) (is.mapped w g k within)
    ])
  ];
  shared = λ w k within. elim (cases_eq w v) [
    | inl same ↦ rw (same, slot-here m v slot (rw is.slots v_in)) (sharing k)
    | inr other ↦ rw (slot-elsewhere m v slot w other) (elim (cases_eq k f) [
      | inl at ↦ rw (at, changed-same m f frame lt) (λ owned some. absurd (not_owner-of _ w (apart w other).1 owned))
      | inr away ↦ rw (changed-other m f frame k away) (is.shared w k within)
    ])
  ];
}
