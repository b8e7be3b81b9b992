-- A slot that is cleared.
use Rattle.std.proofs.Common.{ℕ, ◌≡◌, ◌<◌, ◌↔◌, ◌⊎◌, inl, inr, true, false, cond, None, Some, List, [], ◌∷◌, length, get_or, set, nat_eq, eq-eqb, refl, sym, ap, ◌∙◌, arith, length-set, get_or-set_same, get_or-set_other}
use Rattle.std.proofs.lemmas.Bool.{cases_eq, cases_lt, ne_eqb}
use Rattle.std.proofs.lemmas.List.{get_or_past}
use Rattle.std.specs.Ordering.{nat_cmp}
use Rattle.std.specs.FinMap as map
use Rattle.kc_types.specs.Configuration.{Configuration, slot_count}
use Rattle.kc_types.specs.declared.owner.Owner.{Owner}
use Rattle.kc_types.specs.declared.owner.Owner.TheVariants.{Core, Host, Free, Vm}
use Rattle.kc_model.specs.State.{State, Frame, frame_at, slot_at, mapped_at, untouched, no_slot, empty_slot}
use Rattle.kc_model.specs.Effects.{scrubbed, cleared}
use Rattle.kc_model.specs.Lawful.{IsLawful, IsLawfulFrame, same_owner, times_in}
use Rattle.kc_model.specs.Refusals.{refusal, conditions}
use Rattle.kc_types.specs.declared.call.Call.TheVariants.{Clear}
use Rattle.kc_model.specs.Effects.{effect}
use Rattle.kc_model.proofs.States.ZeroPage.{zero_page-is}
use Rattle.kc_model.proofs.Refusals.Served.{none-of}
use Rattle.kc_model.proofs.Refusals.Answered.{vm-in}
use Rattle.kc_model.proofs.States.Slots.{lawful-empty_slot}
use Rattle.kc_model.proofs.States.Sizes.{length-scrubbed}
use Rattle.kc_model.proofs.States.Changes.{vm-same}
use Rattle.kc_model.proofs.States.Members.{times_in-append}

-- a frame that the list does not hold stays
scrubbed-other : (frames : List Frame) (fs : List ℕ) (k : ℕ) (d : Frame) → times_in fs k ≡ 0 → get_or (scrubbed frames fs) k d ≡ get_or frames k d
scrubbed-other frames [] k d none = refl
scrubbed-other frames (f ∷ fs) k d none =
    let rest : times_in fs k ≡ 0 = omega (arith, none) in
    let other : k ≡ f → ⊥ = λ e. (let same : nat_eq f k ≡ true = eq-eqb f k (sym e) in grind (arith, none, same)) in
    scrubbed-other (set frames f (untouched Free)) fs k d rest ∙ get_or-set_other frames f k (untouched Free) d other

-- a frame that is untouched stays untouched
scrubbed-untouched : (frames : List Frame) (fs : List ℕ) (k : ℕ) (d : Frame) → k < length frames → get_or frames k d ≡ untouched Free → get_or (scrubbed frames fs) k d ≡ untouched Free
scrubbed-untouched frames [] k d lt is = is
scrubbed-untouched frames (f ∷ fs) k d lt is = scrubbed-untouched (set frames f (untouched Free)) fs k d (rw length-set lt) (elim (cases_eq k f) [
  | inl same ↦ rw (← same) (get_or-set_same frames k (untouched Free) d lt)
  | inr other ↦ get_or-set_other frames f k (untouched Free) d other ∙ is
])

-- a frame that the list holds is untouched afterwards
scrubbed-listed : (frames : List Frame) (fs : List ℕ) (k : ℕ) (d : Frame) → k < length frames → 0 < times_in fs k → get_or (scrubbed frames fs) k d ≡ untouched Free
scrubbed-listed frames [] k d lt some = absurd (omega arith)
scrubbed-listed frames (f ∷ fs) k d lt some = elim (cases_eq k f) [
  | inl same ↦ scrubbed-untouched (set frames f (untouched Free)) fs k d (rw length-set lt) (rw (← same) (get_or-set_same frames k (untouched Free) d lt))
  | inr other ↦ scrubbed-listed (set frames f (untouched Free)) fs k d (rw length-set lt)
      (let differ : nat_eq f k ≡ false = ne_eqb f k (λ e. other (sym e)) in grind (arith, some, differ))
]

-- whether the slot owns the frame
owns : (m : State) (v : ℕ) (k : ℕ) → IsLawful m → v < slot_count m.config → ((times_in (slot_at m v).frames k ≡ 1) × ((frame_at m k).owner ≡ Vm v)) ⊎ ((times_in (slot_at m v).frames k ≡ 0) × ((frame_at m k).owner ≡ Vm v → ⊥))
owns m v k is lt = decide (frame_at m k).owner (is.listed v lt k)
  where
    decide : (owner : Owner) → times_in (slot_at m v).frames k ≡ cond (same_owner owner (Vm v)) 1 0 → ((times_in (slot_at m v).frames k ≡ 1) × (owner ≡ Vm v)) ⊎ ((times_in (slot_at m v).frames k ≡ 0) × (owner ≡ Vm v → ⊥))
    decide Core h = inr (h, λ e. cc)
    decide Host h = inr (h, λ e. cc)
    decide Free h = inr (h, λ e. cc)
    decide (Vm w) h = elim (cases_eq w v) [
      | inl same ↦ let t = eq-eqb w v same in inl (grind (arith, h, t), ap Vm same)
      | inr other ↦ let t = ne_eqb w v other in inr (grind (arith, h, t), λ e. other (let s : w ≡ v = cc in s))
    ]

exists-vm : (m : State) (k v : ℕ) → (frame_at m k).owner ≡ Vm v → k < length m.frames
exists-vm m k v owned = elim (cases_lt k (length m.frames)) [
  | inl lt ↦ lt
  | inr past ↦ let default = ap (λ (x : Frame). x.owner) (get_or_past m.frames k (untouched Core) past) in cc
]

-- a frame after the clear: one of the slot's is untouched, another as before
pub after : (m : State) (v k : ℕ) → IsLawful m → v < slot_count m.config → (((frame_at m k).owner ≡ Vm v) × (frame_at (cleared m v) k ≡ untouched Free) × (times_in (slot_at m v).frames k ≡ 1)) ⊎ (((frame_at m k).owner ≡ Vm v → ⊥) × (frame_at (cleared m v) k ≡ frame_at m k) × (times_in (slot_at m v).frames k ≡ 0))
after m v k is lt = elim (owns m v k is lt) [
  | inl mine ↦ inl (mine.1, scrubbed-listed m.frames (slot_at m v).frames k (untouched Core) (exists-vm m k v mine.1) (let h = mine.0 in omega (arith, h)), mine.0)
  | inr other ↦ inr (other.1, scrubbed-other m.frames (slot_at m v).frames k (untouched Core) other.0, other.0)
]

-- a frame of another owner is as before
pub kept-frame : (m : State) (v k : ℕ) → IsLawful m → v < slot_count m.config → ((frame_at m k).owner ≡ Vm v → ⊥) → frame_at (cleared m v) k ≡ frame_at m k
kept-frame m v k is lt other = elim (after m v k is lt) [
  | inl mine ↦ absurd (other mine.0)
  | inr kept ↦ kept.1
]

lawful-untouched : (config : Configuration) (k v : ℕ) (frame : Frame) → IsLawfulFrame config k frame → frame.owner ≡ Vm v → IsLawfulFrame config k (untouched Free)
lawful-untouched config k v frame is owned = record {
  core = (λ h. cc, λ h. let core = is.core.1 h in cc);
  mapped = refl;
  shared = omega arith;
  sharer = λ h. absurd (omega arith);
  reached = λ h. cc;
  zeroed = λ h. refl;
  page = zero_page-is;
  slot = λ w h. cc;
  gfn = λ g h. cc;
}

pub slot-cleared : (m : State) (v : ℕ) → v < length m.slots → slot_at (cleared m v) v ≡ empty_slot m.config.version
slot-cleared m v lt = get_or-set_same m.slots v (empty_slot m.config.version) no_slot lt

pub slot-kept : (m : State) (v w : ℕ) → (w ≡ v → ⊥) → slot_at (cleared m v) w ≡ slot_at m w
slot-kept m v w ne = get_or-set_other m.slots v w (empty_slot m.config.version) no_slot ne

listed-after : (m : State) (v w k : ℕ) → IsLawful m → v < slot_count m.config → w < slot_count m.config → times_in (slot_at (cleared m v) w).frames k ≡ cond (same_owner (frame_at (cleared m v) k).owner (Vm w)) 1 0
listed-after m v w k is v_in lt = elim (cases_eq w v) [
  | inl same ↦ rw (same, slot-cleared m v (rw is.slots v_in)) (elim (after m v k is v_in) [
    | inl mine ↦ rw mine.1 refl
    | inr other ↦ rw other.1 (sym other.2 ∙ is.listed v v_in k)
  ])
  | inr ne ↦ rw (slot-kept m v w ne) (elim (after m v k is v_in) [
    | inl mine ↦ rw mine.1 (let h = is.listed w lt k in let o : same_owner (frame_at m k).owner (Vm w) ≡ false = ap (λ x. same_owner x (Vm w)) mine.0 ∙ ne_eqb v w (λ e. ne (sym e)) in grind (arith, h, o))
    | inr other ↦ rw other.1 (is.listed w lt k)
  ])
]

mapped-after : (m : State) (v w g k : ℕ) → IsLawful m → v < slot_count m.config → w < slot_count m.config → (mapped_at (cleared m v) w g ≡ Some k) ↔ (((frame_at (cleared m v) k).owner ≡ Vm w) × ((frame_at (cleared m v) k).gfn ≡ Some g))
mapped-after m v w g k is v_in lt = elim (cases_eq w v) [
  | inl same ↦ rw (same, slot-cleared m v (rw is.slots v_in), map.get-empty nat_cmp g) (elim (after m v k is v_in) [
    | inl mine ↦ rw mine.1 (λ e. cc, λ e. let owner = e.0 in cc)
    | inr other ↦ rw other.1 (λ e. cc, λ e. absurd (other.0 e.0))
  ])
  | inr ne ↦ rw (slot-kept m v w ne) (elim (after m v k is v_in) [
    | inl mine ↦ rw mine.1 (λ e. absurd (ne (vm-same w v (sym ((is.mapped w g k lt).0 e).0 ∙ mine.0))), λ e. let owner = e.0 in cc)
    | inr other ↦ rw other.1 (is.mapped w g k lt)
  ])
]

-- clearing a slot keeps the state lawful
pub lawful-cleared : (m : State) (v : ℕ) → IsLawful m → v < slot_count m.config → IsLawful (cleared m v)
lawful-cleared m v is v_in = record {
  config = is.config;
  frames = length-scrubbed m.frames (slot_at m v).frames ∙ is.frames;
  slots = length-set m.slots v (empty_slot m.config.version) ∙ is.slots;
  each_frame = λ k lt. let within : k < length m.frames = rw length-scrubbed at lt in elim (after m v k is v_in) [
    | inl mine ↦ rw mine.1 (lawful-untouched m.config k v (frame_at m k) (is.each_frame k within) mine.0)
    | inr other ↦ rw other.1 (is.each_frame k within)
  ];
  each_slot = λ w within. elim (cases_eq w v) [
    | inl same ↦ rw (same, slot-cleared m v (rw is.slots v_in)) (lawful-empty_slot m.config)
    | inr other ↦ rw (slot-kept m v w other) (is.each_slot w within)
  ];
  free = λ k. times_in-append m.free (slot_at m v).frames k ∙ elim (after m v k is v_in) [
    | inl mine ↦ rw (mine.1, mine.2) (let h = is.free k in let o : same_owner (frame_at m k).owner Free ≡ false = ap (λ o. same_owner o Free) mine.0 in grind (arith, h, o))
    | inr other ↦ rw (other.1, other.2) (let h = is.free k in omega (arith, h))
  ];
  listed = λ w lt k. listed-after m v w k is v_in lt;
  mapped = λ w g k lt. mapped-after m v w g k is v_in lt;
  shared = λ w k lt. elim (after m v k is v_in) [
    | inl mine ↦ rw mine.1 (λ owned some. absurd cc)
    | inr other ↦ rw other.1 (λ owned some. let differ : w ≡ v → ⊥ = λ e. other.0 (owned ∙ ap Vm e) in rw (slot-kept m v w differ) (is.shared w k lt owned some))
  ];
}

pub lawful-clear : (m : State) (v : ℕ) → IsLawful m → refusal m (Clear v) ≡ None → IsLawful (effect m (Clear v)).1
lawful-clear m v is served = lawful-cleared m v is (vm-in m v (none-of (conditions m (Clear v)) served 0))
