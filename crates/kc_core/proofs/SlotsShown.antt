-- The slots of a core, and what a number that does not exist shows.
use Rattle.std.proofs.Common.{ℕ, ◌≡◌, ◌<◌, ◌≤◌, inl, inr, true, false, Bor, Option, Some, None, IfSome, get_or, refl, sym, ap, ◌∙◌, arith}
use Rattle.std.specs.Option.{option_copied}
use Rattle.std.specs.Ordering.{nat_cmp}
use Rattle.std.specs.FinMap as map
use Rattle.std.proofs.lemmas.Bool.{cases_lt}
use Rattle.std.proofs.lemmas.List.{get_or_past}
use Rattle.kc_types.specs.Configuration.{Configuration, slot_count, vcpus_of, gfns_of}
use Rattle.kc_types.specs.declared.owner.Owner.TheVariants.{Core, Vm}
use Rattle.kc_model.specs.State.{State, Slot, Vcpu, slot_at, vcpu_at, mapped_at, absent_vcpu}
use Rattle.kc_model.specs.Lawful.{IsLawful}
use Rattle.kc_model.proofs.States.Changes.{exists}
use Rattle.kc_model.proofs.States.Slots.{slot-past}
use Rattle.kc_vms.specs.Vm.{VmSlot}
use Rattle.kc_parts.specs.Parts.{Held, vm_at, links_of}
use Rattle.kc_parts.specs.States.{slot_in, unlinked_slot, state_of}
use Rattle.kc_parts.proofs.Seen.{slot-seen}

-- a slot that is here is the slot of its number, except for its list
pub slot-shown : (config : Configuration) (h : Held) (v : ℕ) → v < slot_count config → (there : Option (Bor VmSlot)) → option_copied there ≡ vm_at h v
    → IfSome there (λ slot. slot_at (state_of config h) v ≡ unlinked_slot slot.now.slot (slot_at (state_of config h) v).frames)
slot-shown config h v low None is = tt
slot-shown config h v low (Some slot) is = same (slot_at (state_of config h) v) (slot-seen config h v low ∙ ap (slot_in (links_of h)) (sym is))
  where
    same : (there : Slot) → there ≡ slot_in (links_of h) (Some slot.now) → there ≡ unlinked_slot slot.now.slot there.frames
    same there e = rw e refl

-- a number that is refused is past the limit
pub past_none : (n limit : ℕ) → (n < limit → false ≡ true) → limit ≤ n
past_none n limit refused = elim (cases_lt n limit) [
  | inl low ↦ let no = refused low in cc
  | inr past ↦ past
]

module _ (m : State) (is : IsLawful m) where
  -- a slot or a virtual processor that does not exist waits for nothing and has no mapped guest frame
  pub no_fault-past_slots : (v c : ℕ) → slot_count m.config ≤ v → (vcpu_at m v c).fault ≡ None
  no_fault-past_slots v c past = ap (λ (there : Slot). (get_or there.vcpus c absent_vcpu).fault) (slot-past m v is.slots past)

  pub no_fault-past_vcpus : (v c : ℕ) → vcpus_of m.config.version ≤ c → (vcpu_at m v c).fault ≡ None
  no_fault-past_vcpus v c past = elim (cases_lt v (slot_count m.config)) [
    | inl low ↦ ap (λ (vcpu : Vcpu). vcpu.fault) (get_or_past (slot_at m v).vcpus c absent_vcpu (rw (is.each_slot v low).vcpus past))
    | inr high ↦ no_fault-past_slots v c high
  ]

  pub unmapped-past_slots : (v g : ℕ) → slot_count m.config ≤ v → mapped_at m v g ≡ None
  unmapped-past_slots v g past = ap (λ (there : Slot). map.get there.mapped g) (slot-past m v is.slots past) ∙ map.get-empty nat_cmp g

  -- a mapped guest frame is one of the version's
  mapped-low : (v g f : ℕ) → v < slot_count m.config → mapped_at m v g ≡ Some f → g < gfns_of m.config.version
  mapped-low v g f low at =
      let frame = (is.mapped v g f low).0 at in
      (is.each_frame f (exists m f (λ core. let no : Vm v ≡ Core = sym frame.0 ∙ core in cc))).gfn g frame.1

  pub unmapped-past_gfns : (v g : ℕ) → gfns_of m.config.version ≤ g → mapped_at m v g ≡ None
  unmapped-past_gfns v g past = elim (cases_lt v (slot_count m.config)) [
    | inl low ↦ by_frame low (mapped_at m v g) refl
    | inr high ↦ unmapped-past_slots v g high
  ]
    where
      by_frame : v < slot_count m.config → (there : Option ℕ) → mapped_at m v g ≡ there → there ≡ None
      by_frame low None at = refl
      by_frame low (Some f) at = let under = mapped-low v g f low at in absurd (omega (arith, under, past))
