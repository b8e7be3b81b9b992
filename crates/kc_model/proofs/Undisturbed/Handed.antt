-- A page that comes to the VM, and bytes that the host writes to one, in two states in which the VM has the same.
use Rattle.std.proofs.Common.{ℕ, ◌≡◌, ◌<◌, ◌+◌, inl, inr, Bool, false, IsTrue, List, length, set, refl, sym, ap, subst, ◌∙◌, arith, None, Some, length-set}
use Rattle.std.proofs.lemmas.Bool.{cases_eq, cases_lt}
use Rattle.std.proofs.lemmas.Option.{same_Some}
use Rattle.std.specs.FinMap as map
use Rattle.kc_types.specs.Configuration.{slot_count}
use Rattle.kc_types.specs.declared.call.Call.TheVariants.{HostWrite, Remap, Map}
use Rattle.kc_types.specs.declared.owner.Owner.TheVariants.{Host, Vm}
use Rattle.kc_model.specs.State.{State, Frame, Slot, SlotOf, frame_at, slot_at, mapped_at, with_frame, overwritten}
use Rattle.kc_model.specs.Slot.{awaiting, vcpu_of, image_of, next_gfn_of}
use Rattle.kc_model.specs.Refusals.{refusal, conditions, backing, next_gfn, pending}
use Rattle.kc_model.specs.Effects.{effect, hand, with_leaf}
use Rattle.kc_model.specs.Lawful.{IsLawful, is_vm}
use Rattle.kc_model.specs.Undisturbed.{watched, page_of, page_under, page_at, own_slot, HasTheSame}
use Rattle.kc_model.proofs.Refusals.Served.{none-of}
use Rattle.kc_model.proofs.Refusals.Answered.{was-host}
use Rattle.kc_model.proofs.States.Tables.{got-here, got-elsewhere}
use Rattle.kc_model.proofs.States.Changes.{slot-here, exists}
use Rattle.kc_model.proofs.Lawful.GuestCalls.{owner-mapped}
use Rattle.kc_model.proofs.Undisturbed.Pages.{has-frames, page-other, page-here, page-by, changed-same, slots-same}

-- a frame of the host's is not shared
unshared : (x : Frame) → (0 < x.share → IsTrue (is_vm x.owner)) → x.owner ≡ Host → x.share ≡ 0
unshared x sharer host = elim (cases_lt 0 x.share) [
  | inl some ↦ let vm = sharer some in let not_vm : is_vm x.owner ≡ false = ap is_vm host in absurd cc
  | inr none ↦ omega (arith, none)
]

-- the frame as it is handed over
abbrev came : State → ℕ → ℕ → ℕ → Frame
came m v g f = record (frame_at m f) { owner = Vm v; gfn = Some g; present = false }

hand-here : (s : ℕ → Bool) (v : ℕ) (m : State) (g f : ℕ) → v < length m.slots → f < length m.frames → page_at s (hand m v g f) v g ≡ Some (page_of s g (came m v g f))
hand-here s v m g f lt within =
    ap (λ (y : Slot). page_under s (hand m v g f).frames g (map.get y.mapped g)) (slot-here (with_frame m f (came m v g f)) v _ lt)
    ∙ page-here s m.frames f (came m v g f) g (map.get (map.insert (slot_at m v).mapped g f) g) within (got-here (slot_at m v).mapped g f)

hand-away : (s : ℕ → Bool) (v : ℕ) (m : State) (g f h : ℕ) → v < length m.slots → ((k : ℕ) → mapped_at m v h ≡ Some k → k ≡ f → ⊥) → (h ≡ g → ⊥) → page_at s (hand m v g f) v h ≡ page_at s m v h
hand-away s v m g f h lt apart ne =
    ap (λ (y : Slot). page_under s (hand m v g f).frames h (map.get y.mapped h)) (slot-here (with_frame m f (came m v g f)) v _ lt)
    ∙ ap (page_under s (hand m v g f).frames h) (got-elsewhere (slot_at m v).mapped g f h ne)
    ∙ page-other s m.frames f (came m v g f) h (mapped_at m v h) apart

not-mapped : (m : State) (v f h k : ℕ) → IsLawful m → v < slot_count m.config → (frame_at m f).owner ≡ Host → mapped_at m v h ≡ Some k → k ≡ f → ⊥
not-mapped m v f h k is lt host at same = let mine : (frame_at m f).owner ≡ Vm v = subst (λ x. (frame_at m x).owner ≡ Vm v) same (owner-mapped m v h k is lt at) in cc

in-frames : (m : State) (f : ℕ) → (frame_at m f).owner ≡ Host → f < length m.frames
in-frames m f host = exists m f (λ core. cc)

module _ (s : ℕ → Bool) (v : ℕ) (m n : State) (same : HasTheSame s v m n) (m_is : IsLawful m) (n_is : IsLawful n) (lt : v < slot_count m.config) (in_n : v < slot_count n.config) where
  in_m : v < length m.slots
  in_m = rw m_is.slots lt

  in_other : v < length n.slots
  in_other = rw n_is.slots in_n

  pub hand-same : (g f k : ℕ) → (frame_at m f).owner ≡ Host → (frame_at n k).owner ≡ Host → watched s g (frame_at m f).bytes ≡ watched s g (frame_at n k).bytes → HasTheSame s v (hand m v g f) (hand n v g k)
  hand-same g f k host other bytes =
      let f_in = in-frames m f host in
      let k_in = in-frames n k other in
      let none : (frame_at m f).share ≡ 0 = unshared (frame_at m f) (m_is.each_frame f f_in).sharer host in
      let none_too : (frame_at n k).share ≡ 0 = unshared (frame_at n k) (n_is.each_frame k k_in).sharer other in
      let share : (frame_at m f).share ≡ (frame_at n k).share = none ∙ sym none_too in
      let page : page_of s g (came m v g f) ≡ page_of s g (came n v g k) = ap (λ x. record { share = x; bytes = watched s g (frame_at m f).bytes }) share ∙ ap (λ x. record { share = (frame_at n k).share; bytes = x }) bytes in
      record {
        slots = same.slots;
        leaves = same.leaves;
        approved = same.approved;
        slot = ap own_slot (slot-here (with_frame m f (came m v g f)) v _ in_m) ∙ ap (λ (x : SlotOf (Unit {0})). record x { leaves = with_leaf x.leaves g }) same.slot ∙ sym (ap own_slot (slot-here (with_frame n k (came n v g k)) v _ in_other));
        pages = λ h. elim (cases_eq h g) [
          | inl is ↦ subst (λ j. page_at s (hand m v g f) v j ≡ page_at s (hand n v g k) v j) (sym is) (hand-here s v m g f in_m f_in ∙ ap Some page ∙ sym (hand-here s v n g k in_other k_in))
          | inr ne ↦ hand-away s v m g f h in_m (λ j e. not-mapped m v f h j m_is lt host e) ne ∙ same.pages h ∙ sym (hand-away s v n g k h in_other (λ j e. not-mapped n v k h j n_is in_n other e) ne)
        ];
      }

  next-same : (i : ℕ) → next_gfn m v i ≡ next_gfn n v i
  next-same i = ap (λ (x : SlotOf (Unit {0})). next_gfn_of x i) same.slot

  pending-same : (c : ℕ) → pending m v c ≡ pending n v c
  pending-same c = ap (λ (x : SlotOf (Unit {0})). backing (vcpu_of x c).fault) same.slot

  more : ℕ → SlotOf (Unit {0}) → SlotOf (Unit {0}) → SlotOf (Unit {0})
  more i x y = record x { images = set y.images i (record (image_of y i) { pages = (image_of y i).pages + 1 }) }

  pub remap-same : (i f k : ℕ) → refusal m (Remap v i f) ≡ None → refusal n (Remap v i k) ≡ None → watched s (next_gfn m v i) (frame_at m f).bytes ≡ watched s (next_gfn n v i) (frame_at n k).bytes
      → HasTheSame s v (effect m (Remap v i f)).1 (effect n (Remap v i k)).1
  unfolding more
  remap-same i f k served other bytes =
      let host = was-host m f (none-of (conditions m (Remap v i f)) served 6) in
      let host_too = was-host n k (none-of (conditions n (Remap v i k)) other 6) in
      let handed = hand-same (next_gfn m v i) f k host host_too (bytes ∙ ap (λ g. watched s g (frame_at n k).bytes) (sym (next-same i))) in
      let handed_there : HasTheSame s v (hand m v (next_gfn m v i) f) (hand n v (next_gfn n v i) k) = subst (λ g. HasTheSame s v (hand m v (next_gfn m v i) f) (hand n v g k)) (next-same i) handed in
      slots-same s v (hand m v (next_gfn m v i) f) (hand n v (next_gfn n v i) k) _ _ handed_there (rw length-set in_m) (rw length-set in_other)
      (ap (λ x. more i x (own_slot (slot_at m v))) handed_there.slot ∙ ap (more i (own_slot (slot_at (hand n v (next_gfn n v i) k) v))) same.slot) refl refl

  pub map-same : (c f k : ℕ) → refusal m (Map v c f) ≡ None → refusal n (Map v c k) ≡ None → watched s (pending m v c) (frame_at m f).bytes ≡ watched s (pending n v c) (frame_at n k).bytes
      → HasTheSame s v (effect m (Map v c f)).1 (effect n (Map v c k)).1
  map-same c f k served other bytes =
      let host = was-host m f (none-of (conditions m (Map v c f)) served 8) in
      let host_too = was-host n k (none-of (conditions n (Map v c k)) other 8) in
      let handed = hand-same (pending m v c) f k host host_too (bytes ∙ ap (λ g. watched s g (frame_at n k).bytes) (sym (pending-same c))) in
      let handed_there : HasTheSame s v (hand m v (pending m v c) f) (hand n v (pending n v c) k) = subst (λ g. HasTheSame s v (hand m v (pending m v c) f) (hand n v g k)) (pending-same c) handed in
      slots-same s v (hand m v (pending m v c) f) (hand n v (pending n v c) k) _ _ handed_there (rw length-set in_m) (rw length-set in_other) (ap (λ (x : SlotOf (Unit {0})). awaiting x c None) handed_there.slot) refl refl

  pub host-same : (g off f k : ℕ) (bytes : List ℕ) → mapped_at m v g ≡ Some f → mapped_at n v g ≡ Some k → HasTheSame s v (effect m (HostWrite f off bytes)).1 (effect n (HostWrite k off bytes)).1
  host-same g off f k bytes at bt =
      let pages : page_of s g (frame_at m f) ≡ page_of s g (frame_at n k) = same_Some _ _ (ap (page_under s m.frames g) (sym at) ∙ same.pages g ∙ ap (page_under s n.frames g) bt) in
      changed-same s v m n g f k _ _ same (has-frames m v m_is lt) (has-frames n v n_is in_n) at bt (page-by s g (frame_at m f) (frame_at n k) (λ b. overwritten b off bytes) pages)
