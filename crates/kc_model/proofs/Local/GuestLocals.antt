-- The calls on a slot depend only on what they need.
use Rattle.std.proofs.Common.{ℕ, ◌≡◌, ◌<◌, ◌+◌, Bool, true, Option, Some, None, is_some, is_none, nat_le, nat_lt, List, [], ◌∷◌, length, get_or, set, refl, sym, ap, ◌∙◌, length-set}
use Rattle.std.specs.Prelude.{◌==◌}
use Rattle.std.specs.FinMap as map
use Rattle.kc_types.specs.declared.call.Call.TheVariants.{RegisterVm, RegisterVcpu, SetBoot, Remap, Map, GuestRead, GuestWrite, Grant, Revoke, Drop, Clear}
use Rattle.kc_types.specs.declared.reply.Reply.TheVariants as reply
use Rattle.kc_types.specs.declared.refusal.Refusal.{Refusal}
use Rattle.kc_types.specs.declared.refusal.Refusal.TheVariants.{NotMapped, ShareFull, NotShared, Shared}
use Rattle.kc_types.specs.declared.owner.Owner.TheVariants.{Core, Free}
use Rattle.kc_model.specs.State.{State, Frame, Slot, Image, frame_at, slot_at, mapped_at, absent_vcpu, with_slot, untouched}
use Rattle.kc_model.specs.Refusals.{when, first_of_these, bad_vm, bad_vcpu, bad_gfn, no_vm, not_active, no_vcpu, share_at, guest_frame, backing, pending, next_gfn}
use Rattle.kc_model.specs.Effects.{with_fault, hand, guest_read, guest_written, scrubbed}
use Rattle.kc_model.specs.Resources.{Resources, pick, merged, is_in}
use Rattle.kc_model.specs.Local.{outcome_merged, IsLocal}
use Rattle.kc_model.proofs.Local.Merges.{HasFrame, HasSlot, frame-merged, slot-merged, frames-set, slots-set, pick-set}
use Rattle.kc_model.proofs.States.Members.{is_in-first, is_in-later}
use Rattle.kc_model.proofs.Local.Locals.{local-next}
use Rattle.kc_model.proofs.Lawful.GuestCalls.{guest_frame-served}
use Rattle.kc_types.specs.declared.resource.Resource.TheVariants as resource

-- the frame that a guest frame is mapped to is among the resources
abbrev pub HasMapped : Resources → State → ℕ → ℕ → Type 0
HasMapped here m v g = is_some (mapped_at m v g) ≡ true → HasFrame here m (backing (mapped_at m v g))

pub local-register_vm : (here : Resources) (m rest : State) (v : ℕ) → HasSlot here m v → IsLocal here m rest (RegisterVm v)
local-register_vm here m rest v has = local-next here m rest (RegisterVm v)
    (rw (slot-merged here m rest v has) refl)
    (λ _. rw (slot-merged here m rest v has, slots-set here m rest v has) refl)

pub local-register_vcpu : (here : Resources) (m rest : State) (v c : ℕ) → HasSlot here m v → IsLocal here m rest (RegisterVcpu v c)
local-register_vcpu here m rest v c has = local-next here m rest (RegisterVcpu v c)
    (rw (slot-merged here m rest v has) refl)
    (λ _. rw (slot-merged here m rest v has, slots-set here m rest v has) refl)

pub local-set_boot : (here : Resources) (m rest : State) (v base len : ℕ) → HasSlot here m v → IsLocal here m rest (SetBoot v base len)
local-set_boot here m rest v base len has = local-next here m rest (SetBoot v base len)
    (rw (slot-merged here m rest v has) refl)
    (λ _. rw (slot-merged here m rest v has, slots-set here m rest v has) refl)

guest_read-local : (here : Resources) (m rest : State) (v c g off len : ℕ) (at : Option ℕ) → HasSlot here m v → (is_some at ≡ true → HasFrame here m (backing at))
    → guest_read (merged here m rest) v c g off len at ≡ outcome_merged here (guest_read m v c g off len at) rest
guest_read-local here m rest v c g off len None has mapped = rw (slot-merged here m rest v has, slots-set here m rest v has) refl
guest_read-local here m rest v c g off len (Some f) has mapped = rw (slot-merged here m rest v has, slots-set here m rest v has, frame-merged here m rest f (mapped refl)) refl

pub local-guest_read : (here : Resources) (m rest : State) (v c g off len : ℕ) → HasSlot here m v → HasMapped here m v g → IsLocal here m rest (GuestRead v c g off len)
local-guest_read here m rest v c g off len has mapped = local-next here m rest (GuestRead v c g off len)
    (rw (slot-merged here m rest v has) refl)
    (λ _. ap (λ (s : Slot). guest_read (merged here m rest) v c g off len (mapped_in s g)) (slot-merged here m rest v has) ∙ guest_read-local here m rest v c g off len (mapped_at m v g) has mapped)
  where
    mapped_in : Slot → ℕ → Option ℕ
    mapped_in s g = map.get s.mapped g

guest_written-local : (here : Resources) (m rest : State) (v c g off : ℕ) (bytes : List ℕ) (at : Option ℕ) → HasSlot here m v → (is_some at ≡ true → HasFrame here m (backing at))
    → guest_written (merged here m rest) v c g off bytes at ≡ outcome_merged here (guest_written m v c g off bytes at) rest
guest_written-local here m rest v c g off bytes None has mapped = rw (slot-merged here m rest v has, slots-set here m rest v has) refl
guest_written-local here m rest v c g off bytes (Some f) has mapped = rw (slot-merged here m rest v has, slots-set here m rest v has, frame-merged here m rest f (mapped refl), frames-set here m rest f (mapped refl)) refl

pub local-guest_write : (here : Resources) (m rest : State) (v c g off : ℕ) (bytes : List ℕ) → HasSlot here m v → HasMapped here m v g → IsLocal here m rest (GuestWrite v c g off bytes)
local-guest_write here m rest v c g off bytes has mapped = local-next here m rest (GuestWrite v c g off bytes)
    (rw (slot-merged here m rest v has) refl)
    (λ _. ap (λ (s : Slot). guest_written (merged here m rest) v c g off bytes (mapped_in s g)) (slot-merged here m rest v has) ∙ guest_written-local here m rest v c g off bytes (mapped_at m v g) has mapped)
  where
    mapped_in : Slot → ℕ → Option ℕ
    mapped_in s g = map.get s.mapped g

-- what is refused last counts only if the guest frame is mapped
unless_unmapped : (a b c d e f : Option Refusal) (at : Option ℕ) (last other : Option Refusal) → (is_some at ≡ true → last ≡ other)
    → first_of_these (a ∷ b ∷ c ∷ d ∷ e ∷ f ∷ when (is_none at) NotMapped ∷ last ∷ []) ≡ first_of_these (a ∷ b ∷ c ∷ d ∷ e ∷ f ∷ when (is_none at) NotMapped ∷ other ∷ [])
unless_unmapped a b c d e f None last other same = refl
unless_unmapped a b c d e f (Some _) last other same = ap (λ last. first_of_these (a ∷ b ∷ c ∷ d ∷ e ∷ f ∷ last ∷ [])) (same refl)

-- a served call on a mapped guest frame finds a frame there
pub mapped-served : (m : State) (v c g : ℕ) (last : Option Refusal) → first_of_these (guest_frame m v c g last) ≡ None → is_some (mapped_at m v g) ≡ true
mapped-served m v c g last served = ap is_some (guest_frame-served m v c g last served).0.mapped

guest_frame-merged : (here : Resources) (m rest : State) (v c g : ℕ) (last other : Option Refusal) → HasSlot here m v → (is_some (mapped_at m v g) ≡ true → last ≡ other) → first_of_these (guest_frame (merged here m rest) v c g last) ≡ first_of_these (guest_frame m v c g other)
guest_frame-merged here m rest v c g last other has same = rw (slot-merged here m rest v has) (unless_unmapped (bad_vm m v) (bad_vcpu m c) (bad_gfn m g) (no_vm m v) (not_active m v) (no_vcpu m v c) (mapped_at m v g) last other same)

pub share-merged : (here : Resources) (m rest : State) (v g : ℕ) → HasSlot here m v → HasMapped here m v g → is_some (mapped_at m v g) ≡ true → share_at (merged here m rest) v g ≡ share_at m v g
share-merged here m rest v g has mapped is =
    ap (λ (there : Slot). (frame_at (merged here m rest) (backing (map.get there.mapped g))).share) (slot-merged here m rest v has)
    ∙ ap (λ (there : Frame). there.share) (frame-merged here m rest (backing (mapped_at m v g)) (mapped is))

pub local-grant : (here : Resources) (m rest : State) (v c g : ℕ) → HasSlot here m v → HasMapped here m v g → IsLocal here m rest (Grant v c g)
local-grant here m rest v c g has mapped = local-next here m rest (Grant v c g)
    (guest_frame-merged here m rest v c g (when (nat_le 100 (share_at (merged here m rest) v g)) ShareFull) (when (nat_le 100 (share_at m v g)) ShareFull) has (λ is. ap (λ share. when (nat_le 100 share) ShareFull) (share-merged here m rest v g has mapped is)))
    (λ served. let is = mapped (mapped-served m v c g _ served) in
    rw (slot-merged here m rest v has, frame-merged here m rest (backing (mapped_at m v g)) is, frames-set here m rest (backing (mapped_at m v g)) is) refl)

pub local-revoke : (here : Resources) (m rest : State) (v c g : ℕ) → HasSlot here m v → HasMapped here m v g → IsLocal here m rest (Revoke v c g)
local-revoke here m rest v c g has mapped = local-next here m rest (Revoke v c g)
    (guest_frame-merged here m rest v c g (when ((share_at (merged here m rest) v g) == 0) NotShared) (when ((share_at m v g) == 0) NotShared) has (λ is. ap (λ share. when (share == 0) NotShared) (share-merged here m rest v g has mapped is)))
    (λ served. let is = mapped (mapped-served m v c g _ served) in
    rw (slot-merged here m rest v has, frame-merged here m rest (backing (mapped_at m v g)) is, frames-set here m rest (backing (mapped_at m v g)) is) refl)

pub local-drop : (here : Resources) (m rest : State) (v c g : ℕ) → HasSlot here m v → HasMapped here m v g → here resource.Free ≡ true → IsLocal here m rest (Drop v c g)
local-drop here m rest v c g has mapped free = local-next here m rest (Drop v c g)
    (guest_frame-merged here m rest v c g (when (nat_lt 0 (share_at (merged here m rest) v g)) Shared) (when (nat_lt 0 (share_at m v g)) Shared) has (λ is. ap (λ share. when (nat_lt 0 share) Shared) (share-merged here m rest v g has mapped is)))
    (λ served. let is = mapped (mapped-served m v c g _ served) in
    rw (slot-merged here m rest v has, frame-merged here m rest (backing (mapped_at m v g)) is, frames-set here m rest (backing (mapped_at m v g)) is, slots-set here m rest v has, free) refl)

-- changes of a slot, of which others consist
hand-merged : (here : Resources) (m rest : State) (v g f : ℕ) → HasFrame here m f → HasSlot here m v → hand (merged here m rest) v g f ≡ merged here (hand m v g f) rest
hand-merged here m rest v g f frame_in slot_in = rw (slot-merged here m rest v slot_in, frame-merged here m rest f frame_in, frames-set here m rest f frame_in, slots-set here m rest v slot_in) refl

with_fault-merged : (here : Resources) (m rest : State) (v c : ℕ) (fault : Option ℕ) → HasSlot here m v → with_fault (merged here m rest) v c fault ≡ merged here (with_fault m v c fault) rest
with_fault-merged here m rest v c fault has = rw (slot-merged here m rest v has, slots-set here m rest v has) refl

with_images : State → ℕ → List Image → State
with_images m v images = with_slot m v (record (slot_at m v) { images = images })

with_images-merged : (here : Resources) (m rest : State) (v : ℕ) (images : List Image) → HasSlot here m v → with_images (merged here m rest) v images ≡ merged here (with_images m v images) rest
unfolding with_images
with_images-merged here m rest v images has = rw (slot-merged here m rest v has, slots-set here m rest v has) refl

still : (here : Resources) (m : State) (v g f : ℕ) → HasSlot here m v → HasSlot here (hand m v g f) v
still here m v g f has lt = has (rw length-set at lt)

pub local-map : (here : Resources) (m rest : State) (v c f : ℕ) → HasSlot here m v → HasFrame here m f → IsLocal here m rest (Map v c f)
local-map here m rest v c f has frame_in = local-next here m rest (Map v c f)
    (rw (slot-merged here m rest v has, frame-merged here m rest f frame_in) refl)
    (λ _. ap (λ s. (reply.Done, s)) (
    ap (λ (there : Slot). with_fault (hand (merged here m rest) v (pending_in there c) f) v c None) (slot-merged here m rest v has)
    ∙ ap (λ s. with_fault s v c None) (hand-merged here m rest v (pending m v c) f frame_in has)
    ∙ with_fault-merged here (hand m v (pending m v c) f) rest v c None (still here m v (pending m v c) f has)
    ))
  where
    pending_in : Slot → ℕ → ℕ
    pending_in there c = backing (get_or there.vcpus c absent_vcpu).fault

pub local-remap : (here : Resources) (m rest : State) (v i f : ℕ) → HasSlot here m v → HasFrame here m f → IsLocal here m rest (Remap v i f)
unfolding with_images
local-remap here m rest v i f has frame_in = local-next here m rest (Remap v i f)
    (rw (slot-merged here m rest v has, frame-merged here m rest f frame_in) refl)
    (λ _. ap (λ s. (reply.Done, s)) (
    ap (λ (there : Slot). with_images (hand (merged here m rest) v (next_in there) f) v (more_in there)) (slot-merged here m rest v has)
    ∙ ap (λ s. with_images s v (more_in (slot_at m v))) (hand-merged here m rest v (next_gfn m v i) f frame_in has)
    ∙ with_images-merged here (hand m v (next_gfn m v i) f) rest v (more_in (slot_at m v)) (still here m v (next_gfn m v i) f has)
    ))
  where
    image_in : Slot → Image
    image_in there = get_or there.images i (record { base = 0; len = 0; pages = 0 })

    next_in : Slot → ℕ
    next_in there = (image_in there).base + (image_in there).pages

    more_in : Slot → List Image
    more_in there = set there.images i (record (image_in there) { pages = (image_in there).pages + 1 })

-- the frames of a list are among the resources
abbrev pub HasFrames : Resources → State → List ℕ → Type 0
HasFrames here m fs = (f : ℕ) → is_in fs f ≡ true → HasFrame here m f

scrubbed-pick : (test : ℕ → Bool) (xs ys : List Frame) (fs : List ℕ) → ((f : ℕ) → is_in fs f ≡ true → f < length xs → test f ≡ true) → scrubbed (pick test (untouched Core) xs ys) fs ≡ pick test (untouched Core) (scrubbed xs fs) ys
scrubbed-pick test xs ys [] has = refl
scrubbed-pick test xs ys (f ∷ fs) has =
    ap (λ frames. scrubbed frames fs) (sym (pick-set test (untouched Core) xs ys f (untouched Free) (has f (is_in-first f fs))))
    ∙ scrubbed-pick test (set xs f (untouched Free)) ys fs (λ k is lt. has k (is_in-later f fs k is) (rw length-set at lt))

pub local-clear : (here : Resources) (m rest : State) (v : ℕ) → HasSlot here m v → HasFrames here m (slot_at m v).frames → here resource.Free ≡ true → IsLocal here m rest (Clear v)
local-clear here m rest v has frames free = local-next here m rest (Clear v)
    (rw (slot-merged here m rest v has) refl)
    (λ _. rw (slot-merged here m rest v has, slots-set here m rest v has, free, scrubbed-pick (λ f. here (resource.Frame f)) m.frames rest.frames (slot_at m v).frames frames) refl)
