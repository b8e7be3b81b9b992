-- What is known of each condition of a call that is not refused.
use Rattle.std.proofs.Common.{ℕ, ◌≡◌, ◌<◌, ◌⊎◌, inl, inr, Bool, true, false, not, ◌&&◌, Option, Some, None, is_some, is_none, length, nat_le, refl, arith}
use Rattle.std.proofs.lemmas.Grind.{common_steps}
use Rattle.std.proofs.lemmas.Bool.{leb-false, not-false}
use Rattle.kc_types.specs.declared.refusal.Refusal.{Refusal}
use Rattle.kc_types.specs.declared.owner.Owner.{Owner}
use Rattle.kc_types.specs.declared.owner.Owner.TheVariants.{Core, Host, Free, Vm}
use Rattle.kc_types.specs.declared.slot.Phase.{Phase}
use Rattle.kc_types.specs.declared.slot.Phase.TheVariants.{Empty, Booting, Active, Dead}
use Rattle.kc_model.specs.State.{State, Image, frame_at, slot_at, vcpu_at, mapped_at}
use Rattle.kc_model.specs.Refusals.{when, is_host, is_empty, is_booting, is_active, bad_vm, bad_vcpu, bad_frame, bad_gfn, not_booting, not_active, no_vcpu, not_mapped, not_host, tables_full, backing, is_short, pages_of}
use Rattle.kc_model.specs.Lawful.{has_leaf}
use Rattle.kc_model.proofs.Refusals.Served.{when-none}
use Rattle.kc_types.specs.Configuration.{slot_count, vcpus_of, gfns_of}

pub vm-in : (m : State) (v : ℕ) → bad_vm m v ≡ None → v < slot_count m.config
vm-in m v h = leb-false _ _ (when-none _ _ h)

pub vcpu-in : (m : State) (c : ℕ) → bad_vcpu m c ≡ None → c < vcpus_of m.config.version
vcpu-in m c h = leb-false _ _ (when-none _ _ h)

pub frame-in : (m : State) (f : ℕ) → bad_frame m f ≡ None → f < m.config.frames
frame-in m f h = leb-false _ _ (when-none _ _ h)

pub gfn-in : (m : State) (g : ℕ) → bad_gfn m g ≡ None → g < gfns_of m.config.version
gfn-in m g h = leb-false _ _ (when-none _ _ h)

is_empty-is : (phase : Phase) → not (is_empty phase) ≡ false → phase ≡ Empty
is_empty-is Empty h = refl
is_empty-is Booting h = cc
is_empty-is Active h = cc
is_empty-is Dead h = cc

is_booting-is : (phase : Phase) → not (is_booting phase) ≡ false → phase ≡ Booting
is_booting-is Booting h = refl
is_booting-is Empty h = cc
is_booting-is Active h = cc
is_booting-is Dead h = cc

is_active-is : (phase : Phase) → not (is_active phase) ≡ false → phase ≡ Active
is_active-is Active h = refl
is_active-is Empty h = cc
is_active-is Booting h = cc
is_active-is Dead h = cc

is_host-is : (owner : Owner) → not (is_host owner) ≡ false → owner ≡ Host
is_host-is Host h = refl
is_host-is Core h = cc
is_host-is Free h = cc
is_host-is (Vm w) h = cc

pub backing-is : (at : Option ℕ) → is_none at ≡ false → at ≡ Some (backing at)
backing-is (Some f) h = refl
backing-is None h = cc

pub is_short-is : (image : Image) → not (is_short image) ≡ false → image.pages < pages_of image.len
is_short-is image h = grind (arith, common_steps)

pub is_none-of : {X : Type 0} (at : Option X) → is_some at ≡ false → at ≡ None
is_none-of None h = refl
is_none-of (Some x) h = cc

pub was-empty : (m : State) (v : ℕ) (r : Refusal) → when (not (is_empty (slot_at m v).phase)) r ≡ None → (slot_at m v).phase ≡ Empty
was-empty m v r h = is_empty-is _ (when-none _ _ h)

pub was-booting : (m : State) (v : ℕ) → not_booting m v ≡ None → (slot_at m v).phase ≡ Booting
was-booting m v h = is_booting-is _ (when-none _ _ h)

pub was-active : (m : State) (v : ℕ) → not_active m v ≡ None → (slot_at m v).phase ≡ Active
was-active m v h = is_active-is _ (when-none _ _ h)

pub was-registered : (m : State) (v c : ℕ) → no_vcpu m v c ≡ None → (vcpu_at m v c).registered ≡ true
was-registered m v c h = not-false _ (when-none _ _ h)

pub was-host : (m : State) (f : ℕ) → not_host m f ≡ None → (frame_at m f).owner ≡ Host
was-host m f h = is_host-is _ (when-none _ _ h)

pub was-mapped : (m : State) (v g : ℕ) → not_mapped m v g ≡ None → mapped_at m v g ≡ Some (backing (mapped_at m v g))
was-mapped m v g h = backing-is _ (when-none _ _ h)

pub was-pending : (fault : Option ℕ) (r : Refusal) → when (is_none fault) r ≡ None → fault ≡ Some (backing fault)
was-pending fault r h = backing-is _ (when-none _ _ h)

pub was-unmapped : (at : Option ℕ) (r : Refusal) → when (is_some at) r ≡ None → at ≡ None
was-unmapped at r h = is_none-of _ (when-none _ _ h)

room : (b : Bool) (n k : ℕ) → (not b && nat_le n k) ≡ false → (b ≡ true) ⊎ (k < n)
room true n k h = inl refl
room false n k h = inr (grind (arith, common_steps))

pub was-room : (m : State) (v g : ℕ) → tables_full m v g ≡ None → (has_leaf (slot_at m v).leaves g ≡ true) ⊎ (length (slot_at m v).leaves < m.config.leaves)
was-room m v g h = room _ _ _ (when-none _ _ h)
