-- A frame that a slot drops.
use Rattle.std.proofs.Common.{ℕ, ◌≡◌, ◌<◌, ◌≤◌, inl, inr, false, None, Some, [], ◌∷◌, ◌++◌, refl, sym, ap, subst, ◌∙◌, arith}
use Rattle.std.proofs.lemmas.Bool.{cases_eq, ltb-false}
use Rattle.std.specs.FinMap as map
use Rattle.kc_types.specs.Configuration.{Configuration, slot_count}
use Rattle.kc_types.specs.declared.call.Call.TheVariants.{Drop}
use Rattle.kc_types.specs.declared.owner.Owner.{Owner}
use Rattle.kc_types.specs.declared.owner.Owner.TheVariants.{Free, Vm}
use Rattle.kc_types.specs.declared.slot.Phase.TheVariants.{Active}
use Rattle.kc_model.specs.State.{State, Frame, Slot, frame_at, slot_at, mapped_at, zero_page}
use Rattle.kc_model.specs.Refusals.{refusal, backing, share_at}
use Rattle.kc_model.specs.Effects.{effect, without, dropped}
use Rattle.kc_model.specs.Lawful.{IsLawful, IsLawfulFrame, IsLawfulSlot, same_owner}
use Rattle.kc_model.proofs.Refusals.Served.{when-none}
use Rattle.kc_model.proofs.States.ZeroPage.{zero_page-is}
use Rattle.kc_model.proofs.States.Lists.{lists-gained}
use Rattle.kc_model.proofs.States.Tables.{gone-here, gone-elsewhere, table-lost, lists-without}
use Rattle.kc_model.proofs.States.Changes.{lawful-handed, other_vm}
use Rattle.kc_model.proofs.Lawful.GuestCalls.{guest_frame-served, owner-mapped, exists-mapped}

-- the frame after the drop, which keeps its share count
pub freed_frame : Frame → Frame
freed_frame frame = record frame { owner = Free; gfn = None; present = false; bytes = zero_page }

lawful-freed_frame : (config : Configuration) (f v : ℕ) (frame : Frame) → IsLawfulFrame config f frame → frame.owner ≡ Vm v → frame.share ≡ 0 → IsLawfulFrame config f (freed_frame frame)
unfolding freed_frame
lawful-freed_frame config f v frame is owner private = record {
  core = (λ h. absurd cc, λ h. let core = is.core.1 h in absurd cc);
  mapped = refl;
  shared = is.shared;
  sharer = λ h. absurd (omega (arith, private));
  reached = λ h. absurd cc;
  zeroed = λ h. refl;
  page = zero_page-is;
  slot = λ w h. absurd cc;
  gfn = λ g h. absurd cc;
}

lawful-dropped_slot : (config : Configuration) (slot : Slot) (g f : ℕ) → IsLawfulSlot config slot → slot.phase ≡ Active → IsLawfulSlot config (record slot { frames = without slot.frames f; mapped = map.remove slot.mapped g })
lawful-dropped_slot config slot g f is active = record {
  vcpus = is.vcpus;
  each_vcpu = is.each_vcpu;
  few_images = is.few_images;
  each_image = is.each_image;
  apart = is.apart;
  few_leaves = is.few_leaves;
  leaves_once = is.leaves_once;
  each_leaf = is.each_leaf;
  rooted = λ h k e. elim (cases_eq h g) [
    | inl same ↦ absurd (let none = gone-here slot.mapped g in let was : map.get (map.remove slot.mapped g) g ≡ Some k = subst (λ x. map.get (map.remove slot.mapped g) x ≡ Some k) same e in cc)
    | inr other ↦ is.rooted h k (sym (gone-elsewhere slot.mapped g h other) ∙ e)
  ];
  booting = λ h. absurd cc;
  empty = λ h. absurd cc;
}

pub lawful-dropped : (m : State) (v g f : ℕ) → IsLawful m → v < slot_count m.config → (slot_at m v).phase ≡ Active → mapped_at m v g ≡ Some f → (frame_at m f).share ≡ 0 → IsLawful (dropped m v g f)
unfolding freed_frame
lawful-dropped m v g f is v_in active mapped private =
    let owner = owner-mapped m v g f is v_in mapped in
    let lt = exists-mapped m v g f is v_in mapped in
    let not_free : same_owner (frame_at m f).owner Free ≡ false = ap (λ (o : Owner). same_owner o Free) owner in
    lawful-handed m f (freed_frame (frame_at m f)) v (record (slot_at m v) { frames = without (slot_at m v).frames f; mapped = map.remove (slot_at m v).mapped g }) (m.free ++ f ∷ []) is lt v_in
    (lawful-freed_frame m.config f v (frame_at m f) (is.each_frame f lt) owner private)
    (lawful-dropped_slot m.config (slot_at m v) g f (is.each_slot v v_in) active)
    (λ w ne. (other_vm (frame_at m f).owner v w owner ne, refl))
    (lists-gained m f (freed_frame (frame_at m f)) Free m.free lt is.free not_free refl)
    (lists-without m f (freed_frame (frame_at m f)) (Vm v) (slot_at m v).frames lt (is.listed v v_in) refl)
    (table-lost m f (freed_frame (frame_at m f)) v g is v_in lt mapped (λ h. absurd cc))
    (λ k owned some. active)

pub lawful-drop : (m : State) (v c g : ℕ) → IsLawful m → refusal m (Drop v c g) ≡ None → IsLawful (effect m (Drop v c g)).1
lawful-drop m v c g is served =
    let seen = guest_frame-served m v c g _ served in
    let none : share_at m v g ≤ 0 = ltb-false _ _ (when-none _ _ seen.1) in
    lawful-dropped m v g (backing (mapped_at m v g)) is seen.0.call.vm seen.0.call.active seen.0.mapped (omega (arith, none))
