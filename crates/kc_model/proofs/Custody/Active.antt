-- Through calls without a change of an active VM's frame that is not shared, its bytes change only by its own virtual
-- processors' writes.
use Rattle.std.proofs.Common.{ℕ, suc, ◌≡◌, ◌<◌, ◌+◌, inl, inr, false, nat_eq, List, length, Option, None, Some, refl, sym, ap, ◌∙◌, arith}
use Rattle.std.proofs.lemmas.Bool.{cases_Bool, eqb-true}
use Rattle.kc_types.specs.declared.refusal.Refusal.{Refusal}
use Rattle.kc_types.specs.declared.owner.Owner.TheVariants.{Vm}
use Rattle.kc_types.specs.declared.call.Call.{Call}
use Rattle.kc_types.specs.declared.call.Call.TheVariants.{Verify, GuestWrite}
use Rattle.kc_types.specs.declared.custody.Custody.{Custody}
use Rattle.kc_model.specs.State.{State, Slot, frame_at}
use Rattle.kc_model.specs.Refusals.{refusal}
use Rattle.kc_model.specs.Next.{next, unless_refused}
use Rattle.kc_model.specs.Lawful.{IsLawful}
use Rattle.kc_model.specs.Resources.{is_in}
use Rattle.kc_model.specs.Safety.{IsActive}
use Rattle.kc_model.specs.Footprints.{state_at, call_at}
use Rattle.kc_model.specs.CustodyLaws.{KeepsActive, writes_for, is_write_of}
use Rattle.kc_model.proofs.States.Changes.{exists}
use Rattle.kc_model.proofs.Lawful.LawfulTraces.{lawful-at, lists-all}
use Rattle.kc_model.proofs.Custody.Still.{still}
use Rattle.kc_model.proofs.Custody.Private.{private}
use Rattle.kc_model.proofs.Custody.Phases.{IsEmpty, active-while, not-verified}

-- an empty slot has no frame
owns-none : (m : State) (v f : ℕ) → IsLawful m → IsEmpty m v → (frame_at m f).owner ≡ Vm v → ⊥
owns-none m v f is empty mine =
    let lt : f < length m.frames = exists m f (λ core. cc) in
    let low = (is.each_frame f lt).slot v mine in
    let held = (lists-all m is).slots v f low mine in
    let none = ap (λ (s : Slot). is_in s.frames f) ((is.each_slot v low).empty empty) in
    cc

-- a `verify` of an active slot changes nothing
verify-unless : (refused : Option Refusal) (m : State) (v w f : ℕ) → refusal m (Verify w) ≡ refused → w ≡ v → IsActive m v → (frame_at (unless_refused refused m (Verify w)).1 f).bytes ≡ (frame_at m f).bytes
verify-unless None m v w f served same active = absurd (not-verified m v w active served (sym same))
verify-unless (Some r) m v w f served same active = refl

verify-still : (m : State) (v w f : ℕ) → w ≡ v → IsActive m v → (frame_at (next m (Verify w)).1 f).bytes ≡ (frame_at m f).bytes
unfolding next
verify-still m v w f same active = verify-unless (refusal m (Verify w)) m v w f refl same active

-- a call that is not a write of the VM's virtual processors
quiet : (m : State) (call : Call) (v f : ℕ) → IsActive m v → (writes_for v call ≡ false → (frame_at (next m call).1 f).bytes ≡ (frame_at m f).bytes) → is_write_of v call ≡ false → (frame_at (next m call).1 f).bytes ≡ (frame_at m f).bytes
quiet m (GuestWrite w c g off bytes) v f active keeps harmless = keeps harmless
quiet m (Verify w) v f active keeps harmless = elim (cases_Bool (nat_eq w v)) [
  | inl mine ↦ verify-still m v w f (eqb-true w v mine) active
  | inr other ↦ keeps other
]
quiet m call v f active keeps harmless = keeps refl

pub active : (m : State) (calls : List Call) → IsLawful m → KeepsActive m calls
active m calls is i j v f stretch none owner share start k from below harmless =
    let ends = stretch.ends in
    let more : k + 1 ≡ suc k = omega arith in
    let now : IsActive (state_at m calls k) v = active-while m calls i j v (λ n low high was empty.
    let so_far = still m calls is i j f stretch none (suc n) (omega (arith, low)) (omega (arith, high)) in
    owns-none (state_at m calls (suc n)) v f (lawful-at m calls is (suc n) (omega (arith, high, ends))) empty (ap (λ (x : Custody). x.owner) so_far ∙ owner)) start k from (omega (arith, below)) in
    let keeps = (private m calls is i j v f stretch none owner share k from below).bytes in
    rw more (quiet (state_at m calls k) (call_at calls k) v f now (λ no_write. rw more at (keeps no_write)) harmless)
