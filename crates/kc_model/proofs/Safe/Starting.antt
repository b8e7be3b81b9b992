-- A slot that becomes active runs what was measured.
use Rattle.std.proofs.Common.{ℕ, zero, suc, ◌≡◌, ◌<◌, ◌-◌, ◌*◌, inl, inr, Bool, true, List, [], ◌∷◌, ◌++◌, length, take, replicate, get_or, is_some, refl, sym, ap, subst, ◌∙◌, arith, Option, None, Some, All}
use Rattle.std.specs.List.{list_any, flat_map}
use Rattle.kc_types.specs.Configuration.{Configuration}
use Rattle.std.specs.FinMap as map
use Rattle.std.specs.Ordering.{nat_cmp}
use Rattle.kc_types.specs.declared.call.Call.{Call}
use Rattle.kc_types.specs.declared.call.Call.TheVariants.{Verify}
use Rattle.kc_types.specs.declared.reply.Reply.{Reply}
use Rattle.kc_types.specs.declared.reply.Reply.TheVariants as reply
use Rattle.kc_types.specs.declared.refusal.Refusal.{Refusal}
use Rattle.kc_types.specs.declared.slot.Phase.TheVariants.{Active}
use Rattle.kc_model.specs.State.{State, Slot, Image, frame_at, slot_at, no_slot}
use Rattle.kc_model.specs.Refusals.{refusal, backing, is_short, pages_of}
use Rattle.kc_model.specs.Effects.{trimmed, all_trimmed, verified, with_phase, unapproved, is_boot_approved, image_bytes, bytes_at, gfns_of}
use Rattle.kc_model.specs.Next.{next, unless_refused}
use Rattle.kc_model.specs.Lawful.{IsLawful, holds}
use Rattle.kc_model.specs.Safety.{Measures}
use Rattle.kc_model.specs.Starting.{IsPadded, IsItsImages, StartsMeasured, IsStarted}
use Rattle.kc_model.proofs.States.Approvals.{BootsAlike, boot-same}
use Rattle.kc_model.proofs.States.Changes.{slot-here}
use Rattle.kc_model.proofs.Lawful.Verifies.{verify-served, slots-trimmed}
use Rattle.kc_model.proofs.Local.VerifyLocal.{pages-same}
use Rattle.kc_model.proofs.Safe.Trimming.{in-place, padded}
use Rattle.kc_model.proofs.Safe.Safe.{every_step}
use Rattle.kc_model.proofs.Safe.Measured.{becomes_active}

config-trimmed : (m : State) (v : ℕ) (images : List Image) → (all_trimmed m v images).config ≡ m.config
config-trimmed m v [] = refl
config-trimmed m v (image ∷ images) = config-trimmed (trimmed m v image) v images

-- what the slot's activation leaves
starts-verified : (m : State) (v : ℕ) → IsLawful m → refusal m (Verify v) ≡ None → is_boot_approved m v ≡ true → IsItsImages (with_phase (all_trimmed m v (slot_at m v).images) v Active) v
starts-verified m v is served approved =
    let seen = verify-served m v served in
    let images = (slot_at m v).images in
    let n = all_trimmed m v images in
    let slots : n.slots ≡ m.slots = slots-trimmed m v images in
    let was : slot_at n v ≡ slot_at m v = ap (λ (l : List Slot). get_or l v no_slot) slots in
    let new = with_phase n v Active in
    let low : v < length n.slots = rw (slots, is.slots) seen.0 in
    let now = slot-here n v (record (slot_at n v) { phase = Active }) low in
    let images_now : (slot_at new v).images ≡ images = ap (λ (x : Slot). x.images) now ∙ ap (λ (x : Slot). x.images) was in
    let table : (slot_at new v).mapped ≡ (slot_at n v).mapped = ap (λ (x : Slot). x.mapped) now in
    let there = is.each_slot v seen.0 in
    let page : (g : ℕ) → bytes_at new v g ≡ bytes_at n v g = λ g. ap (λ (t : map.FinMap nat_cmp ℕ). (frame_at n (backing (map.get t g))).bytes) table in
    let pages : (y : Image) → flat_map (bytes_at new v) (gfns_of y) ≡ flat_map (bytes_at n v) (gfns_of y) = λ y. pages-same (bytes_at new v) (bytes_at n v) y.base (pages_of y.len) (λ g low high. page g) in
    let same-padded : (y : Image) → flat_map (bytes_at new v) (gfns_of y) ≡ flat_map (bytes_at n v) (gfns_of y) → IsPadded n v y → IsPadded new v y =
    λ y same. subst (λ l. l ≡ take y.len l ++ replicate (4096 * pages_of y.len - y.len) 0) (sym same) in
    let bytes : (y : Image) → image_bytes new v y ≡ image_bytes n v y = λ y. ap (take y.len) (pages y) in
    let alike : BootsAlike new m v = record {
      version = ap (λ (c : Configuration). c.version) (config-trimmed m v images);
      approved = ap (λ (c : Configuration). c.approved) (config-trimmed m v images);
      images = images_now;
      bytes = subst (λ (l : List Image). (i : ℕ) (d : Image) → i < length l → image_bytes new v (get_or l i d) ≡ image_bytes m v (get_or l i d)) (sym images_now) (λ i d lt. bytes (get_or images i d) ∙ in-place m v is served i d lt);
    } in
    record {
      whole = ap (list_any is_short) images_now ∙ seen.2;
      only = λ g. ap (λ (t : map.FinMap nat_cmp ℕ). is_some (map.get t g)) (table ∙ ap (λ (x : Slot). x.mapped) was) ∙ there.booting seen.1 g ∙ ap (list_any (holds g)) (sym images_now);
      approved = boot-same new m v alike ∙ approved;
      padded = subst (All (IsPadded new v)) (sym images_now) (λ i d lt. same-padded (get_or images i d) (pages (get_or images i d)) (padded m v is served i d lt));
    }

IsDone : Reply → Type 0
IsDone reply.Done = Unit {0}
IsDone _ = ⊥

found : (v : ℕ) (m : State) (call : Call) (answer : Reply) → Measures v m call answer → (call ≡ Verify v) × IsDone answer × (is_boot_approved m v ≡ true)
unfolding IsDone
found v m (Verify w) reply.Done measures = (ap Verify measures.0, tt, measures.1)
found v m _ _ measures = absurd measures

starts-first : (m : State) (v : ℕ) (first : Option ℕ) → IsLawful m → refusal m (Verify v) ≡ None → is_boot_approved m v ≡ true → IsDone (verified m v first).0 → IsItsImages (verified m v first).1 v
unfolding IsDone
starts-first m v None is served approved done = starts-verified m v is served approved
starts-first m v (Some i) is served approved done = absurd done

starts-unless : (refused : Option Refusal) (m : State) (v : ℕ) → IsLawful m → refusal m (Verify v) ≡ refused → is_boot_approved m v ≡ true → IsDone (unless_refused refused m (Verify v)).0 → IsItsImages (unless_refused refused m (Verify v)).1 v
unfolding IsDone
starts-unless None m v is served approved done = starts-first m v (unapproved m v) is served approved done
starts-unless (Some r) m v is served approved done = absurd done

starts-next : (m : State) (v : ℕ) → IsLawful m → is_boot_approved m v ≡ true → IsDone (next m (Verify v)).0 → IsItsImages (next m (Verify v)).1 v
unfolding next
starts-next m v is approved done = starts-unless (refusal m (Verify v)) m v is refl approved done

starts : (m : State) (call : Call) → IsLawful m → StartsMeasured m call (next m call).0 (next m call).1
starts m call is v inactive active = elim (becomes_active v m call active) [
  | inl before ↦ absurd (inactive before.1)
  | inr measures ↦
      let seen = found v m call _ measures in
      let done : IsDone (next m (Verify v)).0 = subst (λ (x : Call). IsDone (next m x).0) seen.0 seen.1 in
      subst (λ (x : Call). IsItsImages (next m x).1 v) (sym seen.0) (starts-next m v is seen.2 done)
]

pub started : (m : State) (calls : List Call) → IsLawful m → IsStarted m calls
started m calls is = every_step StartsMeasured starts m calls is
