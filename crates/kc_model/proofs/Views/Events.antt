-- The events of a call on two states that differ only in bytes that do not count.
use Rattle.std.proofs.Common.{ℕ, zero, suc, ◌≡◌, ◌<◌, ◌⊎◌, inl, inr, Bool, true, false, cond, not, List, [], ◌∷◌, ◌++◌, length, map, filter, get_or, refl, sym, ap, ap₂, subst, ◌∙◌, arith, Option, None, Some, get_or-set_other}
use Rattle.std.proofs.lemmas.Bool.{cases_eq}
use Rattle.std.specs.List.{range_with_len}
use Rattle.sha2.specs.Sha256.{sha256}
use Rattle.kc_types.specs.Configuration.{Configuration, slot_count, measures_launch}
use Rattle.kc_types.specs.declared.call.Call.{Call}
use Rattle.kc_types.specs.declared.call.Call.TheVariants.{HostRead, HostWrite, RegisterVm, Verify, GuestWrite, Clear}
use Rattle.kc_types.specs.declared.reply.Reply.{Reply}
use Rattle.kc_types.specs.declared.reply.Reply.TheVariants as reply
use Rattle.kc_types.specs.declared.refusal.Refusal.{Refusal}
use Rattle.kc_types.specs.declared.custody.Event.TheVariants as event
use Rattle.kc_types.specs.declared.custody.Change.TheVariants as change
use Rattle.kc_types.specs.declared.custody.Measurement.{Measurement}
use Rattle.kc_model.specs.State.{State, Frame, Slot, frame_at, slot_at, with_slot, no_slot, empty_slot}
use Rattle.kc_model.specs.Refusals.{refusal}
use Rattle.kc_model.specs.Effects.{effect}
use Rattle.kc_model.specs.Next.{next, unless_refused}
use Rattle.kc_model.specs.Lawful.{IsLawful}
use Rattle.kc_model.specs.Custody.{same_custody, has_moved, frame_change, frame_changes_by, same_phase, has_turned, measured_image, measured_images, measurement, nothing_measured, measurement_for, phase_change, phase_changes_by, changes_by}
use Rattle.kc_model.specs.Events.{of_owner, access_by, events_by}
use Rattle.kc_model.specs.Redaction.{keeps_images, redacted_reply}
use Rattle.kc_model.proofs.States.Approvals.{digest-same}
use Rattle.kc_model.proofs.States.Phases.{phase-effect}
use Rattle.kc_model.proofs.Safe.Measured.{set-here}
use Rattle.kc_model.proofs.Lawful.Verifies.{verify-served}
use Rattle.kc_model.proofs.Custody.Same.{not-turned}
use Rattle.kc_model.proofs.Views.Alike.{View, Alike, beside, beside-is, owner-alike}
use Rattle.kc_model.proofs.Views.Steps.{IsView, with_bytes, MayWrite, IsReply, step, image-same}

-- what is picked by equal tests and made by equal functions is the same
picked-same : {X Y : Type 0} (p q : X → Bool) (g h : X → Y) (xs : List X) → ((x : X) → p x ≡ q x) → ((x : X) → p x ≡ true → g x ≡ h x) → map g (filter p xs) ≡ map h (filter q xs)
picked-same p q g h [] same each = refl
picked-same p q g h (x ∷ xs) same each = step-of (picked-same p q g h xs same each) (p x) (each x) ∙ ap (λ b. map h (cond b (x ∷ filter q xs) (filter q xs))) (same x)
  where
    step-of : map g (filter p xs) ≡ map h (filter q xs) → (b : Bool) → (b ≡ true → g x ≡ h x) → map g (cond b (x ∷ filter p xs) (filter p xs)) ≡ map h (cond b (x ∷ filter q xs) (filter q xs))
    step-of rest true here = ap₂ ◌∷◌ (here refl) rest
    step-of rest false here = rest

maps-same : {X Y : Type 0} (g h : X → Y) (xs : List X) → ((i : ℕ) (d : X) → i < length xs → g (get_or xs i d) ≡ h (get_or xs i d)) → map g xs ≡ map h xs
maps-same g h [] same = refl
maps-same g h (x ∷ xs) same = ap₂ ◌∷◌ (same zero x (omega arith)) (maps-same g h xs (λ i d lt. same (suc i) d (omega arith)))

-- what is reported of frames
frames-told : (view : View) (line : ℕ) (m n m' n' : State) → Alike view m n → Alike view m' n' → frame_changes_by line n n' ≡ frame_changes_by line m m'
frames-told view line m n m' n' before after =
    let config = before.config in
    picked-same (has_moved n n') (has_moved m m') (frame_change line n n') (frame_change line m m') (range_with_len 0 n.config.frames)
    (λ f. ap₂ (λ a b. not (same_custody a b)) (before.frames f).custody (after.frames f).custody)
    (λ f h. ap₂ (λ a b. record { line = line; frame = f; before = a; after = b }) (before.frames f).custody (after.frames f).custody)
    ∙ ap (λ (c : Configuration). map (frame_change line m m') (filter (has_moved m m') (range_with_len 0 c.frames))) config

-- what is measured of a slot that the call turns is the same if it is reported
abbrev pub SameMeasurement : State → State → State → Type 0
SameMeasurement m n m' = (v : ℕ) → has_turned m m' v ≡ true → measurement_for (slot_at m' v).phase (measurement n v) ≡ measurement_for (slot_at m' v).phase (measurement m v)

-- what is reported of slots
slots-told : (view : View) (line : ℕ) (m n m' n' : State) → Alike view m n → Alike view m' n' → SameMeasurement m n m' → phase_changes_by line n n' ≡ phase_changes_by line m m'
slots-told view line m n m' n' before after measured =
    let config = before.config in
    let first = before.slots in
    let second = after.slots in
    let turned : (v : ℕ) → has_turned n n' v ≡ has_turned m m' v = λ v. ap₂ (λ (a b : List Slot). not (same_phase (get_or a v no_slot).phase (get_or b v no_slot).phase)) first second in
    picked-same (has_turned n n') (has_turned m m') (phase_change line n n') (phase_change line m m') (range_with_len 0 (slot_count n.config)) turned
    (λ v h.
    ap (λ (slots : List Slot). record { line = line; vm = v; phase = (get_or slots v no_slot).phase; measurement = measurement_for (get_or slots v no_slot).phase (measurement n v) }) second
    ∙ ap (λ told. record { line = line; vm = v; phase = (slot_at m' v).phase; measurement = told }) (measured v (sym (turned v) ∙ h)))
    ∙ ap (λ (c : Configuration). map (phase_change line m m') (filter (has_turned m m') (range_with_len 0 (slot_count c)))) config

-- what is reported of a call
pub changes-told : (view : View) (line : ℕ) (m n m' n' : State) → Alike view m n → Alike view m' n' → SameMeasurement m n m' → changes_by line n n' ≡ changes_by line m m'
changes-told view line m n m' n' before after measured =
    ap₂ ◌++◌ (ap (map change.Frame) (frames-told view line m n m' n' before after)) (ap (map change.Phase) (slots-told view line m n m' n' before after measured))

-- a slot that is reported without a measurement: it stays in its phase, or is booting or empty after the call
abbrev IsQuiet : State → State → ℕ → Type 0
IsQuiet m m' v = ((slot_at m' v).phase ≡ (slot_at m v).phase) ⊎ ((measured : Measurement) → measurement_for (slot_at m' v).phase measured ≡ nothing_measured)

quiet-measurement : (m n m' : State) (v : ℕ) → IsQuiet m m' v → has_turned m m' v ≡ true → measurement_for (slot_at m' v).phase (measurement n v) ≡ measurement_for (slot_at m' v).phase (measurement m v)
quiet-measurement m n m' v quiet turned = elim quiet [
  | inl same ↦ let still = not-turned m m' v same in absurd cc
  | inr none ↦ none (measurement n v) ∙ sym (none (measurement m v))
]

-- a slot is written in a phase without a measurement
written-quiet : (m : State) (w : ℕ) (slot : Slot) (v : ℕ) → ((measured : Measurement) → measurement_for slot.phase measured ≡ nothing_measured) → IsQuiet m (with_slot m w slot) v
written-quiet m w slot v none = elim (cases_eq v w) [
  | inl same ↦ elim (set-here m.slots w slot no_slot) [
    | inl is ↦ inr (λ measured. ap (λ k. measurement_for (slot_at (with_slot m w slot) k).phase measured) same ∙ ap (λ (s : Slot). measurement_for s.phase measured) is ∙ none measured)
    | inr is ↦ inr (λ measured. ap (λ k. measurement_for (slot_at (with_slot m w slot) k).phase measured) same ∙ ap (λ (s : Slot). measurement_for s.phase measured) is)
  ]
  | inr other ↦ inl (ap (λ (s : Slot). s.phase) (get_or-set_other m.slots w v slot no_slot other))
]

-- what is measured of the slot
verify-measurement : (view : View) (m : State) (ys : List Frame) (w : ℕ) → IsLawful m → IsLawful (beside m ys) → Alike view m (beside m ys) → refusal m (Verify w) ≡ None → measurement (beside m ys) w ≡ measurement m w
verify-measurement view m ys w is other_is differ served =
    let seen = verify-served m w served in
    let same = image-same view m ys is other_is differ.number differ.frames w seen.0 seen.1 seen.2 in
    let images : measured_images (beside m ys) w ≡ measured_images m w =
    maps-same (measured_image (beside m ys) w) (measured_image m w) (slot_at m w).images (λ i d lt.
    let image = get_or (slot_at m w).images i d in
    ap (λ bytes. record { base = image.base; len = image.len; digest = sha256 bytes }) (same i d lt)) in
    let launch = digest-same (beside m ys) m w (record { version = refl; approved = refl; images = refl; bytes = same }) in
    ap₂ (λ measured digest. record { images = measured; launch = cond (measures_launch m.config.version) (Some digest) None }) images launch

by-quiet : (m : State) (ys : List Frame) (call : Call) (v : ℕ) → IsQuiet m (effect m call).1 v → has_turned m (effect m call).1 v ≡ true → measurement_for (slot_at (effect m call).1 v).phase (measurement (beside m ys) v) ≡ measurement_for (slot_at (effect m call).1 v).phase (measurement m v)
by-quiet m ys call v quiet turned = quiet-measurement m (beside m ys) (effect m call).1 v quiet turned

same-slot : (w v : ℕ) → Some w ≡ Some v → v ≡ w
same-slot w v e = cc

measurement-effect : (view : View) (m : State) (ys : List Frame) (call : Call) → IsLawful m → IsLawful (beside m ys) → Alike view m (beside m ys) → refusal m call ≡ None → SameMeasurement m (beside m ys) (effect m call).1
measurement-effect view m ys (RegisterVm w) is other_is differ served v turned = by-quiet m ys (RegisterVm w) v (written-quiet m w _ v (λ measured. refl)) turned
measurement-effect view m ys (Verify w) is other_is differ served v turned = elim (cases_eq v w) [
  | inl same ↦ ap (measurement_for (slot_at (effect m (Verify w)).1 v).phase) (subst (λ k. measurement (beside m ys) k ≡ measurement m k) (sym same) (verify-measurement view m ys w is other_is differ served))
  | inr other ↦ by-quiet m ys (Verify w) v (inl (phase-effect m (Verify w) v (λ e. other (same-slot w v e)))) turned
]
measurement-effect view m ys (Clear w) is other_is differ served v turned = by-quiet m ys (Clear w) v (written-quiet m w (empty_slot m.config.version) v (λ measured. refl)) turned
measurement-effect view m ys call is other_is differ served v turned = by-quiet m ys call v (inl (phase-effect m call v (λ e. cc))) turned

measurement-unless-refused : (refused : Option Refusal) (view : View) (m : State) (ys : List Frame) (call : Call) → IsLawful m → IsLawful (beside m ys) → Alike view m (beside m ys) → refusal m call ≡ refused → SameMeasurement m (beside m ys) (unless_refused refused m call).1
measurement-unless-refused None view m ys call is other_is differ served v turned = measurement-effect view m ys call is other_is differ served v turned
measurement-unless-refused (Some r) view m ys call is other_is differ served v turned = quiet-measurement m (beside m ys) m v (inl refl) turned

measurement-next : (view : View) (m n : State) (call : Call) → IsLawful m → IsLawful n → Alike view m n → SameMeasurement m n (next m call).1
unfolding next
measurement-next view m n call is other_is differ =
    let same = beside-is view m n differ in
    subst (λ (x : State). SameMeasurement m x (next m call).1) same
    (measurement-unless-refused (refusal m call) view m n.frames call is (subst IsLawful (sym same) other_is) (subst (λ (x : State). Alike view m x) (sym same) differ) refl)

-- the host's accesses

is_data : Reply → Bool
is_data (reply.Data bytes) = true
is_data _ = false

read-told : (m : State) (f off len : ℕ) (answer : Reply) → access_by m (HostRead f off len) answer ≡ cond (is_data answer) (of_owner event.Read (frame_at m f).owner) []
unfolding is_data
read-told m f off len (reply.Data bytes) = refl
read-told m f off len _ = refl

data-form : (answer : Reply) → is_data (redacted_reply answer) ≡ is_data answer
unfolding is_data
data-form (reply.Data bytes) = refl
data-form _ = refl

write-told : (m n : State) (f off : ℕ) (bytes written : List ℕ) (answer : Reply) → (frame_at n f).owner ≡ (frame_at m f).owner → access_by n (HostWrite f off written) answer ≡ access_by m (HostWrite f off bytes) answer
write-told m n f off bytes written reply.Done owner = ap (of_owner event.Write) owner
write-told m n f off bytes written _ owner = refl

access-told : (view : View) (m n : State) (call : Call) (other : List ℕ) (answer reply : Reply) → Alike view m n → IsReply view m call answer reply → access_by n (with_bytes call other) reply ≡ access_by m call answer
access-told view m n (HostRead f off len) other answer reply differ same =
    let owner = owner-alike _ _ _ (differ.frames f) in
    let form : is_data reply ≡ is_data answer = sym (data-form reply) ∙ ap is_data same.form ∙ data-form answer in
    read-told n f off len reply ∙ ap₂ (λ b o. cond b (of_owner event.Read o) []) form owner ∙ sym (read-told m f off len answer)
access-told view m n (HostWrite f off bytes) other answer reply differ same =
    ap (access_by n (HostWrite f off other)) (same.whole (λ reads. absurd cc)) ∙ write-told m n f off bytes other answer (owner-alike _ _ _ (differ.frames f))
access-told view m n (GuestWrite v c g off bytes) other answer reply differ same = refl
access-told view m n _ other answer reply differ same = refl

-- the events of a call
pub events-told : (view : View) (k : ℕ) (m n : State) (call : Call) (other : List ℕ) → IsView view → IsLawful m → IsLawful n → Alike view m n → MayWrite view m call other → keeps_images view.kept call ≡ true → events_by k n (with_bytes call other) ≡ events_by k m call
events-told view k m n call other is_view is other_is differ may keeps =
    let both = step view m n call other is_view is other_is differ may keeps in
    ap₂ ◌++◌ (access-told view m n call other (next m call).0 (next n (with_bytes call other)).0 differ both.answer)
    (ap (map event.Change) (changes-told view k m n (next m call).1 (next n (with_bytes call other)).1 differ both.states (measurement-next view m n call is other_is differ)))
