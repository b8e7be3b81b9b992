-- The events of a trace name frames and slots that there are.
use Rattle.std.proofs.Common.{ℕ, ◌+◌, ◌<◌, ◌≤◌, List, [], ◌∷◌, map, All, ap, arith}
use Rattle.std.specs.List.{range_with_len}
use Rattle.std.proofs.lemmas.List.Elements.{All-nil, All-cons, All-append, All-map, All-filter, All-from_get_or}
use Rattle.std.proofs.lemmas.List.FromFn.{get_or-range_with_len, length-range_with_len}
use Rattle.kc_types.specs.Limits.{slot_limit}
use Rattle.kc_types.specs.Configuration.{Configuration, slot_count}
use Rattle.kc_types.proofs.Ranges as ranges
use Rattle.kc_types.specs.declared.slot.Phase.TheVariants.{Booting}
use Rattle.kc_types.specs.declared.owner.Owner.{Owner}
use Rattle.kc_types.specs.declared.owner.Owner.TheVariants.{Core, Host, Free, Vm}
use Rattle.kc_types.specs.declared.call.Call.{Call}
use Rattle.kc_types.specs.declared.call.Call.TheVariants.{HostRead, HostWrite}
use Rattle.kc_types.specs.declared.reply.Reply.{Reply}
use Rattle.kc_types.specs.declared.reply.Reply.TheVariants as reply
use Rattle.kc_types.specs.declared.custody.Change.{Change}
use Rattle.kc_types.specs.declared.custody.Change.TheVariants as change
use Rattle.kc_types.specs.declared.custody.Event.{Event}
use Rattle.kc_types.specs.declared.custody.Event.TheVariants as event
use Rattle.kc_model.specs.State.{State, frame_at, slot_at}
use Rattle.kc_model.specs.Boot.{boot}
use Rattle.kc_model.specs.Next.{next}
use Rattle.kc_model.specs.Custody.{changes_by, frame_change, frame_changes_by, phase_change, has_moved, has_turned}
use Rattle.kc_model.specs.Before.{header_line, is_taken, is_measured, turn_before, frame_before, slots_that, events_before}
use Rattle.kc_model.specs.Events.{of_owner, access_by, events_by, events_from}
use Rattle.kc_model.proofs.States.Sizes.{sized-next}
use Rattle.kc_custody.specs.Within.{IsWithin}

pub few-slots : (c : Configuration) → slot_count c ≤ slot_limit
unfolding slot_count
few-slots c = ranges.few-slots c.version

range-below : (n most : ℕ) → n ≤ most → All (λ i. i < most) (range_with_len 0 n)
range-below n most few = All-from_get_or (λ i. i < most) (range_with_len 0 n) 0 (λ i lt.
    let low : i < n = omega (arith, length-range_with_len 0 n, lt) in
    omega (arith, get_or-range_with_len 0 n i 0 low, low, few))

owner-within : (frames : ℕ) (made : ℕ → Event) (owner : Owner) → ((v : ℕ) → IsWithin frames (made v)) → All (IsWithin frames) (of_owner made owner)
owner-within frames made (Vm v) within = All-cons (IsWithin frames) (made v) [] (within v) (All-nil (IsWithin frames))
owner-within frames made Core within = All-nil (IsWithin frames)
owner-within frames made Host within = All-nil (IsWithin frames)
owner-within frames made Free within = All-nil (IsWithin frames)

access-within : (frames : ℕ) (m : State) (call : Call) (answer : Reply) → All (IsWithin frames) (access_by m call answer)
access-within frames m (HostRead f off len) (reply.Data bytes) = owner-within frames event.Read (frame_at m f).owner (λ v. tt)
access-within frames m (HostWrite f off bytes) reply.Done = owner-within frames event.Write (frame_at m f).owner (λ v. tt)
access-within frames m call answer = All-nil (IsWithin frames)

changes-within : (line : ℕ) (old new : State) → All (λ told. IsWithin old.config.frames (event.Change told)) (changes_by line old new)
changes-within line old new =
    let P : Change → Type 0 = λ told. IsWithin old.config.frames (event.Change told) in
    All-append P _ _
    (All-map P change.Frame _ (All-map (λ told. P (change.Frame told)) (frame_change line old new) _ (All-filter (has_moved old new) (λ f. f < old.config.frames) _ (range-below old.config.frames old.config.frames (omega arith)))))
    (All-map P change.Phase _ (All-map (λ told. P (change.Phase told)) (phase_change line old new) _ (All-filter (has_turned old new) (λ v. v < slot_limit) _ (range-below (slot_count old.config) slot_limit (few-slots old.config)))))

-- the events of a trace name frames and slots that there are
pub events-within : (n : ℕ) (m : State) (calls : List Call) → All (IsWithin m.config.frames) (events_from n m calls)
events-within n m [] = All-nil (IsWithin m.config.frames)
events-within n m (call ∷ calls) =
    let rest = rw (ap (λ (c : Configuration). c.frames) (sized-next m call).config) at (events-within (n + 1) (next m call).1 calls) in
    All-append (IsWithin m.config.frames) (events_by n m call) _
    (All-append (IsWithin m.config.frames) (access_by m call (next m call).0) _ (access-within m.config.frames m call (next m call).0) (All-map (IsWithin m.config.frames) event.Change _ (changes-within n m (next m call).1)))
    rest

-- what is so before the first call names those, too
pub before-within : (m : State) → All (IsWithin m.config.frames) (events_before m)
before-within m =
    let P : Event → Type 0 = IsWithin m.config.frames in
    let slots = range-below (slot_count m.config) slot_limit (few-slots m.config) in
    All-append P (map (turn_before Booting) (slots_that is_taken m)) _
    (All-map P (turn_before Booting) _ (All-filter (is_taken m) (λ v. v < slot_limit) _ slots))
    (All-append P (map frame_before (frame_changes_by header_line (boot m.config) m)) _
    (All-map P frame_before _ (All-map (λ told. P (frame_before told)) (frame_change header_line (boot m.config) m) _ (All-filter (has_moved (boot m.config) m) (λ f. f < m.config.frames) _ (range-below m.config.frames m.config.frames (omega arith)))))
    (All-map P (λ v. turn_before (slot_at m v).phase v) _ (All-filter (is_measured m) (λ v. v < slot_limit) _ slots)))
