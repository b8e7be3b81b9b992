-- A trace has no more events than can be counted.
use Rattle.std.proofs.Common.{ℕ, ◌≡◌, ◌<◌, ◌≤◌, ◌+◌, ◌*◌, ◌^◌, Bool, List, [], ◌∷◌, ◌++◌, map, filter, length, length-append, sym, ap, subst, arith}
use Rattle.std.specs.List.{range_with_len}
use Rattle.std.proofs.lemmas.List.{length-map}
use Rattle.std.proofs.lemmas.List.FromFn.{length-range_with_len}
use Rattle.std.proofs.lemmas.List.Sums.{length-filter, count_by-le-length}
use Rattle.kc_types.specs.Limits.{frame_limit, slot_limit}
use Rattle.kc_types.specs.Configuration.{Configuration, slot_count}
use Rattle.kc_types.specs.declared.owner.Owner.{Owner}
use Rattle.kc_types.specs.declared.owner.Owner.TheVariants.{Vm}
use Rattle.kc_types.specs.declared.call.Call.{Call}
use Rattle.kc_types.specs.declared.call.Call.TheVariants.{HostRead, HostWrite}
use Rattle.kc_types.specs.declared.reply.Reply.{Reply}
use Rattle.kc_types.specs.declared.reply.Reply.TheVariants as reply
use Rattle.kc_types.specs.declared.slot.Phase.TheVariants.{Booting}
use Rattle.kc_types.specs.declared.custody.Change.TheVariants as change
use Rattle.kc_types.specs.declared.custody.Event.{Event}
use Rattle.kc_types.specs.declared.custody.Event.TheVariants as event
use Rattle.kc_model.specs.State.{State, frame_at, slot_at}
use Rattle.kc_model.specs.Boot.{boot}
use Rattle.kc_model.specs.Next.{next}
use Rattle.kc_model.specs.Lawful.{IsLawful}
use Rattle.kc_model.specs.Custody.{changes_by, frame_change, frame_changes_by, phase_change, phase_changes_by, has_moved, has_turned}
use Rattle.kc_model.specs.Before.{header_line, is_taken, is_measured, turn_before, frame_before, slots_that, events_before}
use Rattle.kc_model.specs.Events.{of_owner, access_by, events_by, events_from}
use Rattle.kc_model.proofs.States.Configurations as configurations
use Rattle.kc_model.proofs.States.Sizes.{sized-next}
use Rattle.kc_custody.specs.Growing.{HasRoom}
use Rattle.kc_custody.proofs.Traced.{few-slots}

fewer : {X : Type 0} (test : X → Bool) (xs : List X) (n : ℕ) → length xs ≡ n → length (filter test xs) ≤ n
fewer test xs n long = let all = length-filter test xs in let some = count_by-le-length test xs in omega (arith, all, some, long)

-- no more frames change by a call than there are, and no more slots
few-frames : (n : ℕ) (old new : State) → length (frame_changes_by n old new) ≤ old.config.frames
few-frames n old new =
    let changed = length-map (filter (has_moved old new) (range_with_len 0 old.config.frames)) (frame_change n old new) in
    let some = fewer (has_moved old new) (range_with_len 0 old.config.frames) old.config.frames (length-range_with_len 0 old.config.frames) in
    omega (arith, changed, some)

few-phases : (n : ℕ) (old new : State) → length (phase_changes_by n old new) ≤ slot_count old.config
few-phases n old new =
    let changed = length-map (filter (has_turned old new) (range_with_len 0 (slot_count old.config))) (phase_change n old new) in
    let some = fewer (has_turned old new) (range_with_len 0 (slot_count old.config)) (slot_count old.config) (length-range_with_len 0 (slot_count old.config)) in
    omega (arith, changed, some)

few-of-owner : (made : ℕ → Event) (owner : Owner) → length (of_owner made owner) ≤ 1
few-of-owner made (Vm v) = omega arith
few-of-owner made _ = omega arith

few-accesses : (m : State) (call : Call) (answer : Reply) → length (access_by m call answer) ≤ 1
few-accesses m (HostRead f off len) (reply.Data bytes) = few-of-owner event.Read (frame_at m f).owner
few-accesses m (HostWrite f off bytes) reply.Done = few-of-owner event.Write (frame_at m f).owner
few-accesses m call answer = omega arith

few-by : (n : ℕ) (m : State) (call : Call) → m.config.frames ≤ frame_limit → length (events_by n m call) ≤ frame_limit + slot_limit + 1
few-by n m call small =
    let new = (next m call).1 in
    let frames = map change.Frame (frame_changes_by n m new) in
    let phases = map change.Phase (phase_changes_by n m new) in
    let both = length-append (access_by m call (next m call).0) (map event.Change (changes_by n m new)) in
    let changes = length-map (changes_by n m new) event.Change in
    let parts = length-append frames phases in
    let of_frames = length-map (frame_changes_by n m new) change.Frame in
    let of_phases = length-map (phase_changes_by n m new) change.Phase in
    omega (arith, small, both, changes, parts, of_frames, of_phases, few-accesses m call (next m call).0, few-frames n m new, few-phases n m new, few-slots m.config)

few-events : (n : ℕ) (m : State) (calls : List Call) → m.config.frames ≤ frame_limit → length (events_from n m calls) ≤ (frame_limit + slot_limit + 1) * length calls
few-events n m [] small = omega arith
few-events n m (call ∷ calls) small =
    let here = few-by n m call small in
    let rest = few-events (n + 1) (next m call).1 calls (subst (λ (c : Configuration). c.frames ≤ frame_limit) (sym (sized-next m call).config) small) in
    let both = length-append (events_by n m call) (events_from (n + 1) (next m call).1 calls) in
    omega (arith, here, rest, both)

few-before : (m : State) → m.config.frames ≤ frame_limit → length (events_before m) ≤ frame_limit + 2 * slot_limit
few-before m small =
    let taken = slots_that is_taken m in
    let measured = slots_that is_measured m in
    let moved = frame_changes_by header_line (boot m.config) m in
    let turned : List Event = map (λ v. turn_before (slot_at m v).phase v) measured in
    let slots = length-range_with_len 0 (slot_count m.config) in
    omega (
      arith,
      small,
      few-slots m.config,
      few-frames header_line (boot m.config) m,
      length-append (map (turn_before Booting) taken) (map frame_before moved ++ turned),
      length-append (map frame_before moved) turned,
      length-map taken (turn_before Booting),
      length-map moved frame_before,
      length-map measured (λ v. turn_before (slot_at m v).phase v),
      fewer (is_taken m) (range_with_len 0 (slot_count m.config)) (slot_count m.config) slots,
      fewer (is_measured m) (range_with_len 0 (slot_count m.config)) (slot_count m.config) slots,
    )

-- what is so before the first call and the events of fewer than 2 ^ 32 calls can be counted, and one event more
pub few-of-trace : (n : ℕ) (m : State) (calls : List Call) → IsLawful m → length calls < 2 ^ 32 → HasRoom (events_before m ++ events_from n m calls)
few-of-trace n m calls is short =
    let small = configurations.few-frames m.config is.config in
    omega (arith, short, few-before m small, few-events n m calls small, length-append (events_before m) (events_from n m calls))

pub room-before : (m : State) → IsLawful m → HasRoom (events_before m)
room-before m is = omega (arith, few-before m (configurations.few-frames m.config is.config))
