-- Each change is right: of a frame its custody, of a slot its phase, and that its boot is approved if it became active.
use Rattle.std.proofs.Common.{ℕ, suc, ◌≡◌, ◌<◌, ◌+◌, true, false, List, [], ◌∷◌, length, map, filter, get_or, All, cond, Some, None, sym, ap, ap₂, subst, ◌∙◌, arith}
use Rattle.std.specs.Prelude.{Contains}
use Rattle.std.specs.List.{range_with_len}
use Rattle.std.proofs.lemmas.List.Elements.{All-nil, All-append, All-map, filter_passes}
use Rattle.kc_types.specs.Configuration.{Configuration, slot_count, measures_launch}
use Rattle.kc_types.specs.declared.call.Call.{Call}
use Rattle.kc_types.specs.declared.custody.MeasuredImage.{MeasuredImage}
use Rattle.kc_types.specs.declared.custody.Change.{Change}
use Rattle.kc_types.specs.declared.custody.Change.TheVariants as change
use Rattle.kc_model.specs.State.{State, slot_at}
use Rattle.kc_model.specs.Next.{next}
use Rattle.kc_model.specs.Effects.{launch_digest}
use Rattle.kc_model.specs.Footprints.{state_at, call_at}
use Rattle.kc_model.specs.Custody.{custody_at, has_moved, has_turned, frame_change, phase_change, frame_changes_by, phase_changes_by, changes_by, custody_from, measurement_for, measured_images, measurement, first_line}
use Rattle.kc_model.specs.CustodyLaws.{TellsFrame, IsFrameTold, TellsFrames, TellsPhase, IsPhaseTold, TellsPhases}
use Rattle.kc_model.proofs.States.Places.{state_at-rest}
use Rattle.kc_model.proofs.Footprints.Reaches.{config-at}
use Rattle.kc_model.proofs.Custody.Approved.{all_approved, launch_approved}

-- what holds of the changes by each call holds of the changes by all
pub each-call : (P : Change → Type 0) (n : ℕ) (m : State) (calls : List Call) → ((k : ℕ) → k < length calls → All P (changes_by (n + k) (state_at m calls k) (state_at m calls (suc k)))) → All P (custody_from n m calls)
each-call P n m [] each = All-nil P
each-call P n m (call ∷ calls) each =
    let here : n + 0 ≡ n = omega arith in
    let first : All P (changes_by n m (next m call).1) = subst (λ line. All P (changes_by line m (next m call).1)) here (each 0 (omega arith)) in
    All-append P (changes_by n m (next m call).1) (custody_from (n + 1) (next m call).1 calls) first (each-call P (n + 1) (next m call).1 calls (λ k lt.
    let there : n + suc k ≡ (n + 1) + k = omega arith in
    let same : changes_by (n + suc k) (state_at m (call ∷ calls) (suc k)) (state_at m (call ∷ calls) (suc (suc k))) ≡ changes_by ((n + 1) + k) (state_at (next m call).1 calls k) (state_at (next m call).1 calls (suc k)) =
    ap₂ (changes_by (n + suc k)) (state_at-rest m call calls k) (state_at-rest m call calls (suc k))
    ∙ ap (λ line. changes_by line (state_at (next m call).1 calls k) (state_at (next m call).1 calls (suc k))) there in
    subst (All P) same (each (suc k) (omega (arith, lt)))))

-- a change of a slot by the call at this place
tells : (m : State) (calls : List Call) (k v : ℕ) → has_turned (state_at m calls k) (state_at m calls (suc k)) v ≡ true → TellsPhase m calls (phase_change (first_line + k) (state_at m calls k) (state_at m calls (suc k)) v)
tells m calls k v turned = record {
  phase = λ n at. let same : n + 1 ≡ suc k = omega (arith, at) in ap (λ i. (slot_at (state_at m calls i) v).phase) same;
  measurement = λ n at. let same : n ≡ k = omega (arith, at) in ap (λ i. measurement_for (slot_at (state_at m calls (suc k)) v).phase (measurement (state_at m calls i) v)) same;
  approved = λ each active.
      let old = state_at m calls k in
      let each_old : measures_launch old.config.version ≡ false = rw (config-at m calls k) each in
      let approved = subst (λ (config : Configuration). All (λ (image : MeasuredImage). Contains config.approved image.digest) (measured_images old v)) (config-at m calls k) (all_approved old (call_at calls k) v each_old turned active) in
      subst (λ phase. All (λ (image : MeasuredImage). Contains m.config.approved image.digest) (measurement_for phase (measurement old v)).images) (sym active) approved;
  launch = λ whole active.
      let old = state_at m calls k in
      let whole_old : measures_launch old.config.version ≡ true = rw (config-at m calls k) whole in
      let approved = subst (λ (config : Configuration). Contains config.approved (launch_digest old v)) (config-at m calls k) (launch_approved old (call_at calls k) v whole_old turned active) in (
        launch_digest old v,
        ap (λ phase. (measurement_for phase (measurement old v)).launch) active ∙ ap (λ each. cond each (Some (launch_digest old v)) None) whole_old,
        approved,
      );
}

-- a change of a frame by the call
tells-frame : (m : State) (calls : List Call) (k f : ℕ) → TellsFrame m calls (frame_change (first_line + k) (state_at m calls k) (state_at m calls (suc k)) f)
tells-frame m calls k f = record {
  before = λ n at. let same : n ≡ k = omega (arith, at) in ap (λ i. custody_at (state_at m calls i) f) same;
  after = λ n at. let same : n + 1 ≡ suc k = omega (arith, at) in ap (λ i. custody_at (state_at m calls i) f) same;
}

tells-call : (m : State) (calls : List Call) (k : ℕ) → All (IsPhaseTold m calls) (changes_by (first_line + k) (state_at m calls k) (state_at m calls (suc k)))
tells-call m calls k =
    let line = first_line + k in
    let old = state_at m calls k in
    let new = state_at m calls (suc k) in
    let slots = range_with_len 0 (slot_count old.config) in
    All-append (IsPhaseTold m calls) (map change.Frame (frame_changes_by line old new)) (map change.Phase (phase_changes_by line old new))
    (All-map (IsPhaseTold m calls) change.Frame (frame_changes_by line old new) (λ i d lt. tt))
    (All-map (IsPhaseTold m calls) change.Phase (phase_changes_by line old new)
    (All-map (TellsPhase m calls) (phase_change line old new) (filter (has_turned old new) slots)
    (λ i d lt. tells m calls k (get_or (filter (has_turned old new) slots) i d) (filter_passes (has_turned old new) slots i d lt))))

pub tells_phases : (m : State) (calls : List Call) → TellsPhases m calls
tells_phases m calls = each-call (IsPhaseTold m calls) first_line m calls (λ k lt. tells-call m calls k)

frames-call : (m : State) (calls : List Call) (k : ℕ) → All (IsFrameTold m calls) (changes_by (first_line + k) (state_at m calls k) (state_at m calls (suc k)))
frames-call m calls k =
    let line = first_line + k in
    let old = state_at m calls k in
    let new = state_at m calls (suc k) in
    let moved = filter (has_moved old new) (range_with_len 0 old.config.frames) in
    All-append (IsFrameTold m calls) (map change.Frame (frame_changes_by line old new)) (map change.Phase (phase_changes_by line old new))
    (All-map (IsFrameTold m calls) change.Frame (frame_changes_by line old new)
    (All-map (TellsFrame m calls) (frame_change line old new) moved (λ i d lt. tells-frame m calls k (get_or moved i d))))
    (All-map (IsFrameTold m calls) change.Phase (phase_changes_by line old new) (λ i d lt. tt))

pub tells_frames : (m : State) (calls : List Call) → TellsFrames m calls
tells_frames m calls = each-call (IsFrameTold m calls) first_line m calls (λ k lt. frames-call m calls k)
