-- The sharings of a VM that is there before the first call: first those that are under way in the state, and then those
-- that calls begin.
use Rattle.std.proofs.Common.{ℕ, ◌≡◌, ◌<◌, ◌+◌, ◌-◌, ◌≤◌, ◌&&◌, true, nat_lt, List, ◌++◌, map, filter, length, get_or, All, refl, ap, ap₂, ◌∙◌, arith, append_assoc}
use Rattle.std.specs.List.{range_with_len}
use Rattle.std.proofs.lemmas.Bool.{and_parts, ltb-true, eq-eqb}
use Rattle.std.proofs.lemmas.List.Elements.{All-map, All-filter, filter_passes, filter_agree}
use Rattle.kc_types.specs.Configuration.{slot_count}
use Rattle.kc_types.specs.declared.slot.Phase.{Phase}
use Rattle.kc_types.specs.declared.slot.Phase.TheVariants.{Empty, Booting}
use Rattle.kc_types.specs.declared.call.Call.{Call}
use Rattle.kc_types.specs.declared.custody.Event.{Event}
use Rattle.kc_model.specs.State.{State, frame_at, slot_at}
use Rattle.kc_model.specs.Boot.{boot}
use Rattle.kc_model.specs.Lives.{is_owned_by, sharings}
use Rattle.kc_model.specs.Before.{header_line, is_measured, turn_before, slots_that}
use Rattle.kc_model.specs.Summaries.{is_shared_before, sharing_before}
use Rattle.kc_model.proofs.Custody.Ordered.{in-range}
use Rattle.kc_model.proofs.Summaries.Lived.{IsInLife}
use Rattle.kc_model.proofs.Summaries.Lives.{told}
use Rattle.kc_model.proofs.Summaries.Sharings.{EndsNone, BeginsNone, end-through, from-map, share-through, starts, started, starting, frames-share, ended_in, ends-at, same-on}
use Rattle.kc_model.proofs.Summaries.Before.{shared-boot, turns_before, frames_before, measured_before, registered_before, told_before}
use Rattle.kc_model.proofs.Summaries.MeasuredBefore.{others-in-life, measured-in-life}

-- a turn neither begins nor ends a sharing
turns-begin-none : (v : ℕ) (of : ℕ → Phase) (ws : List ℕ) → All (IsInLife v) (turns_before of ws) → All (BeginsNone v) (turns_before of ws)
turns-begin-none v of ws within = All-map (BeginsNone v) (λ w. turn_before (of w) w) ws (λ i d lt. record { goes_on = from-map (IsInLife v) (λ w. turn_before (of w) w) ws within i d lt; none = λ more. refl })

turns-end-none : (f : ℕ) (of : ℕ → Phase) (ws : List ℕ) → All (EndsNone f) (turns_before of ws)
turns-end-none f of ws = All-map (EndsNone f) (λ w. turn_before (of w) w) ws (λ i d lt more. refl)

module _ (m : State) (calls : List Call) (v : ℕ) (low : v < slot_count m.config) (ws : List ℕ) (others : All (λ w. w ≡ v → ⊥) ws) (some : (slot_at m v).phase ≡ Empty → ⊥) where
  -- the events of all calls
  abbrev later : List Event
  later = told m calls (length calls) 0

  -- since no frame is shared at boot, each that is shared begins a sharing
  starts-shared : (f : ℕ) → starts v (boot m.config) m f ≡ is_shared_before m v f
  starts-shared f = ap (λ b. is_owned_by v (frame_at m f).owner && (b && nat_lt 0 (frame_at m f).share)) (eq-eqb (frame_at (boot m.config) f).share 0 (shared-boot m.config f))

  -- which ends as its calls say
  ends-later : (f : ℕ) → f < m.config.frames → is_shared_before m v f ≡ true → starting header_line m (measured_before m ++ later) f ≡ sharing_before m calls f
  ends-later f lt shared =
      let some_shares = ltb-true 0 (frame_at m f).share (and_parts (is_owned_by v (frame_at m f).owner) (nat_lt 0 (frame_at m f).share) shared).1 in
      let all : length calls ≡ length calls - 0 = omega arith in
      ap (λ to. started header_line m to f)
      (end-through f (measured_before m) later (turns-end-none f (λ w. (slot_at m w).phase) (slots_that is_measured m)) ∙ ends-at m calls f lt (length calls) 0 (omega arith) some_shares ∙ ap (ended_in m calls f 0) all)

  shared-frames : map (starting header_line m (measured_before m ++ later)) (filter (starts v (boot m.config) m) (range_with_len 0 m.config.frames)) ≡ map (sharing_before m calls) (filter (is_shared_before m v) (range_with_len 0 m.config.frames))
  shared-frames =
      let frames = range_with_len 0 m.config.frames in
      let shared = filter (is_shared_before m v) frames in
      ap (map (starting header_line m (measured_before m ++ later))) (filter_agree (starts v (boot m.config) m) (is_shared_before m v) starts-shared frames)
      ∙ same-on m calls (starting header_line m (measured_before m ++ later)) (sharing_before m calls) shared
      (λ i d lt.
      let within = (All-filter (is_shared_before m v) (λ f. (0 ≤ f) × (f < 0 + m.config.frames)) frames (in-range 0 m.config.frames)) i d lt in
      ends-later (get_or shared i d) (omega (arith, within.1)) (filter_passes (is_shared_before m v) frames i d lt))

  pub shared-before : sharings v (told_before m ws ++ later) ≡ map (sharing_before m calls) (filter (is_shared_before m v) (range_with_len 0 m.config.frames)) ++ sharings v later
  shared-before =
      let first = turns_before (λ w. Booting) ws in
      let frames = frames_before m in
      let measured = measured_before m in
      ap (sharings v) (append_assoc (registered_before m ws) measured later ∙ append_assoc first frames (measured ++ later))
      ∙ share-through v first (frames ++ (measured ++ later)) (turns-begin-none v (λ w. Booting) ws (others-in-life m v low ws others))
      ∙ frames-share v header_line (boot m.config) m (measured ++ later) 0 m.config.frames
      ∙ ap₂ ◌++◌ shared-frames (share-through v measured later (turns-begin-none v (λ w. (slot_at m w).phase) (slots_that is_measured m) (measured-in-life m v low ws others some)))
