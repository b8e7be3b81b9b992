-- The events of a state, as they are told of a VM that is there: they bring it the frames that it has, and say whether
-- it has been measured.
use Rattle.std.proofs.Common.{ℕ, ◌≡◌, ◌<◌, ◌+◌, inl, inr, Bool, true, false, cond, not, ◌&&◌, nat_eq, nat_lt, List, [], ◌∷◌, ◌++◌, map, All, Some, refl, sym, ap, ap₂, subst, ◌∙◌, arith, append-nil}
use Rattle.std.specs.List.{list_any}
use Rattle.std.proofs.lemmas.Bool.{cases_eq, cases_lt, eq-eqb, ne_eqb, and_from, and_left, and_right, cond-true}
use Rattle.std.proofs.lemmas.List.Elements.{All-map, All-weaker, filter_map-append}
use Rattle.kc_types.specs.Configuration.{Configuration, slot_count}
use Rattle.kc_types.specs.declared.owner.Owner.TheVariants.{Core, Host, Free}
use Rattle.kc_types.specs.declared.slot.Phase.{Phase}
use Rattle.kc_types.specs.declared.slot.Phase.TheVariants.{Booting, Active, Dead}
use Rattle.kc_types.specs.declared.call.Call.{Call}
use Rattle.kc_types.specs.declared.custody.Change.TheVariants as change
use Rattle.kc_types.specs.declared.custody.Event.{Event}
use Rattle.kc_types.specs.declared.custody.Event.TheVariants as event
use Rattle.kc_model.specs.State.{State, frame_at, slot_at}
use Rattle.kc_model.specs.Boot.{boot}
use Rattle.kc_model.specs.Lawful.{IsLawful}
use Rattle.kc_model.specs.Resources.{is_in}
use Rattle.kc_model.specs.Custody.{same_phase, frame_changes_by, nothing_measured}
use Rattle.kc_model.specs.Lives.{is_owned_by, is_turn, is_measuring, is_gain, is_loss, is_read, is_write, line_of_turn, measurement_told, frame_gained, frames_gained}
use Rattle.kc_model.specs.Before.{header_line, is_measured, turn_before, slots_that}
use Rattle.kc_model.proofs.Lawful.AtBoot.{frame_at-boot, frame_at-past}
use Rattle.kc_model.proofs.Custody.Same.{same_phase-refl}
use Rattle.kc_model.proofs.Summaries.Counts.{count, count-append, count-none, count-same}
use Rattle.kc_model.proofs.Summaries.Owned.{has, all_frames, gained, lost, owned-count}
use Rattle.kc_model.proofs.Summaries.Called.{IsQuiet, frames-all, frames-gain, frames-lose, frames-bring, frames-within, none-gained}
use Rattle.kc_model.proofs.Summaries.Lived.{other-phase, line-more, measurement-more, measures-not}
use Rattle.kc_model.proofs.Summaries.Brought.{Brings}

-- at boot no VM owns a frame
owned-boot : (c : Configuration) (v f : ℕ) → is_owned_by v (frame_at (boot c) f).owner ≡ false
owned-boot c v f = elim (cases_lt f c.frames) [
  | inl lt ↦ ap (λ frame. is_owned_by v frame.owner) (frame_at-boot c f lt) ∙ no_vm (nat_lt f c.core) (nat_lt f (c.core + c.host))
  | inr past ↦ ap (λ frame. is_owned_by v frame.owner) (frame_at-past c f past)
]
  where
    no_vm : (a b : Bool) → is_owned_by v (cond a Core (cond b Host Free)) ≡ false
    no_vm true b = refl
    no_vm false true = refl
    no_vm false false = refl

-- nor is one shared
pub shared-boot : (c : Configuration) (f : ℕ) → (frame_at (boot c) f).share ≡ 0
shared-boot c f = elim (cases_lt f c.frames) [
  | inl lt ↦ ap (λ frame. frame.share) (frame_at-boot c f lt)
  | inr past ↦ ap (λ frame. frame.share) (frame_at-past c f past)
]

-- these slots turn, each to its phase
abbrev pub turns_before : (ℕ → Phase) → List ℕ → List Event
turns_before of vs = map (λ v. turn_before (of v) v) vs

-- it is a turn of the slot, or of another
pub turn-is : (v w : ℕ) (p phase : Phase) → w ≡ v → p ≡ phase → is_turn v phase (turn_before p w) ≡ true
turn-is v w p phase same is = and_from (nat_eq w v) (same_phase p phase) (eq-eqb w v same) (ap (λ q. same_phase q phase) is ∙ same_phase-refl phase)

pub turn-other : (v w : ℕ) (p phase : Phase) → (w ≡ v → p ≡ phase → ⊥) → is_turn v phase (turn_before p w) ≡ false
turn-other v w p phase differs = elim (cases_eq w v) [
  | inl same ↦ and_right (nat_eq w v) (same_phase p phase) (other-phase p phase (differs same))
  | inr other ↦ and_left (nat_eq w v) (same_phase p phase) (ne_eqb w v other)
]

pub turns-other : (v : ℕ) (of : ℕ → Phase) (phase : Phase) (ws : List ℕ) → All (λ w. w ≡ v → of w ≡ phase → ⊥) ws → All (λ told. is_turn v phase told ≡ false) (turns_before of ws)
turns-other v of phase ws differ = All-map (λ told. is_turn v phase told ≡ false) (λ w. turn_before (of w) w) ws (λ i d lt. turn-other v _ _ phase (differ i d lt))

turns-quiet : (v : ℕ) (of : ℕ → Phase) (ws : List ℕ) → All (IsQuiet v) (turns_before of ws)
turns-quiet v of ws = All-map (IsQuiet v) (λ w. turn_before (of w) w) ws (λ i d lt. record { gain = refl; loss = refl; read = refl; write = refl })

-- if the slot is among them, they say that it turned, and nothing of what was measured
pub turns-line : (v : ℕ) (of : ℕ → Phase) (phase : Phase) (ws : List ℕ) (ys : List Event) → list_any (λ w. nat_eq w v) ws ≡ true → of v ≡ phase → line_of_turn v phase (turns_before of ws ++ ys) ≡ Some header_line
turns-line v of phase [] ys any is = cc
turns-line v of phase (w ∷ ws) ys any is = elim (cases_eq w v) [
  | inl same ↦ cond-true ((nat_eq w v) && same_phase (of w) phase) (Some header_line) _ (turn-is v w (of w) phase same (ap of same ∙ is))
  | inr other ↦ line-more v phase (turn_before (of w) w) (turns_before of ws ++ ys) (turn-other v w (of w) phase (λ same. absurd (other same))) ∙ turns-line v of phase ws ys (rw (ne_eqb w v other) at any) is
]

pub turns-measurement : (v : ℕ) (of : ℕ → Phase) (ws : List ℕ) (ys : List Event) → list_any (λ w. nat_eq w v) ws ≡ true → is_measuring v (turn_before (of v) v) ≡ true → measurement_told v (turns_before of ws ++ ys) ≡ nothing_measured
turns-measurement v of [] ys any measures = cc
turns-measurement v of (w ∷ ws) ys any measures = elim (cases_eq w v) [
  | inl same ↦ cond-true (is_measuring v (turn_before (of w) w)) nothing_measured _ (subst (λ k. is_measuring v (turn_before (of k) k) ≡ true) (sym same) measures)
  | inr other ↦
      measurement-more v (turn_before (of w) w) (turns_before of ws ++ ys) (measures-not v (turn_before (of w) w) (turn-other v w (of w) Active (λ same. absurd (other same))) (turn-other v w (of w) Dead (λ same. absurd (other same))))
      ∙ turns-measurement v of ws ys (rw (ne_eqb w v other) at any) measures
]

-- the events of the frames, and of the VMs that have been measured
abbrev pub frames_before : State → List Event
frames_before m = map event.Change (map change.Frame (frame_changes_by header_line (boot m.config) m))

abbrev pub measured_before : State → List Event
measured_before m = turns_before (λ w. (slot_at m w).phase) (slots_that is_measured m)

-- the registering of these other VMs, and the events of the frames
abbrev pub registered_before : State → List ℕ → List Event
registered_before m ws = turns_before (λ w. Booting) ws ++ frames_before m

abbrev pub told_before : State → List ℕ → List Event
told_before m ws = registered_before m ws ++ measured_before m

module _ (m : State) (calls : List Call) (is : IsLawful m) (v : ℕ) (low : v < slot_count m.config) (ws : List ℕ) where
  -- only the events of frames count
  counted : (test : Event → Bool) → ((told : Event) → IsQuiet v told → test told ≡ false) → count test (told_before m ws) ≡ count test (frames_before m)
  counted test quiet =
      let others = turns_before (λ w. Booting) ws in
      let none = count-none test others (All-weaker (IsQuiet v) (λ told. test told ≡ false) quiet others (turns-quiet v (λ w. Booting) ws)) in
      let none_measured = count-none test (measured_before m) (All-weaker (IsQuiet v) (λ told. test told ≡ false) quiet (measured_before m) (turns-quiet v (λ w. (slot_at m w).phase) (slots_that is_measured m))) in
      omega (arith, none, none_measured, count-append test (registered_before m ws) (measured_before m), count-append test others (frames_before m))

  brought : frames_gained v (told_before m ws) ≡ frames_gained v (frames_before m)
  brought =
      let others = turns_before (λ w. Booting) ws in
      let quiet = λ (told : List Event) (are : All (IsQuiet v) told). none-gained v told (All-weaker (IsQuiet v) (λ told. is_gain v told ≡ false) (λ told q. q.gain) told are) in
      filter_map-append (frame_gained v) (registered_before m ws) (measured_before m)
      ∙ ap₂ ◌++◌ (filter_map-append (frame_gained v) others (frames_before m) ∙ ap (λ (fs : List ℕ). fs ++ frames_gained v (frames_before m)) (quiet others (turns-quiet v (λ w. Booting) ws))) (quiet (measured_before m) (turns-quiet v (λ w. (slot_at m w).phase) (slots_that is_measured m)))
      ∙ append-nil (frames_gained v (frames_before m))

  -- a VM gains each frame that it has
  gains-owned : (f : ℕ) → gained (boot m.config) m v f ≡ has m v f
  gains-owned f = ap (λ b. not b && has m v f) (owned-boot m.config v f)

  loses-none : (f : ℕ) → lost (boot m.config) m v f ≡ false
  loses-none f = ap (λ b. b && not (has m v f)) (owned-boot m.config v f)

  pub brings-before : Brings m calls v 0 (told_before m ws)
  brings-before =
      let changes = frame_changes_by header_line (boot m.config) m in
      record {
        gains =
            counted (is_gain v) (λ told q. q.gain) ∙ frames-gain v header_line (boot m.config) m
            ∙ count-same (gained (boot m.config) m v) (has m v) (all_frames m) (λ i d lt. gains-owned _) ∙ sym (owned-count m v is low);
        losses =
            counted (is_loss v) (λ told q. q.loss) ∙ frames-lose v header_line (boot m.config) m
            ∙ count-none (lost (boot m.config) m v) (all_frames m) (λ i d lt. loses-none _);
        reads = counted (is_read v) (λ told q. q.read) ∙ count-none (is_read v) (frames_before m) (frames-all (λ told. is_read v told ≡ false) (λ told. refl) changes);
        writes = counted (is_write v) (λ told q. q.write) ∙ count-none (is_write v) (frames_before m) (frames-all (λ told. is_write v told ≡ false) (λ told. refl) changes);
        frames = λ f lt. ap (λ (fs : List ℕ). is_in fs f) brought ∙ frames-bring v header_line (boot m.config) m f lt ∙ gains-owned f;
        within = subst (λ (fs : List ℕ). All (λ f. f < m.config.frames) fs) (sym brought) (frames-within v header_line (boot m.config) m);
      }
