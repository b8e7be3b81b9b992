-- The turns of a slot, and the measurement, that are reported of a VM that is there before the first call: what its state says
-- on the header's line, and then what calls do.
use Rattle.std.proofs.Common.{ℕ, ◌≡◌, ◌<◌, inl, inr, Bool, true, false, not, ◌&&◌, nat_eq, List, [], ◌++◌, All, Option, Some, None, refl, sym, ap, ap₂, subst, ◌∙◌, arith, append_assoc}
use Rattle.std.specs.List.{list_any, range_with_len}
use Rattle.std.proofs.lemmas.Bool.{eq-eqb, ne_eqb, and_from, and_parts, cond-true, cond-false, true≢false}
use Rattle.std.proofs.lemmas.List.Elements.{All-append, All-weaker, filter_passes}
use Rattle.kc_types.specs.Configuration.{slot_count}
use Rattle.kc_types.specs.declared.slot.Phase.{Phase}
use Rattle.kc_types.specs.declared.slot.Phase.TheVariants.{Empty, Booting, Active, Dead}
use Rattle.kc_types.specs.declared.call.Call.{Call}
use Rattle.kc_types.specs.declared.custody.Event.{Event}
use Rattle.kc_model.specs.State.{State, slot_at}
use Rattle.kc_model.specs.Boot.{boot}
use Rattle.kc_model.specs.Lawful.{IsLawful}
use Rattle.kc_model.specs.Custody.{same_phase, frame_changes_by, nothing_measured}
use Rattle.kc_model.specs.Lives.{is_turn, is_measuring, line_of_turn, measurement_told}
use Rattle.kc_model.specs.Before.{header_line, is_taken, is_measured, turn_before, slots_that}
use Rattle.kc_model.specs.Summaries.{last_place, place_after, phase_at, measured_on, measured_since, either_measured, IsFirstIn}
use Rattle.kc_model.proofs.Custody.Told.{among-range}
use Rattle.kc_model.proofs.Summaries.Called.{frames-all}
use Rattle.kc_model.proofs.Summaries.Lived.{IsInLife, line-through, measurement-through, measure-not}
use Rattle.kc_model.proofs.Summaries.Lives.{IsLife}
use Rattle.kc_model.proofs.Summaries.Images.{IsMeasuredOnce}
use Rattle.kc_model.proofs.Summaries.Brought.{AreTurns}
use Rattle.kc_model.proofs.Summaries.Before.{turns_before, frames_before, measured_before, registered_before, told_before, turn-is, turn-other, turns-other, turns-line, turns-measurement}

-- a phase in which a slot has been measured
abbrev is_settled : Phase → Bool
is_settled phase = not (same_phase phase Empty) && not (same_phase phase Booting)

-- a VM that has been measured is not booting
pub measured-unregistered : (m : State) → All (λ w. same_phase (slot_at m w).phase Booting ≡ false) (slots_that is_measured m)
measured-unregistered m =
    All-weaker (λ w. is_measured m w ≡ true) (λ w. same_phase (slot_at m w).phase Booting ≡ false)
    (λ w measured. not-true (same_phase (slot_at m w).phase Booting) (and_parts (is_taken m w) (not (same_phase (slot_at m w).phase Booting)) measured).1)
    (slots_that is_measured m) (filter_passes (is_measured m) (range_with_len 0 (slot_count m.config)))
  where
    not-true : (b : Bool) → not b ≡ true → b ≡ false
    not-true true is = cc
    not-true false is = refl

module _ (m : State) (v : ℕ) (low : v < slot_count m.config) (ws : List ℕ) (others : All (λ w. w ≡ v → ⊥) ws) where
  abbrev phase_of : ℕ → Phase
  phase_of w = (slot_at m w).phase

  -- neither other VMs nor frames turn the slot
  others-none : (phase : Phase) → All (λ told. is_turn v phase told ≡ false) (turns_before (λ w. Booting) ws)
  others-none phase = turns-other v (λ w. Booting) phase ws (λ i d lt same so. others i d lt same)

  frames-none : (phase : Phase) → All (λ told. is_turn v phase told ≡ false) (frames_before m)
  frames-none phase = frames-all (λ told. is_turn v phase told ≡ false) (λ told. refl) (frame_changes_by header_line (boot m.config) m)

  registered-none : (phase : Phase) → All (λ told. is_turn v phase told ≡ false) (registered_before m ws)
  registered-none phase = All-append (λ told. is_turn v phase told ≡ false) (turns_before (λ w. Booting) ws) (frames_before m) (others-none phase) (frames-none phase)

  -- nor is it told of a phase in which it is not, or that it is booting
  measured-none : (phase : Phase) → (phase_of v ≡ phase → ⊥) → All (λ told. is_turn v phase told ≡ false) (measured_before m)
  measured-none phase differs = turns-other v phase_of phase (slots_that is_measured m) (λ i d lt same so. differs (subst (λ k. phase_of k ≡ phase) same so))

  booting-none : All (λ told. is_turn v Booting told ≡ false) (measured_before m)
  booting-none = turns-other v phase_of Booting (slots_that is_measured m) (λ i d lt same so. true≢false (sym (ap (λ p. same_phase p Booting) so) ∙ measured-unregistered m i d lt))

  told-none : (phase : Phase) → (phase_of v ≡ phase → ⊥) → All (λ told. is_turn v phase told ≡ false) (told_before m ws)
  told-none phase differs = All-append (λ told. is_turn v phase told ≡ false) (registered_before m ws) (measured_before m) (registered-none phase) (measured-none phase differs)

  -- so all events of the state belong to the life of the VM
  pub others-in-life : All (IsInLife v) (turns_before (λ w. Booting) ws)
  others-in-life i d lt = record { unregistered = others-none Booting i d lt; kept = others-none Empty i d lt }

  pub measured-in-life : (phase_of v ≡ Empty → ⊥) → All (IsInLife v) (measured_before m)
  measured-in-life some i d lt = record { unregistered = booting-none i d lt; kept = measured-none Empty some i d lt }

  pub before-in-life : (phase_of v ≡ Empty → ⊥) → All (IsInLife v) (told_before m ws)
  before-in-life some =
      All-append (IsInLife v) (registered_before m ws) (measured_before m) (λ i d lt. record { unregistered = registered-none Booting i d lt; kept = registered-none Empty i d lt })
      (measured-in-life some)

  -- a slot that has been measured is among those reported as measured
  among : (phase : Phase) → is_settled phase ≡ true → phase_of v ≡ phase → list_any (λ w. nat_eq w v) (slots_that is_measured m) ≡ true
  among phase settled so =
      among-range (λ w. nat_eq w v) (is_measured m) 0 (slot_count m.config) v (λ w differs. ne_eqb w v differs) (omega arith) (omega (arith, low))
      ∙ and_from (is_measured m v) (nat_eq v v) (ap is_settled so ∙ settled) (eq-eqb v v refl)

  line-before : (phase : Phase) (rest : List Event) → is_settled phase ≡ true → phase_of v ≡ phase → line_of_turn v phase (told_before m ws ++ rest) ≡ Some header_line
  line-before phase rest settled so =
      ap (line_of_turn v phase) (append_assoc (registered_before m ws) (measured_before m) rest)
      ∙ line-through v phase (registered_before m ws) (measured_before m ++ rest) (registered-none phase)
      ∙ turns-line v phase_of phase (slots_that is_measured m) rest (among phase settled so) so

  measurement-before : (phase : Phase) (rest : List Event) → is_settled phase ≡ true → phase_of v ≡ phase → is_measuring v (turn_before (phase_of v) v) ≡ true → measurement_told v (told_before m ws ++ rest) ≡ nothing_measured
  measurement-before phase rest settled so measures =
      ap (measurement_told v) (append_assoc (registered_before m ws) (measured_before m) rest)
      ∙ measurement-through v (registered_before m ws) (measured_before m ++ rest) (measure-not v (registered_before m ws) (registered-none Active) (registered-none Dead))
      ∙ turns-measurement v phase_of (slots_that is_measured m) rest (among phase settled so) measures

  -- or else later events say when it turns
  line-after : (phase : Phase) (rest : List Event) → (phase_of v ≡ phase → ⊥) → line_of_turn v phase (told_before m ws ++ rest) ≡ line_of_turn v phase rest
  line-after phase rest differs = line-through v phase (told_before m ws) rest (told-none phase differs)

  measurement-after : (rest : List Event) → (phase_of v ≡ Active → ⊥) → (phase_of v ≡ Dead → ⊥) → measurement_told v (told_before m ws ++ rest) ≡ measurement_told v rest
  measurement-after rest active dead = measurement-through v (told_before m ws) rest (measure-not v (told_before m ws) (told-none Active active) (told-none Dead dead))

module _ (m : State) (calls : List Call) (is : IsLawful m) (v : ℕ) (low : v < slot_count m.config) (ws : List ℕ) (others : All (λ w. w ≡ v → ⊥) ws) where
  abbrev starts_in : Phase → Type 0
  starts_in phase = (slot_at m v).phase ≡ phase

  -- the turns and the measurement of a life that is under way, by what its calls tell
  pub record IsSettled (end : Option ℕ) (rest : List Event) : Type 0 where
    pub turns : AreTurns m calls v 0 end (told_before m ws ++ rest)
    pub measurement : measurement_told v (told_before m ws ++ rest) ≡ either_measured (measured_since m calls v (line_of_turn v Active (told_before m ws ++ rest))) (measured_since m calls v (line_of_turn v Dead (told_before m ws ++ rest)))

  -- a turn by a call is not on the header's line
  since-is : (phase : Phase) (j : ℕ) (line : Option ℕ) → (starts_in phase → ⊥) → IsFirstIn m calls v phase 0 j line → measured_since m calls v line ≡ measured_on m calls v line
  since-is phase j None differs first = refl
  since-is phase j (Some line) differs first =
      cond-false (nat_eq line header_line) nothing_measured (measured_on m calls v (Some line)) (ne_eqb line header_line (λ same. differs (subst (λ n. phase_at m calls v (place_after n) ≡ phase) same first.2)))

  module _ (some : starts_in Empty → ⊥) (end : Option ℕ) (rest : List Event) (life : IsLife m calls is v low 0 rest end) (measured : IsMeasuredOnce m calls is v low 0 rest) where
    abbrev all : List Event
    all = told_before m ws ++ rest

    -- the slot is in the phase before the first call, or turns to it later
    first-before : (phase : Phase) → is_settled phase ≡ true → starts_in phase → IsFirstIn m calls v phase 0 (last_place calls end) (line_of_turn v phase all)
    first-before phase settled so =
        subst (λ line. IsFirstIn m calls v phase 0 (last_place calls end) line) (sym (line-before m v low ws others phase rest settled so))
        (omega arith, omega arith, so, λ k from below. absurd (omega (arith, below)))

    first-after : (phase : Phase) → (phase ≡ Empty → ⊥) → (starts_in phase → ⊥) → IsFirstIn m calls v phase 0 (last_place calls end) (line_of_turn v phase all)
    first-after phase full differs =
        subst (λ line. IsFirstIn m calls v phase 0 (last_place calls end) line) (sym (line-after m v low ws others phase rest differs)) (life.turned phase full differs)

    since-after : (phase : Phase) → (phase ≡ Empty → ⊥) → (starts_in phase → ⊥) → measured_since m calls v (line_of_turn v phase all) ≡ measured_on m calls v (line_of_turn v phase rest)
    since-after phase full differs =
        since-is phase (last_place calls end) (line_of_turn v phase all) differs (first-after phase full differs) ∙ ap (measured_on m calls v) (line-after m v low ws others phase rest differs)

    settled-in : (phase : Phase) → starts_in phase → IsSettled end rest
    settled-in Empty so = absurd (some so)
    settled-in Booting so =
        let inactive : starts_in Active → ⊥ = λ e. (let h = sym so ∙ e in cc) in
        let alive : starts_in Dead → ⊥ = λ e. (let h = sym so ∙ e in cc) in
        record {
          turns = record {
            cleared = line-after m v low ws others Empty rest some ∙ life.ended;
            active = first-after Active (λ e. cc) inactive;
            dead = first-after Dead (λ e. cc) alive;
            once = elim measured.once [
              | inl none ↦ inl (line-after m v low ws others Active rest inactive ∙ none)
              | inr none ↦ inr (line-after m v low ws others Dead rest alive ∙ none)
            ];
          };
          measurement = measurement-after m v low ws others rest inactive alive ∙ measured.measurement ∙ sym (ap₂ either_measured (since-after Active (λ e. cc) inactive) (since-after Dead (λ e. cc) alive));
        }
    settled-in Active so =
        let alive : starts_in Dead → ⊥ = λ e. (let h = sym so ∙ e in cc) in
        let active = line-before m v low ws others Active rest refl so in
        let dead = line-after m v low ws others Dead rest alive ∙ (measured.settled (λ booting. let h = sym so ∙ booting in cc)).1 in
        let told = turn_before (slot_at m v).phase v in
        record {
          turns = record {
            cleared = line-after m v low ws others Empty rest some ∙ life.ended;
            active = first-before Active refl so;
            dead = first-after Dead (λ e. cc) alive;
            once = inr dead;
          };
          measurement =
              measurement-before m v low ws others Active rest refl so (cond-true (is_turn v Active told) true _ (turn-is v v (slot_at m v).phase Active refl so))
              ∙ sym (ap₂ (λ a d. either_measured (measured_since m calls v a) (measured_since m calls v d)) active dead);
        }
    settled-in Dead so =
        let inactive : starts_in Active → ⊥ = λ e. (let h = sym so ∙ e in cc) in
        let active = line-after m v low ws others Active rest inactive ∙ (measured.settled (λ booting. let h = sym so ∙ booting in cc)).0 in
        let dead = line-before m v low ws others Dead rest refl so in
        let told = turn_before (slot_at m v).phase v in
        record {
          turns = record {
            cleared = line-after m v low ws others Empty rest some ∙ life.ended;
            active = first-after Active (λ e. cc) inactive;
            dead = first-before Dead refl so;
            once = inl active;
          };
          measurement =
              measurement-before m v low ws others Dead rest refl so
              (cond-false (is_turn v Active told) true _ (turn-other v v (slot_at m v).phase Active (λ same. inactive)) ∙ turn-is v v (slot_at m v).phase Dead refl so)
              ∙ sym (ap₂ (λ a d. either_measured (measured_since m calls v a) (measured_since m calls v d)) active dead);
        }

    pub settled-before : IsSettled end rest
    settled-before = settled-in (slot_at m v).phase refl
