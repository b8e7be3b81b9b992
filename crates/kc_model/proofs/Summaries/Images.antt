-- The measurement of a life is that of its slot by the call that measured it, at most once.
use Rattle.std.proofs.Common.{ℕ, zero, suc, ◌≡◌, ◌<◌, ◌+◌, ◌-◌, ◌⊎◌, inl, inr, true, false, List, [], ◌++◌, map, length, All, Option, Some, None, refl, sym, ap, ap₂, subst, ◌∙◌, arith, append_assoc, append-nil}
use Rattle.std.proofs.lemmas.Bool.{cases_Bool, cond-true}
use Rattle.std.proofs.lemmas.List.Elements.{All-append}
use Rattle.kc_types.specs.Configuration.{slot_count}
use Rattle.kc_types.specs.declared.call.Call.{Call}
use Rattle.kc_types.specs.declared.slot.Phase.{Phase}
use Rattle.kc_types.specs.declared.slot.Phase.TheVariants.{Empty, Booting, Active, Dead}
use Rattle.kc_types.specs.declared.custody.Event.{Event}
use Rattle.kc_types.specs.declared.custody.Measurement.{Measurement}
use Rattle.std.specs.Option.{option_or}
use Rattle.kc_model.specs.State.{State, slot_at}
use Rattle.kc_model.specs.Lawful.{IsLawful}
use Rattle.kc_model.specs.Footprints.{state_at, call_at}
use Rattle.kc_model.specs.Custody.{has_turned, same_phase, measurement_for, measurement, nothing_measured, first_line}
use Rattle.kc_model.specs.Lives.{is_turn, is_measuring, life_in, line_of_turn, measurement_told}
use Rattle.kc_model.specs.Summaries.{phase_at, measured_on, either_measured}
use Rattle.kc_model.proofs.Custody.Same.{not-turned}
use Rattle.kc_model.proofs.Custody.Told.{turned}
use Rattle.kc_model.proofs.Summaries.Turns.{stays, registers, activates, rejects, clears, turns}
use Rattle.kc_model.proofs.Summaries.Called.{slot_event, front, rear, events-parted}
use Rattle.kc_model.proofs.Summaries.Lived.{phase-is, line-through, turns-not, measurement-through, measure-not, measurement-here, is-turned, others-turn-not, others-parts}
use Rattle.kc_model.proofs.Summaries.Lives.{told, has-turned, differs-itself, lawful, exists, front-turns, turned-not, turn-told, turn-untold, closed-parts, closed-end, continued-parts}

-- what is measured once is what either of two calls measures
measured-alone : (measured : Measurement) → either_measured measured nothing_measured ≡ measured
measured-alone measured = λ i. record { images = append-nil measured.images i; launch = or-none measured.launch i }
  where
    or-none : (launch : Option (List ℕ)) → option_or launch None ≡ launch
    or-none None = refl
    or-none (Some digest) = refl

module _ (m : State) (calls : List Call) (is : IsLawful m) (v : ℕ) (low : v < slot_count m.config) where
  abbrev Once : List Event → Type 0
  Once told = (line_of_turn v Active told ≡ None) ⊎ (line_of_turn v Dead told ≡ None)

  abbrev IsMeasurement : List Event → Type 0
  IsMeasurement told = measurement_told v told ≡ either_measured (measured_on m calls v (line_of_turn v Active told)) (measured_on m calls v (line_of_turn v Dead told))

  -- what the events of a life say, from a place on, of what is measured: at most once, while it boots
  pub record IsMeasuredOnce (k : ℕ) (told : List Event) : Type 0 where
    pub once : Once told
    pub measurement : IsMeasurement told
    pub settled : (phase_at m calls v k ≡ Booting → ⊥) → (line_of_turn v Active told ≡ None) × (line_of_turn v Dead told ≡ None)

  -- if no line has either phase, nothing is measured
  unmeasured : (k : ℕ) (told : List Event) → line_of_turn v Active told ≡ None → line_of_turn v Dead told ≡ None → measurement_told v told ≡ nothing_measured → IsMeasuredOnce k told
  unmeasured k told active dead none = record {
    once = inl active;
    measurement = none ∙ sym (ap₂ (λ a d. either_measured (measured_on m calls v a) (measured_on m calls v d)) active dead);
    settled = λ not_booting. (active, dead);
  }

  -- all events say what the later ones say if the first ones say nothing
  passed : (i k : ℕ) (first rest : List Event) → line_of_turn v Active (first ++ rest) ≡ line_of_turn v Active rest → line_of_turn v Dead (first ++ rest) ≡ line_of_turn v Dead rest → measurement_told v (first ++ rest) ≡ measurement_told v rest
      → phase_at m calls v i ≡ phase_at m calls v k → IsMeasuredOnce i rest → IsMeasuredOnce k (first ++ rest)
  passed i k first rest active dead measurement same later = record {
    once = elim later.once [
      | inl none ↦ inl (active ∙ none)
      | inr none ↦ inr (dead ∙ none)
    ];
    measurement = measurement ∙ later.measurement ∙ sym (ap₂ (λ a d. either_measured (measured_on m calls v a) (measured_on m calls v d)) active dead);
    settled = λ not_booting. let none = later.settled (λ booting. not_booting (sym same ∙ booting)) in (active ∙ none.0, dead ∙ none.1);
  }

  module _ (k : ℕ) (within : k < length calls) (some : phase_at m calls v k ≡ Empty → ⊥) (more : List Event) where
    abbrev old : State
    old = state_at m calls k

    abbrev new : State
    new = state_at m calls (suc k)

    abbrev line : ℕ
    line = first_line + k

    abbrev first : List Event
    first = front line old (call_at calls k)

    abbrev slots : List Event
    slots = rear line old (call_at calls k)

    first-measures-not : All (λ told. is_measuring v told ≡ false) first
    first-measures-not = measure-not v first (front-turns m calls is v low k within some more Active) (front-turns m calls is v low k within some more Dead)

    closed : (slot_at new v).phase ≡ Empty → IsMeasuredOnce k (life_in v ((first ++ slots) ++ more))
    closed empty =
        let ending = closed-end m calls is v low k within some more empty in
        let last = life_in v (slots ++ more) in
        rw (closed-parts m calls is v low k within some more) (unmeasured k (first ++ last)
        (line-through v Active first last (front-turns m calls is v low k within some more Active) ∙ ending.unturned Active (λ e. cc))
        (line-through v Dead first last (front-turns m calls is v low k within some more Dead) ∙ ending.unturned Dead (λ e. cc))
        (measurement-through v first last first-measures-not ∙ ending.unmeasured))

    -- a call that measures the slot
    measured-here : (phase : Phase) (rest : List Event) → ((told : Event) → is_turn v phase told ≡ true → is_measuring v told ≡ true) → ((slot_at old v).phase ≡ phase → ⊥) → (slot_at new v).phase ≡ phase → measurement_told v ((first ++ slots) ++ rest) ≡ measurement_for phase (measurement old v)
    measured-here phase rest measures differs so =
        ap (measurement_told v) (append_assoc first slots rest) ∙ measurement-through v first (slots ++ rest) first-measures-not
        ∙ measurement-here v line old new phase (turned old new) rest (is-turned old new v (exists m calls is v low k within some more) (has-turned old new v (λ same. differs (same ∙ so)))) measures so

    on-line : measured_on m calls v (Some line) ≡ measurement old v
    on-line = let here : (first_line + k) - first_line ≡ k = omega arith in ap (λ i. measurement (state_at m calls i) v) here

    continued : ((slot_at new v).phase ≡ Empty → ⊥) → IsMeasuredOnce (suc k) (life_in v more) → IsMeasuredOnce k (life_in v ((first ++ slots) ++ more))
    continued full later =
        let rest = life_in v more in
        let all = (first ++ slots) ++ rest in
        rw (continued-parts m calls is v low k within some more full) (elim (turns v old (call_at calls k) (lawful m calls is v low k within some more)) [
          | stays same ↦
              let never : (phase : Phase) → has_turned old new v ≡ true → (slot_at new v).phase ≡ phase → ⊥ = λ phase turns so. (let still = not-turned old new v same in cc) in
              let not = λ (phase : Phase). turns-not v line old new phase (turned old new) (turned-not m calls is v low k within some more phase (never phase)) in
              passed (suc k) k (first ++ slots) rest (turn-untold m calls is v low k within some more Active rest (never Active)) (turn-untold m calls is v low k within some more Dead rest (never Dead))
              (measurement-through v (first ++ slots) rest (All-append (λ told. is_measuring v told ≡ false) first slots first-measures-not (measure-not v slots (not Active) (not Dead)))) same later
          | registers by empty after none ↦ absurd (some empty)
          | activates before after ↦
              let active = turn-told m calls is v low k within some more Active rest (λ is. let h = sym before ∙ is in cc) after in
              let dead = turn-untold m calls is v low k within some more Dead rest (λ turns so. let h = sym after ∙ so in cc) ∙ (later.settled (λ booting. let h = sym after ∙ booting in cc)).1 in
              record {
                once = inr dead;
                measurement =
                    measured-here Active rest (λ told turn. cond-true (is_turn v Active told) true _ turn) (λ is. let h = sym before ∙ is in cc) after
                    ∙ sym on-line ∙ sym (measured-alone (measured_on m calls v (Some line))) ∙ sym (ap₂ (λ a d. either_measured (measured_on m calls v a) (measured_on m calls v d)) active dead);
                settled = λ not_booting. absurd (not_booting before);
              }
          | rejects before after ↦
              let active = turn-untold m calls is v low k within some more Active rest (λ turns so. let h = sym after ∙ so in cc) ∙ (later.settled (λ booting. let h = sym after ∙ booting in cc)).0 in
              let dead = turn-told m calls is v low k within some more Dead rest (λ is. let h = sym before ∙ is in cc) after in
              record {
                once = inl active;
                measurement =
                    measured-here Dead rest (λ told turn. turned-dead told turn) (λ is. let h = sym before ∙ is in cc) after
                    ∙ sym on-line ∙ sym (ap₂ (λ a d. either_measured (measured_on m calls v a) (measured_on m calls v d)) active dead);
                settled = λ not_booting. absurd (not_booting before);
              }
          | clears by after ↦ absurd (full after)
        ])
      where
        turned-dead : (told : Event) → is_turn v Dead told ≡ true → is_measuring v told ≡ true
        turned-dead told turn = elim (cases_Bool (is_turn v Active told)) [
          | inl active ↦ rw active refl
          | inr not ↦ rw not turn
        ]

  pub measured-once : (d k : ℕ) → k + d ≡ length calls → (phase_at m calls v k ≡ Empty → ⊥) → IsMeasuredOnce k (life_in v (told m calls d k))
  measured-once zero k whole some = unmeasured k [] refl refl refl
  measured-once (suc d) k whole some =
      let within : k < length calls = omega (arith, whole) in
      let more = told m calls d (suc k) in
      subst (λ events. IsMeasuredOnce k (life_in v (events ++ more))) (sym (events-parted (first_line + k) (state_at m calls k) (call_at calls k))) (elim (cases_Bool (same_phase (phase_at m calls v (suc k)) Empty)) [
        | inl same ↦ closed k within some more (phase-is (phase_at m calls v (suc k)) Empty same)
        | inr not ↦
            let full : phase_at m calls v (suc k) ≡ Empty → ⊥ = λ empty. (let same = ap (λ p. same_phase p Empty) empty in differs-itself Empty (sym same ∙ not)) in
            continued k within some more full (measured-once d (suc k) (omega (arith, whole)) full)
      ])

  -- events of other slots before them change nothing
  pub measured-beside : (n k : ℕ) (old new : State) (ws : List ℕ) (more : List Event) → All (λ w. w ≡ v → ⊥) ws → IsMeasuredOnce k (life_in v more) → IsMeasuredOnce k (life_in v (map (slot_event n old new) ws ++ more))
  measured-beside n k old new ws more others later =
      let slots = map (slot_event n old new) ws in
      let rest = life_in v more in
      let not = others-turn-not v n old new ws others in
      rw (others-parts v n old new ws more others) (passed k k slots rest (line-through v Active slots rest (not Active)) (line-through v Dead slots rest (not Dead)) (measurement-through v slots rest (measure-not v slots (not Active) (not Dead))) refl later)
