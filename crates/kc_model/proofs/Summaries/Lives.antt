-- The events of a life, from any of its states on: what they count, where it ends, and which turns of its slot they
-- report.
use Rattle.std.proofs.Common.{ℕ, zero, suc, ◌≡◌, ◌<◌, ◌≤◌, ◌+◌, ◌-◌, inl, inr, true, false, not, List, [], ◌++◌, map, length, All, Option, Some, None, refl, sym, ap, subst, ◌∙◌, arith, append_assoc, append-nil}
use Rattle.std.specs.List.{range_with_len}
use Rattle.std.proofs.lemmas.Bool.{cases_lt, cases_Bool, true≢false}
use Rattle.std.proofs.lemmas.List.Elements.{All-append, All-weaker, filter_passes}
use Rattle.kc_types.specs.Configuration.{slot_count}
use Rattle.kc_types.specs.declared.call.Call.{Call}
use Rattle.kc_types.specs.declared.slot.Phase.{Phase}
use Rattle.kc_types.specs.declared.slot.Phase.TheVariants.{Empty, Booting}
use Rattle.kc_types.specs.declared.custody.Event.{Event}
use Rattle.kc_model.specs.State.{State, slot_at}
use Rattle.kc_model.specs.Lawful.{IsLawful}
use Rattle.kc_model.specs.Next.{next}
use Rattle.kc_model.specs.Footprints.{state_at, call_at}
use Rattle.kc_model.specs.Custody.{has_turned, same_phase, first_line}
use Rattle.kc_model.specs.Events.{events_by}
use Rattle.kc_model.specs.Lives.{is_turn, life_in, line_of_turn}
use Rattle.kc_model.specs.Summaries.{last_place, phase_at, IsFirstIn}
use Rattle.kc_model.proofs.Lawful.LawfulTraces.{lawful-at}
use Rattle.kc_model.proofs.Footprints.Reaches.{config-at}
use Rattle.kc_model.proofs.Custody.Same.{not-turned, same_phase-refl}
use Rattle.kc_model.proofs.Custody.Told.{turned}
use Rattle.kc_model.proofs.Summaries.Turns.{stays, registers, activates, rejects, clears, turns}
use Rattle.kc_model.proofs.Summaries.Called.{slot_event, front, rear, front-all, events-parted, call-tells}
use Rattle.kc_model.proofs.Summaries.Lived.{IsInLife, IsEnd, phase-is, other-phase, life-through, line-through, line-here, turns-not, slots-quiet, slots-in-life, others-turn-not, others-parts, is-turned, life-ends}
use Rattle.kc_model.proofs.Summaries.Stretches.{Tells, tells-none, tells-more, tells-quiet}

-- a phase is the same as itself
pub differs-itself : (p : Phase) → same_phase p p ≡ false → ⊥
differs-itself p not = let same = same_phase-refl p in true≢false (sym same ∙ not)

-- a slot whose phases differ has turned
pub has-turned : (old new : State) (v : ℕ) → ((slot_at old v).phase ≡ (slot_at new v).phase → ⊥) → has_turned old new v ≡ true
has-turned old new v differs = ap not (other-phase (slot_at old v).phase (slot_at new v).phase differs)

-- no call registers a slot that is not empty
never-registered : (v : ℕ) (m : State) (call : Call) → IsLawful m → ((slot_at m v).phase ≡ Empty → ⊥) → has_turned m (next m call).1 v ≡ true → (slot_at (next m call).1 v).phase ≡ Booting → ⊥
never-registered v m call is some turned booting = elim (turns v m call is) [
  | stays same ↦ let still = not-turned m (next m call).1 v same in absurd cc
  | registers by empty after none ↦ some empty
  | activates before after ↦ let h = sym booting ∙ after in absurd cc
  | rejects before after ↦ let h = sym booting ∙ after in absurd cc
  | clears by after ↦ let h = sym booting ∙ after in absurd cc
]

module _ (m : State) (calls : List Call) where
  -- the events of this many calls from a place on
  abbrev pub told : ℕ → ℕ → List Event
  told zero k = []
  told (suc d) k = events_by (first_line + k) (state_at m calls k) (call_at calls k) ++ told d (suc k)

module _ (m : State) (calls : List Call) (is : IsLawful m) (v : ℕ) (low : v < slot_count m.config) where
  abbrev Differs : Phase → ℕ → Type 0
  Differs phase k = phase_at m calls v k ≡ phase → ⊥

  -- what the events of a life say from a place on, if it is cleared on this line
  pub record IsLife (k : ℕ) (told : List Event) (line : Option ℕ) : Type 0 where
    pub ended : line_of_turn v Empty told ≡ line
    pub tells : Tells m calls v k (last_place calls line) told
    pub cleared : IsFirstIn m calls v Empty k (length calls) line
    pub turned : (phase : Phase) → (phase ≡ Empty → ⊥) → Differs phase k → IsFirstIn m calls v phase k (last_place calls line) (line_of_turn v phase told)

  -- if it is not so at a place, it is first so from the next place on
  first-later : (phase : Phase) (k j : ℕ) (line : Option ℕ) → Differs phase k → IsFirstIn m calls v phase (suc k) j line → IsFirstIn m calls v phase k j line
  first-later phase k j None differs first = λ n from to. elim (cases_lt k n) [
    | inl lt ↦ first n lt to
    | inr here ↦ let same : n ≡ k = omega (arith, from, here) in subst (λ i. Differs phase i) (sym same) differs
  ]
  first-later phase k j (Some line) differs first =
      let begins = first.0 in (
        omega (arith, begins),
        first.1,
        first.2,
        λ n from below. elim (cases_lt k n) [
          | inl lt ↦ first.3 n lt below
          | inr here ↦ let same : n ≡ k = omega (arith, from, here) in subst (λ i. Differs phase i) (sym same) differs
        ],
      )

  -- or the slot is in the phase after the call at the place
  first-here : (phase : Phase) (k j : ℕ) → suc k ≤ j → Differs phase k → phase_at m calls v (suc k) ≡ phase → IsFirstIn m calls v phase k j (Some (first_line + k))
  first-here phase k j lt differs so =
      let here : suc k ≡ (first_line + k) - 1 = omega arith in (
        omega arith,
        omega (arith, lt),
        subst (λ i. phase_at m calls v i ≡ phase) here so,
        λ n from below. let same : n ≡ k = omega (arith, from, below) in subst (λ i. Differs phase i) (sym same) differs,
      )

  -- one call of a life, and the events after it
  module _ (k : ℕ) (within : k < length calls) (some : Differs Empty k) (more : List Event) where
    abbrev old : State
    old = state_at m calls k

    abbrev new : State
    new = state_at m calls (suc k)

    abbrev call : Call
    call = call_at calls k

    abbrev line : ℕ
    line = first_line + k

    pub lawful : IsLawful old
    lawful = lawful-at m calls is k (omega (arith, within))

    pub exists : v < slot_count old.config
    exists = rw (config-at m calls k) low

    front-in-life : All (IsInLife v) (front line old call)
    front-in-life = front-all (IsInLife v) (λ w. record { unregistered = refl; kept = refl }) (λ w. record { unregistered = refl; kept = refl }) (λ told. record { unregistered = refl; kept = refl }) line old call

    pub front-turns : (phase : Phase) → All (λ told. is_turn v phase told ≡ false) (front line old call)
    front-turns phase = front-all (λ told. is_turn v phase told ≡ false) (λ w. refl) (λ w. refl) (λ told. refl) line old call

    -- what the slot does if it is among those that turned
    pub turned-not : (phase : Phase) → (has_turned old new v ≡ true → (slot_at new v).phase ≡ phase → ⊥) → All (λ w. w ≡ v → (slot_at new v).phase ≡ phase → ⊥) (turned old new)
    turned-not phase never =
        All-weaker (λ w. has_turned old new w ≡ true) (λ w. w ≡ v → (slot_at new v).phase ≡ phase → ⊥) (λ w turns same so. never (subst (λ x. has_turned old new x ≡ true) same turns) so)
        (turned old new) (filter_passes (has_turned old new) (range_with_len 0 (slot_count old.config)))

    -- the slot turns to the phase, or not
    pub turn-told : (phase : Phase) (rest : List Event) → ((slot_at old v).phase ≡ phase → ⊥) → (slot_at new v).phase ≡ phase → line_of_turn v phase ((front line old call ++ rear line old call) ++ rest) ≡ Some line
    turn-told phase rest differs so =
        let among = is-turned old new v exists (has-turned old new v (λ still. differs (still ∙ so))) in
        ap (line_of_turn v phase) (append_assoc (front line old call) (rear line old call) rest)
        ∙ line-through v phase (front line old call) (rear line old call ++ rest) (front-turns phase) ∙ line-here v line old new phase (turned old new) rest among so

    pub turn-untold : (phase : Phase) (rest : List Event) → (has_turned old new v ≡ true → (slot_at new v).phase ≡ phase → ⊥) → line_of_turn v phase ((front line old call ++ rear line old call) ++ rest) ≡ line_of_turn v phase rest
    turn-untold phase rest never =
        line-through v phase (front line old call ++ rear line old call) rest
        (All-append (λ told. is_turn v phase told ≡ false) (front line old call) (rear line old call) (front-turns phase) (turns-not v line old new phase (turned old new) (turned-not phase never)))

    -- the events of the life, if the call empties the slot, and if it does not
    abbrev last : List Event
    last = life_in v (rear line old call ++ more)

    pub closed-parts : life_in v ((front line old call ++ rear line old call) ++ more) ≡ front line old call ++ last
    closed-parts = ap (λ told. life_in v told) (append_assoc (front line old call) (rear line old call) more) ∙ life-through v (front line old call) (rear line old call ++ more) front-in-life

    pub closed-end : (slot_at new v).phase ≡ Empty → IsEnd v line last
    closed-end empty = life-ends v line old new (turned old new) more (is-turned old new v exists (has-turned old new v (λ same. some (same ∙ empty)))) empty

    pub slots-within : Differs Empty (suc k) → All (IsInLife v) (rear line old call)
    slots-within full = slots-in-life v line old new (turned old new) (turned-not Booting (never-registered v old call lawful some)) (turned-not Empty (λ turns empty. full empty))

    pub continued-parts : Differs Empty (suc k) → life_in v ((front line old call ++ rear line old call) ++ more) ≡ (front line old call ++ rear line old call) ++ life_in v more
    continued-parts full =
        life-through v (front line old call ++ rear line old call) more (All-append (IsInLife v) (front line old call) (rear line old call) front-in-life (slots-within full))

    -- so the call empties the slot
    pub life-closed : (slot_at new v).phase ≡ Empty → IsLife k (life_in v ((front line old call ++ rear line old call) ++ more)) (Some line)
    life-closed empty =
        let first = front line old call in
        let ending = closed-end empty in
        let here : suc k ≡ (first_line + k) - 1 = omega arith in
        let tells : Tells m calls v k (suc k) ((first ++ last) ++ []) = tells-more m calls v k (suc k) (first ++ last) [] (call-tells v line old call last lawful exists ending.quiet) (tells-none m calls v (suc k)) in
        rw closed-parts (record {
          ended = line-through v Empty first last (front-turns Empty) ∙ ending.ended;
          tells = subst (λ j. Tells m calls v k j (first ++ last)) here (subst (λ told. Tells m calls v k (suc k) told) (append-nil (first ++ last)) tells);
          cleared = first-here Empty k (length calls) within some empty;
          turned = λ phase full differs. subst (λ line. IsFirstIn m calls v phase k ((first_line + k) - 1) line) (sym (line-through v phase first last (front-turns phase) ∙ ending.unturned phase full))
              (λ n from to. elim (cases_lt k n) [
                | inl lt ↦ let same : n ≡ suc k = omega (arith, lt, to) in λ so. full (sym so ∙ ap (phase_at m calls v) same ∙ empty)
                | inr le ↦ let same : n ≡ k = omega (arith, from, le) in subst (λ i. Differs phase i) (sym same) differs
              ]);
        })

    -- or the life goes on after it
    pub life-continued : (end : Option ℕ) → Differs Empty (suc k) → IsLife (suc k) (life_in v more) end → IsLife k (life_in v ((front line old call ++ rear line old call) ++ more)) end
    life-continued end full later =
        let slots = rear line old call in
        let rest = life_in v more in
        let j = last_place calls end in
        rw (continued-parts full) (record {
          ended = turn-untold Empty rest (λ turns empty. full empty) ∙ later.ended;
          tells = tells-more m calls v k j (front line old call ++ slots) rest (call-tells v line old call slots lawful exists (slots-quiet v line old new (turned old new))) later.tells;
          cleared = first-later Empty k (length calls) end some later.cleared;
          turned = λ phase other differs. elim (cases_Bool (same_phase (slot_at new v).phase phase)) [
            | inl same ↦
                let so = phase-is (slot_at new v).phase phase same in
                subst (λ line. IsFirstIn m calls v phase k j line) (sym (turn-told phase rest differs so)) (first-here phase k j later.tells.begins differs so)
            | inr not ↦
                let never : Differs phase (suc k) = λ so. (let same = ap (λ p. same_phase p phase) so in differs-itself phase (sym same ∙ not)) in
                subst (λ line. IsFirstIn m calls v phase k j line) (sym (turn-untold phase rest (λ turns so. never so))) (first-later phase k j (line_of_turn v phase rest) differs (later.turned phase other never))
          ];
        })

  -- so from each place on at which the slot is not empty, if the trace ends after this many calls
  pub life-from : (d k : ℕ) → k + d ≡ length calls → Differs Empty k → (line : Option ℕ) × IsLife k (life_in v (told m calls d k)) line
  life-from zero k whole some =
      let last : k ≡ length calls = omega (arith, whole) in (
        None,
        record {
          ended = refl;
          tells = subst (λ j. Tells m calls v k j []) last (tells-none m calls v k);
          cleared = λ n from to. let same : n ≡ k = omega (arith, from, to, last) in subst (λ i. Differs Empty i) (sym same) some;
          turned = λ phase full differs n from to. let same : n ≡ k = omega (arith, from, to, last) in subst (λ i. Differs phase i) (sym same) differs;
        },
      )
  life-from (suc d) k whole some =
      let within : k < length calls = omega (arith, whole) in
      let more = told m calls d (suc k) in
      let parted : (line : Option ℕ) × IsLife k (life_in v ((front (first_line + k) (state_at m calls k) (call_at calls k) ++ rear (first_line + k) (state_at m calls k) (call_at calls k)) ++ more)) line =
      elim (cases_Bool (same_phase (phase_at m calls v (suc k)) Empty)) [
        | inl same ↦ (Some (first_line + k), life-closed k within some more (phase-is (phase_at m calls v (suc k)) Empty same))
        | inr not ↦
            let full : Differs Empty (suc k) = λ empty. (let same = ap (λ p. same_phase p Empty) empty in differs-itself Empty (sym same ∙ not)) in
            let later = life-from d (suc k) (omega (arith, whole)) full in
            (later.0, life-continued k within some more later.0 full later.1)
      ] in
      (parted.0, subst (λ events. IsLife k (life_in v (events ++ more)) parted.0) (sym (events-parted (first_line + k) (state_at m calls k) (call_at calls k))) parted.1)

  -- events of other slots before them change nothing
  pub life-beside : (n k : ℕ) (old new : State) (ws : List ℕ) (more : List Event) (line : Option ℕ) → All (λ w. w ≡ v → ⊥) ws → IsLife k (life_in v more) line → IsLife k (life_in v (map (slot_event n old new) ws ++ more)) line
  life-beside n k old new ws more line others life =
      let slots = map (slot_event n old new) ws in
      let rest = life_in v more in
      let skipped : (phase : Phase) → line_of_turn v phase (slots ++ rest) ≡ line_of_turn v phase rest = λ phase. line-through v phase slots rest (others-turn-not v n old new ws others phase) in
      rw (others-parts v n old new ws more others) (record {
        ended = skipped Empty ∙ life.ended;
        tells = tells-quiet m calls v k (last_place calls line) slots rest (slots-quiet v n old new ws) life.tells;
        cleared = life.cleared;
        turned = λ phase full differs. subst (λ told. IsFirstIn m calls v phase k (last_place calls line) told) (sym (skipped phase)) (life.turned phase full differs);
      })
