-- Where a life ends among the events of a call, and which turns of its slot they report.
use Rattle.std.proofs.Common.{ℕ, ◌≡◌, ◌<◌, inl, inr, true, false, ◌&&◌, nat_eq, List, [], ◌∷◌, ◌++◌, map, All, Some, None, refl, sym, ap, ◌∙◌, arith}
use Rattle.std.specs.List.{list_any}
use Rattle.std.proofs.lemmas.Bool.{cases_eq, eq-eqb, ne_eqb, and_from, and_left, and_right, false_from_ne_true, cond-true, cond-false}
use Rattle.std.proofs.lemmas.List.Elements.{All-nil, All-cons, All-map, All-weaker, All-head, All-tail}
use Rattle.kc_types.specs.Configuration.{slot_count}
use Rattle.kc_types.specs.declared.slot.Phase.{Phase}
use Rattle.kc_types.specs.declared.slot.Phase.TheVariants.{Empty, Booting, Active, Dead}
use Rattle.kc_types.specs.declared.custody.Change.TheVariants as change
use Rattle.kc_types.specs.declared.custody.Event.{Event}
use Rattle.kc_types.specs.declared.custody.Event.TheVariants as event
use Rattle.kc_types.specs.declared.custody.Life.{Life}
use Rattle.kc_model.specs.State.{State, slot_at}
use Rattle.kc_model.specs.Custody.{has_turned, same_phase, phase_change, measurement_for, measurement, nothing_measured}
use Rattle.kc_model.specs.Lives.{is_turn, life_in, line_of_turn, is_measuring, measurement_told, life_from, lives}
use Rattle.kc_model.proofs.Custody.Same.{same_phase-refl}
use Rattle.kc_model.proofs.Custody.Told.{turned, among-range}
use Rattle.kc_model.proofs.Summaries.Called.{slot_event, IsQuiet, slot-quiet}

-- phases are the same if the test says so
pub phase-is : (p q : Phase) → same_phase p q ≡ true → p ≡ q
phase-is Empty Empty e = refl
phase-is Booting Booting e = refl
phase-is Active Active e = refl
phase-is Dead Dead e = refl
phase-is _ _ e = cc

pub other-phase : (p q : Phase) → (p ≡ q → ⊥) → same_phase p q ≡ false
other-phase p q differs = false_from_ne_true (same_phase p q) (λ same. differs (phase-is p q same))

-- an event that does not turn the slot to a phase that ends a life's events
pub record IsInLife (v : ℕ) (told : Event) : Type 0 where
  pub unregistered : is_turn v Booting told ≡ false
  pub kept : is_turn v Empty told ≡ false

life-more : (v : ℕ) (told : Event) (more : List Event) → IsInLife v told → life_in v (told ∷ more) ≡ told ∷ life_in v more
life-more v told more is = cond-false (is_turn v Booting told) [] _ is.unregistered ∙ cond-false (is_turn v Empty told) (told ∷ []) _ is.kept

life-end : (v : ℕ) (told : Event) (more : List Event) → is_turn v Booting told ≡ false → is_turn v Empty told ≡ true → life_in v (told ∷ more) ≡ told ∷ []
life-end v told more unregistered ends = cond-false (is_turn v Booting told) [] _ unregistered ∙ cond-true (is_turn v Empty told) (told ∷ []) _ ends

-- such events belong to the life
pub life-through : (v : ℕ) (xs ys : List Event) → All (IsInLife v) xs → life_in v (xs ++ ys) ≡ xs ++ life_in v ys
life-through v [] ys within = refl
life-through v (x ∷ xs) ys within = life-more v x (xs ++ ys) (All-head (IsInLife v) x xs within) ∙ ap (λ zs. x ∷ zs) (life-through v xs ys (All-tail (IsInLife v) x xs within))

pub line-more : (v : ℕ) (phase : Phase) (told : Event) (more : List Event) → is_turn v phase told ≡ false → line_of_turn v phase (told ∷ more) ≡ line_of_turn v phase more
line-more v phase (event.Change (change.Phase told)) more other = cond-false ((nat_eq told.vm v) && same_phase told.phase phase) (Some told.line) _ other
line-more v phase (event.Change (change.Frame told)) more other = refl
line-more v phase (event.Read w) more other = refl
line-more v phase (event.Write w) more other = refl

-- events that do not turn the slot to the phase give no line of it
pub line-through : (v : ℕ) (phase : Phase) (xs ys : List Event) → All (λ told. is_turn v phase told ≡ false) xs → line_of_turn v phase (xs ++ ys) ≡ line_of_turn v phase ys
line-through v phase [] ys other = refl
line-through v phase (x ∷ xs) ys other =
    line-more v phase x (xs ++ ys) (All-head (λ told. is_turn v phase told ≡ false) x xs other) ∙ line-through v phase xs ys (All-tail (λ told. is_turn v phase told ≡ false) x xs other)

-- events that begin no life
pub lives-through : (xs ys : List Event) → All (λ told. (more : List Event) → life_from told more ≡ []) xs → lives (xs ++ ys) ≡ lives ys
lives-through [] ys none = refl
lives-through (x ∷ xs) ys none =
    ap (λ (first : List Life). first ++ lives (xs ++ ys)) (All-head (λ told. (more : List Event) → life_from told more ≡ []) x xs none (xs ++ ys))
    ∙ lives-through xs ys (All-tail (λ told. (more : List Event) → life_from told more ≡ []) x xs none)

-- an event that does not measure the slot does not say what was measured
pub measurement-more : (v : ℕ) (told : Event) (more : List Event) → is_measuring v told ≡ false → measurement_told v (told ∷ more) ≡ measurement_told v more
measurement-more v (event.Change (change.Phase told)) more not = cond-false (is_measuring v (event.Change (change.Phase told))) told.measurement _ not
measurement-more v (event.Change (change.Frame told)) more not = refl
measurement-more v (event.Read w) more not = refl
measurement-more v (event.Write w) more not = refl

pub measurement-through : (v : ℕ) (xs ys : List Event) → All (λ told. is_measuring v told ≡ false) xs → measurement_told v (xs ++ ys) ≡ measurement_told v ys
measurement-through v [] ys not = refl
measurement-through v (x ∷ xs) ys not =
    measurement-more v x (xs ++ ys) (All-head (λ told. is_measuring v told ≡ false) x xs not) ∙ measurement-through v xs ys (All-tail (λ told. is_measuring v told ≡ false) x xs not)

pub measures-not : (v : ℕ) (told : Event) → is_turn v Active told ≡ false → is_turn v Dead told ≡ false → is_measuring v told ≡ false
measures-not v told active dead = cond-false (is_turn v Active told) true _ active ∙ dead

pub measure-not : (v : ℕ) (xs : List Event) → All (λ told. is_turn v Active told ≡ false) xs → All (λ told. is_turn v Dead told ≡ false) xs → All (λ told. is_measuring v told ≡ false) xs
measure-not v xs active dead i d lt = measures-not v _ (active i d lt) (dead i d lt)

-- the event of a slot turns it, and no other
pub turn-here : (v n : ℕ) (old new : State) (w : ℕ) (phase : Phase) → w ≡ v → (slot_at new v).phase ≡ phase → is_turn v phase (slot_event n old new w) ≡ true
turn-here v n old new w phase same is =
    and_from (nat_eq w v) (same_phase (slot_at new w).phase phase) (eq-eqb w v same)
    (ap (λ k. same_phase (slot_at new k).phase phase) same ∙ ap (λ p. same_phase p phase) is ∙ same_phase-refl phase)

pub turn-not : (v n : ℕ) (old new : State) (w : ℕ) (phase : Phase) → (w ≡ v → (slot_at new v).phase ≡ phase → ⊥) → is_turn v phase (slot_event n old new w) ≡ false
turn-not v n old new w phase differs = elim (cases_eq w v) [
  | inl same ↦ and_right (nat_eq w v) (same_phase (slot_at new w).phase phase) (ap (λ k. same_phase (slot_at new k).phase phase) same ∙ other-phase (slot_at new v).phase phase (differs same))
  | inr other ↦ and_left (nat_eq w v) (same_phase (slot_at new w).phase phase) (ne_eqb w v other)
]

-- slots of a list among which the slot does not turn to the phase
pub turns-not : (v n : ℕ) (old new : State) (phase : Phase) (vs : List ℕ) → All (λ w. w ≡ v → (slot_at new v).phase ≡ phase → ⊥) vs → All (λ told. is_turn v phase told ≡ false) (map (slot_event n old new) vs)
turns-not v n old new phase vs differ =
    All-map (λ told. is_turn v phase told ≡ false) (slot_event n old new) vs
    (All-weaker (λ w. w ≡ v → (slot_at new v).phase ≡ phase → ⊥) (λ w. is_turn v phase (slot_event n old new w) ≡ false) (λ w differs. turn-not v n old new w phase differs) vs differ)

pub slots-quiet : (v n : ℕ) (old new : State) (vs : List ℕ) → All (IsQuiet v) (map (slot_event n old new) vs)
slots-quiet v n old new vs = All-map (IsQuiet v) (slot_event n old new) vs (λ i d lt. slot-quiet v n old new _)

pub slots-in-life : (v n : ℕ) (old new : State) (vs : List ℕ) → All (λ w. w ≡ v → (slot_at new v).phase ≡ Booting → ⊥) vs → All (λ w. w ≡ v → (slot_at new v).phase ≡ Empty → ⊥) vs → All (IsInLife v) (map (slot_event n old new) vs)
slots-in-life v n old new vs unregistered kept =
    All-map (IsInLife v) (slot_event n old new) vs
    (λ i d lt. record { unregistered = turn-not v n old new _ Booting (unregistered i d lt); kept = turn-not v n old new _ Empty (kept i d lt) })

-- the events of other slots belong to the life
pub others-turn-not : (v n : ℕ) (old new : State) (ws : List ℕ) → All (λ w. w ≡ v → ⊥) ws → (phase : Phase) → All (λ told. is_turn v phase told ≡ false) (map (slot_event n old new) ws)
others-turn-not v n old new ws others phase = turns-not v n old new phase ws (λ i d lt same so. others i d lt same)

pub others-parts : (v n : ℕ) (old new : State) (ws : List ℕ) (more : List Event) → All (λ w. w ≡ v → ⊥) ws → life_in v (map (slot_event n old new) ws ++ more) ≡ map (slot_event n old new) ws ++ life_in v more
others-parts v n old new ws more others = life-through v (map (slot_event n old new) ws) more (slots-in-life v n old new ws (λ i d lt same so. others i d lt same) (λ i d lt same so. others i d lt same))

-- a slot that turned is among those that did
pub is-turned : (old new : State) (v : ℕ) → v < slot_count old.config → has_turned old new v ≡ true → list_any (λ w. nat_eq w v) (turned old new) ≡ true
is-turned old new v low turns =
    among-range (λ w. nat_eq w v) (has_turned old new) 0 (slot_count old.config) v (λ w differs. ne_eqb w v differs) (omega arith) (omega (arith, low))
    ∙ and_from (has_turned old new v) (nat_eq v v) turns (eq-eqb v v refl)

-- the line of a turn is that of its call
pub line-here : (v n : ℕ) (old new : State) (phase : Phase) (vs : List ℕ) (ys : List Event) → list_any (λ w. nat_eq w v) vs ≡ true → (slot_at new v).phase ≡ phase → line_of_turn v phase (map (slot_event n old new) vs ++ ys) ≡ Some n
line-here v n old new phase [] ys any is = cc
line-here v n old new phase (w ∷ ws) ys any is = elim (cases_eq w v) [
  | inl same ↦ cond-true ((nat_eq w v) && same_phase (slot_at new w).phase phase) (Some n) _ (turn-here v n old new w phase same is)
  | inr other ↦
      line-more v phase (slot_event n old new w) (map (slot_event n old new) ws ++ ys) (turn-not v n old new w phase (λ same. absurd (other same)))
      ∙ line-here v n old new phase ws ys (rw (ne_eqb w v other) at any) is
]

-- what is reported as measured of a slot that turned is what was there before the call
pub measurement-here : (v n : ℕ) (old new : State) (phase : Phase) (vs : List ℕ) (ys : List Event) → list_any (λ w. nat_eq w v) vs ≡ true → ((told : Event) → is_turn v phase told ≡ true → is_measuring v told ≡ true) → (slot_at new v).phase ≡ phase
    → measurement_told v (map (slot_event n old new) vs ++ ys) ≡ measurement_for phase (measurement old v)
measurement-here v n old new phase [] ys any measures is = cc
measurement-here v n old new phase (w ∷ ws) ys any measures is = elim (cases_eq w v) [
  | inl same ↦
      cond-true (is_measuring v (slot_event n old new w)) (phase_change n old new w).measurement _ (measures (slot_event n old new w) (turn-here v n old new w phase same is))
      ∙ ap (λ k. measurement_for (slot_at new k).phase (measurement old k)) same ∙ ap (λ p. measurement_for p (measurement old v)) is
  | inr other ↦
      measurement-more v (slot_event n old new w) (map (slot_event n old new) ws ++ ys)
      (measures-not v (slot_event n old new w) (turn-not v n old new w Active (λ same. absurd (other same))) (turn-not v n old new w Dead (λ same. absurd (other same))))
      ∙ measurement-here v n old new phase ws ys (rw (ne_eqb w v other) at any) measures is
]

-- the last events of a life
pub record IsEnd (v n : ℕ) (told : List Event) : Type 0 where
  pub quiet : All (IsQuiet v) told
  pub ended : line_of_turn v Empty told ≡ Some n
  pub unturned : (phase : Phase) → (phase ≡ Empty → ⊥) → line_of_turn v phase told ≡ None
  pub unmeasured : measurement_told v told ≡ nothing_measured

-- if a call empties the slot, the slot's life ends among the call's events of slots
pub life-ends : (v n : ℕ) (old new : State) (vs : List ℕ) (ys : List Event) → list_any (λ w. nat_eq w v) vs ≡ true → (slot_at new v).phase ≡ Empty → IsEnd v n (life_in v (map (slot_event n old new) vs ++ ys))
life-ends v n old new [] ys any is = cc
life-ends v n old new (w ∷ ws) ys any is =
    let told = slot_event n old new w in
    let more = map (slot_event n old new) ws ++ ys in
    elim (cases_eq w v) [
      | inl same ↦
          let here : life_in v (told ∷ more) ≡ told ∷ [] = life-end v told more (turn-not v n old new w Booting (λ e booting. let h : Empty ≡ Booting = sym is ∙ booting in cc)) (turn-here v n old new w Empty same is) in
          rw here (record {
            quiet = All-cons (IsQuiet v) told [] (slot-quiet v n old new w) (All-nil (IsQuiet v));
            ended = cond-true ((nat_eq w v) && same_phase (slot_at new w).phase Empty) (Some n) None (turn-here v n old new w Empty same is);
            unturned = λ phase differs. line-more v phase told [] (turn-not v n old new w phase (λ e there. differs (sym there ∙ is)));
            unmeasured = measurement-more v told [] (measures-not v told (turn-not v n old new w Active (λ e there. let h = sym is ∙ there in cc)) (turn-not v n old new w Dead (λ e there. let h = sym is ∙ there in cc)));
          })
      | inr other ↦
          let rest = life-ends v n old new ws ys (rw (ne_eqb w v other) at any) is in
          let not_here : (phase : Phase) → is_turn v phase told ≡ false = λ phase. turn-not v n old new w phase (λ same. absurd (other same)) in
          let here : life_in v (told ∷ more) ≡ told ∷ life_in v more = life-more v told more (record { unregistered = not_here Booting; kept = not_here Empty }) in
          rw here (record {
            quiet = All-cons (IsQuiet v) told (life_in v more) (slot-quiet v n old new w) rest.quiet;
            ended = line-more v Empty told (life_in v more) (not_here Empty) ∙ rest.ended;
            unturned = λ phase differs. line-more v phase told (life_in v more) (not_here phase) ∙ rest.unturned phase differs;
            unmeasured = measurement-more v told (life_in v more) (measures-not v told (not_here Active) (not_here Dead)) ∙ rest.unmeasured;
          })
    ]
