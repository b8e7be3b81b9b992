-- Each life that the events of a trace give is what its states and replies say.
use Rattle.std.proofs.Common.{ℕ, zero, suc, ◌≡◌, ◌<◌, ◌≤◌, ◌+◌, ◌-◌, inl, inr, ◌&&◌, is_some, Bool, true, false, cond, List, [], ◌∷◌, ◌++◌, map, filter, length, get_or, All, Option, Some, None, refl, sym, ap, subst, ◌∙◌, arith, append_assoc}
use Rattle.std.specs.List.{range_with_len}
use Rattle.std.proofs.lemmas.Bool.{cond_both, cond-true, cond-false, cases_eq, false_from_ne_true, true≢false, and_parts, and_from}
use Rattle.std.proofs.lemmas.List.Elements.{All-nil, All-cons, All-append, All-weaker, All-filter}
use Rattle.kc_types.specs.Configuration.{slot_count}
use Rattle.kc_types.specs.declared.call.Call.{Call}
use Rattle.kc_types.specs.declared.call.Call.TheVariants.{Take}
use Rattle.kc_types.specs.declared.slot.Phase.TheVariants.{Empty, Booting, Active, Dead}
use Rattle.kc_types.specs.declared.custody.Event.{Event}
use Rattle.kc_types.specs.declared.custody.Life.{Life}
use Rattle.kc_model.specs.State.{State, slot_at}
use Rattle.kc_model.specs.Lawful.{IsLawful}
use Rattle.kc_model.specs.Next.{next}
use Rattle.kc_model.specs.Footprints.{state_at, call_at, reply_at}
use Rattle.kc_model.specs.Resources.{is_in}
use Rattle.kc_model.specs.Custody.{has_turned, same_phase, first_line}
use Rattle.kc_model.specs.Events.{events_by, events_from, events}
use Rattle.kc_model.specs.Lives.{life_in, line_of_turn, life_of, life_from, lives}
use Rattle.kc_model.specs.Before.{is_taken, slots_that, lives_from}
use Rattle.kc_model.specs.Summaries.{place_after, last_place, phase_at, owns_at, registered_by, IsSummary, IsUnderWay, AreSummaries}
use Rattle.kc_model.proofs.Lawful.LawfulTraces.{lawful-at}
use Rattle.kc_model.proofs.Footprints.Reaches.{config-at}
use Rattle.kc_model.proofs.Custody.Same.{not-turned}
use Rattle.kc_model.proofs.Custody.Told.{turned}
use Rattle.kc_model.proofs.Custody.Ordered.{in-range}
use Rattle.kc_model.proofs.Summaries.Owned.{has-listed}
use Rattle.kc_model.proofs.Summaries.Turns.{stays, registers, activates, rejects, clears, turns, booted}
use Rattle.kc_model.proofs.Summaries.Called.{slot_event, front, rear, front-all, events-parted}
use Rattle.kc_model.proofs.Summaries.Lived.{phase-is, lives-through}
use Rattle.kc_model.proofs.Summaries.Sharings.{AreShared, begun_from, shared-from, shared-beside}
use Rattle.kc_model.proofs.Summaries.Images.{IsMeasuredOnce, measured-once, measured-beside}
use Rattle.kc_model.proofs.Summaries.UnderWay.{lives-before}
use Rattle.kc_model.proofs.Summaries.Brought.{Brings, AreTurns, lived}
use Rattle.kc_model.proofs.Summaries.Lives.{told, IsLife, life-from as life-onward, life-beside, has-turned}

-- the events of a trace, by places
told-from : (m : State) (calls ys : List Call) (k : ℕ) → ((i : ℕ) → get_or ys i Take ≡ call_at calls (k + i)) → events_from (first_line + k) (state_at m calls k) ys ≡ told m calls (length ys) k
told-from m calls [] k same = refl
told-from m calls (y ∷ ys) k same =
    let here : k + 0 ≡ k = omega arith in
    let there : (first_line + k) + 1 ≡ first_line + suc k = omega arith in
    let call : y ≡ call_at calls k = same 0 ∙ ap (call_at calls) here in
    let rest = told-from m calls ys (suc k) (λ i. let later : k + suc i ≡ suc k + i = omega arith in same (suc i) ∙ ap (call_at calls) later) in
    rw (call, there) (ap (λ more. events_by (first_line + k) (state_at m calls k) (call_at calls k) ++ more) rest)

told-all : (m : State) (calls : List Call) → events m calls ≡ told m calls (length calls) 0
told-all m calls = told-from m calls calls 0 (λ i. let here : i ≡ 0 + i = omega arith in ap (call_at calls) here)

-- a call after which a slot is booting that was not before registers it, and it has no frames
record IsRegistered (v : ℕ) (m : State) (call : Call) : Type 0 where
  by : registered_by call (next m call).0 ≡ Some v
  booting : (slot_at (next m call).1 v).phase ≡ Booting
  none : (slot_at (next m call).1 v).frames ≡ []

is-registered : (v : ℕ) (m : State) (call : Call) → IsLawful m → has_turned m (next m call).1 v ≡ true → (slot_at (next m call).1 v).phase ≡ Booting → IsRegistered v m call
is-registered v m call is turned booting = elim (turns v m call is) [
  | stays same ↦ let still = not-turned m (next m call).1 v same in absurd cc
  | registers by empty after none ↦ record { by = by; booting = after; none = none }
  | activates before after ↦ let h = sym booting ∙ after in absurd cc
  | rejects before after ↦ let h = sym booting ∙ after in absurd cc
  | clears by after ↦ let h = sym booting ∙ after in absurd cc
]

module _ (m : State) (calls : List Call) (is : IsLawful m) where
  abbrev Summed : Life → Type 0
  Summed life = IsSummary m calls life (place_after life.registered) (last_place calls life.cleared)

  -- the life of a VM that the call at this place registers, by the events after that
  summed-life : (v : ℕ) (low : v < slot_count m.config) (k : ℕ) (more : List Event) (line : Option ℕ) → k < length calls → IsRegistered v (state_at m calls k) (call_at calls k) → IsLife m calls is v low (suc k) (life_in v more) line → IsMeasuredOnce m calls is v low (suc k) (life_in v more) → AreShared m calls is v low (suc k) more
      → Summed (life_of v (first_line + k) more)
  summed-life v low k more line within by life measured shared =
      let call : k ≡ (first_line + k) - first_line = omega arith in
      let place : suc k ≡ (first_line + k) - 1 = omega arith in
      let booting = by.booting in
      let unlisted : (f : ℕ) → owns_at m calls v f (suc k) ≡ false = λ f. false_from_ne_true (owns_at m calls v f (suc k)) (λ owns.
      let listed = has-listed (state_at m calls (suc k)) v (lawful-at m calls is (suc k) within) (rw (config-at m calls (suc k)) low) f owns in
      let none = ap (λ (fs : List ℕ). is_in fs f) by.none in
      true≢false (sym listed ∙ none)) in
      let brings : Brings m calls v (suc k) [] = record {
        gains = sym (ap (λ (frames : List ℕ). length frames) by.none);
        losses = refl;
        reads = refl;
        writes = refl;
        frames = λ f low. sym (unlisted f);
        within = All-nil (λ f. f < m.config.frames);
      } in
      let turns : AreTurns m calls v (suc k) line (life_in v more) = record {
        cleared = life.ended;
        active = life.turned Active (λ e. cc) (λ e. let h = sym booting ∙ e in cc);
        dead = life.turned Dead (λ e. cc) (λ e. let h = sym booting ∙ e in cc);
        once = measured.once;
      } in
      let summed : IsSummary m calls (life_of v (first_line + k) more) (suc k) (last_place calls line) = record {
        lived = lived m calls is v low (first_line + k) (suc k) [] (life_in v more) more line brings life turns;
        within = omega arith;
        registered = subst (λ i. registered_by (call_at calls i) (reply_at m calls i) ≡ Some v) call by.by;
        measurement = measured.measurement;
        shared = shared ∙ ap (λ end. begun_from m calls v (suc k) (last_place calls end)) life.ended;
      } in
      subst (λ i. IsSummary m calls (life_of v (first_line + k) more) i (last_place calls (line_of_turn v Empty (life_in v more)))) place
      (subst (λ end. IsSummary m calls (life_of v (first_line + k) more) (suc k) (last_place calls end)) (sym life.ended) summed)

  -- a slot that a call turns, with the events of the slots after it
  summed-slot : (d k : ℕ) → k + suc d ≡ length calls → (v : ℕ) → v < slot_count m.config → has_turned (state_at m calls k) (state_at m calls (suc k)) v ≡ true → (ws : List ℕ) → All (λ w. v < w) ws
      → All Summed (life_from (slot_event (first_line + k) (state_at m calls k) (state_at m calls (suc k)) v) (map (slot_event (first_line + k) (state_at m calls k) (state_at m calls (suc k))) ws ++ told m calls d (suc k)))
  summed-slot d k whole v low turned ws above =
      let old = state_at m calls k in
      let new = state_at m calls (suc k) in
      let line = first_line + k in
      let more = map (slot_event line old new) ws ++ told m calls d (suc k) in
      cond_both (same_phase (slot_at new v).phase Booting) (life_of v line more ∷ []) [] (All Summed)
      (λ same.
      let booting : (slot_at new v).phase ≡ Booting = phase-is (slot_at new v).phase Booting same in
      let by = is-registered v old (call_at calls k) (lawful-at m calls is k (omega (arith, whole))) turned booting in
      let some : phase_at m calls v (suc k) ≡ Empty → ⊥ = λ empty. (let h = sym booting ∙ empty in cc) in
      let life = life-onward m calls is v low d (suc k) (omega (arith, whole)) some in
      let measured = measured-once m calls is v low d (suc k) (omega (arith, whole)) some in
      let shared = shared-from m calls is v low d (suc k) (omega (arith, whole)) some in
      let others = All-weaker (λ w. v < w) (λ w. w ≡ v → ⊥) (λ w lt same. omega (arith, lt, same)) ws above in
      All-cons Summed (life_of v line more) []
      (summed-life v low k more life.0 (omega (arith, whole)) by (life-beside m calls is v low line (suc k) old new ws (told m calls d (suc k)) life.0 others life.1)
      (measured-beside m calls is v low line (suc k) old new ws (told m calls d (suc k)) others measured)
      (shared-beside m calls is v low line (suc k) old new ws (told m calls d (suc k)) others shared))
      (All-nil Summed))
      (λ other. All-nil Summed)

  -- the slots of a range that a call turns
  summed-slots : (d k : ℕ) → k + suc d ≡ length calls → All Summed (lives (told m calls d (suc k))) → (low n : ℕ) → low + n ≤ slot_count m.config
      → All Summed (lives (map (slot_event (first_line + k) (state_at m calls k) (state_at m calls (suc k))) (filter (has_turned (state_at m calls k) (state_at m calls (suc k))) (range_with_len low n)) ++ told m calls d (suc k)))
  summed-slots d k whole later low zero within = later
  summed-slots d k whole later low (suc n) within =
      let old = state_at m calls k in
      let new = state_at m calls (suc k) in
      by_test (has_turned old new low) refl (filter (has_turned old new) (range_with_len (low + 1) n))
      (All-filter (has_turned old new) (λ w. low < w) (range_with_len (low + 1) n) (All-weaker (λ w. (low + 1 ≤ w) × (w < (low + 1) + n)) (λ w. low < w) (λ w is. omega (arith, is.0)) (range_with_len (low + 1) n) (in-range (low + 1) n)))
      (summed-slots d k whole later (low + 1) n (omega (arith, within)))
    where
      by_test : (b : Bool) → has_turned (state_at m calls k) (state_at m calls (suc k)) low ≡ b → (ws : List ℕ) → All (λ w. low < w) ws
          → All Summed (lives (map (slot_event (first_line + k) (state_at m calls k) (state_at m calls (suc k))) ws ++ told m calls d (suc k)))
          → All Summed (lives (map (slot_event (first_line + k) (state_at m calls k) (state_at m calls (suc k))) (cond b (low ∷ ws) ws) ++ told m calls d (suc k)))
      by_test true turned ws above rest =
          let more = map (slot_event (first_line + k) (state_at m calls k) (state_at m calls (suc k))) ws ++ told m calls d (suc k) in
          All-append Summed (life_from (slot_event (first_line + k) (state_at m calls k) (state_at m calls (suc k)) low) more) (lives more) (summed-slot d k whole low (omega (arith, within)) turned ws above) rest
      by_test false turned ws above rest = rest

  -- the lives that begin with the call at a place, and those after it
  lives-parted : (d k : ℕ) → lives (told m calls (suc d) k) ≡ lives (rear (first_line + k) (state_at m calls k) (call_at calls k) ++ told m calls d (suc k))
  lives-parted d k =
      let line = first_line + k in
      let old = state_at m calls k in
      let first = front line old (call_at calls k) in
      let slots = rear line old (call_at calls k) in
      let more = told m calls d (suc k) in
      ap (λ events. lives (events ++ more)) (events-parted line old (call_at calls k))
      ∙ ap lives (append_assoc first slots more)
      ∙ lives-through first (slots ++ more) (front-all (λ told. (more : List Event) → life_from told more ≡ []) (λ w more. refl) (λ w more. refl) (λ told more. refl) line old (call_at calls k))

  summed-from : (d k : ℕ) → k + d ≡ length calls → All Summed (lives (told m calls d k))
  summed-from zero k whole = All-nil Summed
  summed-from (suc d) k whole =
      let old = state_at m calls k in
      let count : slot_count old.config ≡ slot_count m.config = ap slot_count (config-at m calls k) in
      subst (All Summed) (sym (lives-parted d k)) (summed-slots d k whole (summed-from d (suc k) (omega (arith, whole))) 0 (slot_count old.config) (omega (arith, count)))

-- the lines on which lives begin
abbrev lines : List Event → List ℕ
lines told = map (λ (life : Life). life.registered) (lives told)

-- a slot begins a life if it turned and is booting
abbrev boots : State → State → ℕ → Bool
boots old new v = has_turned old new v && same_phase (slot_at new v).phase Booting

line-of-slot : (n : ℕ) (old new : State) (v : ℕ) (ws : List ℕ) (more : List Event)
    → lines (map (slot_event n old new) (cond (has_turned old new v) (v ∷ ws) ws) ++ more) ≡ cond (boots old new v) (n ∷ lines (map (slot_event n old new) ws ++ more)) (lines (map (slot_event n old new) ws ++ more))
line-of-slot n old new v ws more = by_turn (has_turned old new v)
  where
    by_phase : (b : Bool) (life : Life) (rest : List Life) → map (λ (life : Life). life.registered) (cond b (life ∷ []) [] ++ rest) ≡ cond b (life.registered ∷ map (λ (life : Life). life.registered) rest) (map (λ (life : Life). life.registered) rest)
    by_phase true life rest = refl
    by_phase false life rest = refl

    by_turn : (b : Bool) → lines (map (slot_event n old new) (cond b (v ∷ ws) ws) ++ more) ≡ cond (b && same_phase (slot_at new v).phase Booting) (n ∷ lines (map (slot_event n old new) ws ++ more)) (lines (map (slot_event n old new) ws ++ more))
    by_turn true = by_phase (same_phase (slot_at new v).phase Booting) (life_of v n (map (slot_event n old new) ws ++ more)) (lives (map (slot_event n old new) ws ++ more))
    by_turn false = refl

-- the events of the slots of a range that turned
abbrev of_range : ℕ → State → State → ℕ → ℕ → List Event
of_range n old new low count = map (slot_event n old new) (filter (has_turned old new) (range_with_len low count))

-- slots none of which begins a life
lines-none : (n : ℕ) (old new : State) (more : List Event) (low count : ℕ) → ((w : ℕ) → low ≤ w → boots old new w ≡ false) → lines (of_range n old new low count ++ more) ≡ lines more
lines-none n old new more low zero none = refl
lines-none n old new more low (suc count) none =
    let ws = filter (has_turned old new) (range_with_len (low + 1) count) in
    line-of-slot n old new low ws more
    ∙ cond-false (boots old new low) (n ∷ lines (map (slot_event n old new) ws ++ more)) _ (none low (omega arith))
    ∙ lines-none n old new more (low + 1) count (λ w from. none w (omega (arith, from)))

-- slots one of which begins a life
lines-one : (n : ℕ) (old new : State) (more : List Event) (v low count : ℕ) → low ≤ v → v < low + count → boots old new v ≡ true → ((w : ℕ) → (w ≡ v → ⊥) → boots old new w ≡ false) → lines (of_range n old new low count ++ more) ≡ n ∷ lines more
lines-one n old new more v low zero from below here others = absurd (omega (arith, from, below))
lines-one n old new more v low (suc count) from below here others =
    let ws = filter (has_turned old new) (range_with_len (low + 1) count) in
    let rest = lines (map (slot_event n old new) ws ++ more) in
    line-of-slot n old new low ws more ∙ elim (cases_eq low v) [
      | inl same ↦
          cond-true (boots old new low) (n ∷ rest) rest (ap (boots old new) same ∙ here)
          ∙ ap (λ (ls : List ℕ). n ∷ ls) (lines-none n old new more (low + 1) count (λ w above. others w (λ e. omega (arith, same, above, e))))
      | inr other ↦ cond-false (boots old new low) (n ∷ rest) rest (others low other) ∙ lines-one n old new more v (low + 1) count (omega (arith, from, other)) (omega (arith, below)) here others
    ]

module _ (m : State) (calls : List Call) (is : IsLawful m) where
  abbrev registers_at : ℕ → Bool
  registers_at k = is_some (registered_by (call_at calls k) (reply_at m calls k))

  -- a slot that begins a life is one that the call registers
  boots-by : (k v : ℕ) → k < length calls → boots (state_at m calls k) (state_at m calls (suc k)) v ≡ true → registered_by (call_at calls k) (reply_at m calls k) ≡ Some v
  boots-by k v within boots =
      let parts = and_parts (has_turned (state_at m calls k) (state_at m calls (suc k)) v) (same_phase (phase_at m calls v (suc k)) Booting) boots in
      (is-registered v (state_at m calls k) (call_at calls k) (lawful-at m calls is k (omega (arith, within))) parts.0 (phase-is (phase_at m calls v (suc k)) Booting parts.1)).by

  -- the lives that begin with the call at a place
  lines-at : (k : ℕ) (more : List Event) → k < length calls → (by : Option ℕ) → registered_by (call_at calls k) (reply_at m calls k) ≡ by
      → lines (rear (first_line + k) (state_at m calls k) (call_at calls k) ++ more) ≡ cond (is_some by) ((first_line + k) ∷ lines more) (lines more)
  lines-at k more within None by = lines-none (first_line + k) (state_at m calls k) (state_at m calls (suc k)) more 0 (slot_count (state_at m calls k).config)
      (λ w from. false_from_ne_true (boots (state_at m calls k) (state_at m calls (suc k)) w) (λ is. let so = boots-by k w within is in cc))
  lines-at k more within (Some v) by =
      let old = state_at m calls k in
      let new = state_at m calls (suc k) in
      let start = booted v old (call_at calls k) (lawful-at m calls is k (omega (arith, within))) by in
      let below = start.within in
      let empty = start.empty in
      let booting = start.booting in
      let turned = has-turned old new v (λ same. let h = sym empty ∙ same ∙ booting in cc) in
      let here = and_from (has_turned old new v) (same_phase (slot_at new v).phase Booting) turned (ap (λ p. same_phase p Booting) booting) in
      lines-one (first_line + k) old new more v 0 (slot_count old.config) (omega arith) (omega (arith, below)) here
      (λ w other. false_from_ne_true (boots old new w) (λ is. let so = boots-by k w within is in other (let same : w ≡ v = cc in same)))

  lines-from : (d k : ℕ) → k + d ≡ length calls → lines (told m calls d k) ≡ map (λ k. first_line + k) (filter registers_at (range_with_len k d))
  lines-from zero k whole = refl
  lines-from (suc d) k whole =
      let line = first_line + k in
      let old = state_at m calls k in
      let slots = rear line old (call_at calls k) in
      let more = told m calls d (suc k) in
      let next : suc k ≡ k + 1 = omega arith in
      let rest = lines-from d (suc k) (omega (arith, whole)) ∙ ap (λ n. map (λ k. first_line + k) (filter registers_at (range_with_len n d))) next in
      ap (λ (ls : List Life). map (λ (life : Life). life.registered) ls) (lives-parted m calls is d k)
      ∙ lines-at k more (omega (arith, whole)) (registered_by (call_at calls k) (reply_at m calls k)) refl
      ∙ by_call (registers_at k) (lines more) rest
    where
      by_call : (b : Bool) (later : List ℕ) → later ≡ map (λ k. first_line + k) (filter registers_at (range_with_len (k + 1) d))
          → cond b ((first_line + k) ∷ later) later ≡ map (λ k. first_line + k) (cond b (k ∷ filter registers_at (range_with_len (k + 1) d)) (filter registers_at (range_with_len (k + 1) d)))
      by_call true later rest = ap (λ (ls : List ℕ). (first_line + k) ∷ ls) rest
      by_call false later rest = rest

pub summaries_are : (m : State) (calls : List Call) → IsLawful m → AreSummaries m calls
summaries_are m calls is = record {
  each = subst (λ events. All (Summed m calls is) (lives events)) (sym (told-all m calls)) (summed-from m calls is (length calls) 0 (omega arith));
  all = ap lines (told-all m calls) ∙ lines-from m calls is (length calls) 0 (omega arith);
  before = subst (λ events. (told : List Life) × (lives_from m events ≡ told ++ lives events) × (map (λ life. life.vm) told ≡ slots_that is_taken m) × All (λ life. IsUnderWay m calls life (last_place calls life.cleared)) told) (sym (told-all m calls)) (lives-before m calls is);
}
