-- The lives of VMs that are there before the first call are what states and replies say, and come before all others.
use Rattle.std.proofs.Common.{ℕ, zero, suc, ◌≡◌, ◌<◌, ◌≤◌, ◌+◌, not, Bool, true, false, cond, List, [], ◌∷◌, ◌++◌, map, filter, length, All, refl, sym, ap, subst, ◌∙◌, arith, append_assoc}
use Rattle.std.specs.List.{range_with_len}
use Rattle.std.proofs.lemmas.Bool.{cond-false, true≢false}
use Rattle.std.proofs.lemmas.List.Elements.{All-nil, All-cons, All-map, All-weaker, All-filter}
use Rattle.std.proofs.lemmas.Simd.{map-map}
use Rattle.kc_types.specs.Configuration.{slot_count}
use Rattle.kc_types.specs.declared.slot.Phase.TheVariants.{Empty, Booting}
use Rattle.kc_types.specs.declared.call.Call.{Call}
use Rattle.kc_types.specs.declared.custody.Change.TheVariants as change
use Rattle.kc_types.specs.declared.custody.Event.{Event}
use Rattle.kc_types.specs.declared.custody.Event.TheVariants as event
use Rattle.kc_types.specs.declared.custody.Life.{Life}
use Rattle.kc_types.specs.declared.custody.Sharing.{Sharing}
use Rattle.kc_model.specs.State.{State, slot_at}
use Rattle.kc_model.specs.Boot.{boot}
use Rattle.kc_model.specs.Lawful.{IsLawful}
use Rattle.kc_model.specs.Custody.{same_phase, frame_changes_by}
use Rattle.kc_model.specs.Lives.{life_in, line_of_turn, life_of, life_from, lives}
use Rattle.kc_model.specs.Before.{header_line, is_taken, is_measured, turn_before, frame_before, slots_that, events_before, lives_from}
use Rattle.kc_model.specs.Summaries.{last_place, is_shared_before, sharing_before, IsUnderWay}
use Rattle.kc_model.proofs.Custody.Ordered.{in-range}
use Rattle.kc_model.proofs.Summaries.Called.{frames-all}
use Rattle.kc_model.proofs.Summaries.Lived.{life-through, lives-through}
use Rattle.kc_model.proofs.Summaries.Lives.{told, life-from as life-onward}
use Rattle.kc_model.proofs.Summaries.Images.{measured-once}
use Rattle.kc_model.proofs.Summaries.Sharings.{begun_from, shared-from}
use Rattle.kc_model.proofs.Summaries.Brought.{life_by, lived}
use Rattle.kc_model.proofs.Summaries.Before.{turns_before, frames_before, measured_before, registered_before, told_before, brings-before}
use Rattle.kc_model.proofs.Summaries.MeasuredBefore.{before-in-life, settled-before, measured-unregistered}
use Rattle.kc_model.proofs.Summaries.SharedBefore.{shared-before}

-- the lives that begin with the registering of these slots
abbrev begun_by : List ℕ → List Event → List Life
begun_by [] more = []
begun_by (v ∷ vs) more = life_of v header_line (turns_before (λ w. Booting) vs ++ more) ∷ begun_by vs more

lives-begun : (vs : List ℕ) (more : List Event) → lives (turns_before (λ w. Booting) vs ++ more) ≡ begun_by vs more ++ lives more
lives-begun [] more = refl
lives-begun (v ∷ vs) more = ap (λ (ls : List Life). life_of v header_line (turns_before (λ w. Booting) vs ++ more) ∷ ls) (lives-begun vs more)

vms-begun : (vs : List ℕ) (more : List Event) → map (λ (life : Life). life.vm) (begun_by vs more) ≡ vs
vms-begun [] more = refl
vms-begun (v ∷ vs) more = ap (λ ws. v ∷ ws) (vms-begun vs more)

module _ (m : State) (calls : List Call) (is : IsLawful m) where
  -- the events of all calls
  abbrev later : List Event
  later = told m calls (length calls) 0

  abbrev UnderWay : Life → Type 0
  UnderWay life = IsUnderWay m calls life (last_place calls life.cleared)

  -- the life of a VM, if these others are registered after it
  under-way : (v : ℕ) → v < slot_count m.config → ((slot_at m v).phase ≡ Empty → ⊥) → (ws : List ℕ) → All (λ w. w ≡ v → ⊥) ws → UnderWay (life_of v header_line (told_before m ws ++ later))
  under-way v low some ws others =
      let rest = life_in v later in
      let first = told_before m ws in
      let life = life-onward m calls is v low (length calls) 0 (omega arith) some in
      let settled = settled-before m calls is v low ws others some life.0 rest life.1 (measured-once m calls is v low (length calls) 0 (omega arith) some) in
      let shared = shared-from m calls is v low (length calls) 0 (omega arith) some in
      let all : IsUnderWay m calls (life_by v header_line (first ++ rest) (first ++ later)) (last_place calls life.0) = record {
        lived = lived m calls is v low header_line 0 first rest (first ++ later) life.0 (brings-before m calls is v low ws) life.1 settled.turns;
        registered = refl;
        measurement = settled.measurement;
        shared = shared-before m calls v low ws others some
            ∙ ap (λ (begun : List Sharing). map (sharing_before m calls) (filter (is_shared_before m v) (range_with_len 0 m.config.frames)) ++ begun) (shared ∙ ap (λ end. begun_from m calls v 0 (last_place calls end)) life.1.ended);
      } in
      subst (λ told. IsUnderWay m calls (life_by v header_line told (first ++ later)) (last_place calls (line_of_turn v Empty told))) (sym (life-through v first later (before-in-life m v low ws others some)))
      (subst (λ end. IsUnderWay m calls (life_by v header_line (first ++ rest) (first ++ later)) (last_place calls end)) (sym settled.turns.cleared) all)

  -- the events after the registering of all VMs
  abbrev after : List Event
  after = frames_before m ++ (measured_before m ++ later)

  -- the lives of the slots of a range that are taken
  under-way-in : (low n : ℕ) → low + n ≤ slot_count m.config → All UnderWay (begun_by (filter (is_taken m) (range_with_len low n)) after)
  under-way-in low zero within = All-nil UnderWay
  under-way-in low (suc n) within =
      by_test (is_taken m low) refl (filter (is_taken m) (range_with_len (low + 1) n))
      (All-filter (is_taken m) (λ w. w ≡ low → ⊥) (range_with_len (low + 1) n) (All-weaker (λ w. (low + 1 ≤ w) × (w < (low + 1) + n)) (λ w. w ≡ low → ⊥) (λ w is same. let above = is.0 in omega (arith, above, same)) (range_with_len (low + 1) n) (in-range (low + 1) n)))
      (under-way-in (low + 1) n (omega (arith, within)))
    where
      by_test : (b : Bool) → is_taken m low ≡ b → (ws : List ℕ) → All (λ w. w ≡ low → ⊥) ws → All UnderWay (begun_by ws after) → All UnderWay (begun_by (cond b (low ∷ ws) ws) after)
      by_test true taken ws others rest =
          let some : (slot_at m low).phase ≡ Empty → ⊥ = λ empty. true≢false (sym taken ∙ ap (λ p. not (same_phase p Empty)) empty) in
          let parted = append_assoc (registered_before m ws) (measured_before m) later ∙ append_assoc (turns_before (λ w. Booting) ws) (frames_before m) (measured_before m ++ later) in
          All-cons UnderWay (life_of low header_line (turns_before (λ w. Booting) ws ++ after)) (begun_by ws after)
          (subst (λ more. UnderWay (life_of low header_line more)) parted (under-way low (omega (arith, within)) some ws others)) rest
      by_test false taken ws others rest = rest

  -- no life begins with a frame's change or a VM's being measured
  lives-after : lives after ≡ lives later
  lives-after =
      lives-through (frames_before m) (measured_before m ++ later) (frames-all (λ told. (more : List Event) → life_from told more ≡ []) (λ told more. refl) (frame_changes_by header_line (boot m.config) m))
      ∙ lives-through (measured_before m) later
      (All-map (λ told. (more : List Event) → life_from told more ≡ []) (λ w. turn_before (slot_at m w).phase w) (slots_that is_measured m)
      (λ i d lt more. cond-false (same_phase (slot_at m _).phase Booting) (life_of _ header_line more ∷ []) [] (measured-unregistered m i d lt)))

  -- the registering of all VMs, and all that comes after it
  events-parted : events_before m ++ later ≡ turns_before (λ w. Booting) (slots_that is_taken m) ++ after
  events-parted =
      let taken = turns_before (λ w. Booting) (slots_that is_taken m) in
      append_assoc taken (map frame_before (frame_changes_by header_line (boot m.config) m) ++ measured_before m) later
      ∙ ap (λ more. taken ++ more) (ap (λ frames. (frames ++ measured_before m) ++ later) (sym (map-map event.Change change.Frame (frame_changes_by header_line (boot m.config) m))) ∙ append_assoc (frames_before m) (measured_before m) later)

  pub lives-before : (told : List Life) × (lives_from m later ≡ told ++ lives later) × (map (λ life. life.vm) told ≡ slots_that is_taken m) × All UnderWay told
  lives-before =
      let taken = slots_that is_taken m in (
        begun_by taken after,
        ap lives events-parted ∙ lives-begun taken after ∙ ap (λ (ls : List Life). begun_by taken after ++ ls) lives-after,
        vms-begun taken after,
        under-way-in 0 (slot_count m.config) (omega arith),
      )
