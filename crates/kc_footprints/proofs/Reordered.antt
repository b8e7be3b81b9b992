-- The calls of a trace in another order give the same replies and the same final state.
use Rattle.std.proofs.Common.{ℕ, zero, suc, ◌≡◌, ◌<◌, Bool, true, false, List, [], ◌∷◌, length, refl, sym, ap, subst, ◌∙◌, arith}
use Rattle.kc_types.specs.declared.call.Call.{Call}
use Rattle.kc_types.specs.declared.owner.Owner.TheVariants.{Core}
use Rattle.kc_model.specs.State.{State, no_slot, untouched}
use Rattle.kc_model.specs.Lawful.{IsLawful}
use Rattle.kc_model.specs.Next.{next, state_after}
use Rattle.kc_model.specs.Resources.{Resource, IsWithin, need, pick, merged, part_of}
use Rattle.kc_model.specs.Local.{IsSameSize, AgreesOn}
use Rattle.kc_model.specs.Footprints.{call_at, state_at, part_at, footprint}
use Rattle.kc_model.proofs.Local.Agreeing.{merged-agrees}
use Rattle.kc_model.proofs.States.Sizes.{sized-next, sized-then}
use Rattle.kc_model.proofs.Local.Parts.{need-merged}
use Rattle.kc_model.proofs.States.Places.{state_at-end}
use Rattle.kc_model.proofs.Footprints.Reaches.{footprint-keeps}
use Rattle.kc_model.proofs.Lawful.LawfulTraces.{orderly-at}
use Rattle.kc_footprints.specs.Reorder.{with_number, IsDue, IsTaken, IsReordering}
use Rattle.kc_footprints.proofs.Reorders.{left_by, all_done, rest, due_finds, due_leaves, due_keeps, by_waves}
use Rattle.kc_footprints.specs.Stepping.{IsStep}
use Rattle.kc_footprints.specs.Reordering.{after_order, AnswersAlike, IsOrderFree, IsWaveOrderFree, IsReadiness}
use Rattle.kc_footprints.proofs.Commute.{has_needs, is_stepping}

pick-all : {X : Type 0} (d : X) (xs ys : List X) → pick (λ i. true) d xs ys ≡ xs
pick-all d [] ys = refl
pick-all d (x ∷ xs) ys = ap (λ rest. x ∷ rest) (pick-all d xs _)

merged-all : (m other : State) → merged (λ r. true) m other ≡ m
merged-all m other = rw (pick-all (untouched Core) m.frames other.frames, pick-all no_slot m.slots other.slots) refl

-- states of one size that have the same parts are the same
same-state : (m other : State) → IsSameSize m other → ((r : Resource) → part_of other r ≡ part_of m r) → other ≡ m
same-state m other size parts = sym (merged-agrees (λ r. true) m other (record { size = size; parts = λ r yes. parts r })) ∙ merged-all m other

pub size-at : (m : State) (calls : List Call) (k : ℕ) → IsSameSize m (state_at m calls k)
size-at m calls zero = record { config = refl; frames = refl; slots = refl }
size-at m calls (suc k) = sized-then m (state_at m calls k) (state_at m calls (suc k)) (size-at m calls k) (sized-next (state_at m calls k) (call_at calls k))

-- two states of the size of a third are of one size
size-between : (m a b : State) → IsSameSize m a → IsSameSize m b → IsSameSize a b
size-between m a b ma mb = record { config = mb.config ∙ sym ma.config; frames = mb.frames ∙ sym ma.frames; slots = mb.slots ∙ sym ma.slots }

module _ (m : State) (calls : List Call) (is : IsLawful m) where
  -- the store has of each resource what the calls done so far leave
  abbrev Holds : (ℕ → Bool) → State → Type 0
  Holds done store = IsSameSize m store × ((r : Resource) → part_of store r ≡ left_by (footprint m calls) (part_at m calls) done (length calls) r)

  still : (j : ℕ) (r : Resource) → j < length calls → footprint m calls j r ≡ false → part_at m calls (suc j) r ≡ part_at m calls j r
  still j r lt outside = footprint-keeps m calls is (orderly-at m calls is) j lt r outside

  -- before a call that is due the store has the right parts in its footprint
  agrees : (done : ℕ → Bool) (k : ℕ) (store : State) → IsDue (footprint m calls) (length calls) done k → Holds done store → AgreesOn (footprint m calls k) (state_at m calls k) store
  agrees done k store due holds = record {
    size = size-between m (state_at m calls k) store (size-at m calls k) holds.0;
    parts = λ r here. holds.1 r ∙ due_finds (footprint m calls) (part_at m calls) (length calls) done k r still due here;
  }

  due-step : (done : ℕ → Bool) (k : ℕ) (store : State) → IsDue (footprint m calls) (length calls) done k → Holds done store → IsStep m calls k store
  due-step done k store due holds = is_stepping m calls is k due.within store (agrees done k store due holds)

  by_touch : (done : ℕ → Bool) (k : ℕ) (store : State) (r : Resource) → IsDue (footprint m calls) (length calls) done k → Holds done store → IsStep m calls k store → (b : Bool) → footprint m calls k r ≡ b
      → part_of (next store (call_at calls k)).1 r ≡ left_by (footprint m calls) (part_at m calls) (with_number k done) (length calls) r
  by_touch done k store r due holds step true touched = step.here.parts r touched ∙ sym (due_leaves (footprint m calls) (part_at m calls) (length calls) done k r due touched)
  by_touch done k store r due holds step false outside = step.elsewhere r outside ∙ holds.1 r ∙ sym (due_keeps (footprint m calls) (part_at m calls) (length calls) done k r outside)

  -- and so it has after the next call
  holds-next : (done : ℕ → Bool) (k : ℕ) (store : State) → IsDue (footprint m calls) (length calls) done k → Holds done store → Holds (with_number k done) (next store (call_at calls k)).1
  holds-next done k store due holds = (
    sized-then m store (next store (call_at calls k)).1 holds.0 (sized-next store (call_at calls k)),
    λ r. by_touch done k store r due holds (due-step done k store due holds) (footprint m calls k r) refl,
  )

  holds-after : (order : List ℕ) (done final : ℕ → Bool) (store : State) → IsTaken (footprint m calls) (length calls) done order final → Holds done store → Holds final (after_order calls store order)
  holds-after [] done final store same holds = subst (λ (d : ℕ → Bool). Holds d store) (sym same) holds
  holds-after (k ∷ ks) done final store due holds = holds-after ks (with_number k done) final (next store (call_at calls k)).1 due.1 (holds-next done k store due.0 holds)

  alike-after : (order : List ℕ) (done final : ℕ → Bool) (store : State) → IsTaken (footprint m calls) (length calls) done order final → Holds done store → AnswersAlike m calls store order
  alike-after [] done final store same holds = tt
  alike-after (k ∷ ks) done final store due holds =
      ((due-step done k store due.0 holds).reply, alike-after ks (with_number k done) final (next store (call_at calls k)).1 due.1 (holds-next done k store due.0 holds))

  holds-first : Holds (λ j. false) m
  holds-first = (size-at m calls zero, λ r. sym (rest (footprint m calls) (part_at m calls) (λ j. false) (length calls) zero r (omega arith) (λ j le lt t. refl)))

  -- after the calls of an order, those that come next get the replies that they get in the trace's order
  pub alike : (order more : List ℕ) (done final : ℕ → Bool) → IsTaken (footprint m calls) (length calls) (λ j. false) order done → IsTaken (footprint m calls) (length calls) done more final
      → AnswersAlike m calls (after_order calls m order) more
  alike order more done final taken onward = alike-after more done final (after_order calls m order) onward (holds-after order (λ j. false) done m taken holds-first)

  -- a call that is due needs no more than its footprint
  needs-due : (done : ℕ → Bool) (k : ℕ) (store : State) → IsDue (footprint m calls) (length calls) done k → Holds done store → IsWithin (need store (call_at calls k)) (footprint m calls k)
  needs-due done k store due holds r needed =
      let within : IsWithin (need (state_at m calls k) (call_at calls k)) (footprint m calls k) = has_needs m calls is k due.within in
      within r (sym (need-merged (footprint m calls k) (state_at m calls k) store (call_at calls k) within r)
      ∙ ap (λ s. need s (call_at calls k) r) (merged-agrees (footprint m calls k) (state_at m calls k) store (agrees done k store due holds)) ∙ needed)

  -- if all are done, each resource is as the trace's order leaves it
  same-end : (final : ℕ → Bool) (store : State) → ((j : ℕ) → j < length calls → final j ≡ true) → Holds final store → store ≡ state_at m calls (length calls)
  same-end final store all holds =
      same-state (state_at m calls (length calls)) store (size-between m (state_at m calls (length calls)) store (size-at m calls (length calls)) holds.0)
      (λ r. holds.1 r ∙ all_done (footprint m calls) (part_at m calls) final (length calls) r (λ j lt t. all j lt) (λ j lt t. still j r lt t))

  pub reordered : (order : List ℕ) → IsReordering (footprint m calls) (length calls) (λ k. false) order → AnswersAlike m calls m order × (after_order calls m order ≡ state_after m calls)
  reordered order fits = (
    alike-after order (λ j. false) fits.final m fits.taken holds-first,
    same-end fits.final (after_order calls m order) fits.all (holds-after order (λ j. false) fits.final m fits.taken holds-first) ∙ state_at-end m calls,
  )

pub is_order_free : IsOrderFree
is_order_free m calls order is fits = reordered m calls is order fits

pub is_wave_order_free : IsWaveOrderFree
is_wave_order_free m calls wave order is plan each = reordered m calls is order (by_waves (footprint m calls) wave (length calls) (λ k. false) order plan each)

pub is_ready : IsReadiness
is_ready m calls order done k is taken due = needs-due m calls is done k (after_order calls m order) due (holds-after m calls is order (λ j. false) done m taken (holds-first m calls is))
