-- The calls of the next wave, with their footprints, can be made side by side.
use Rattle.std.proofs.Common.{ℕ, ◌≡◌, ◌≢◌, ◌<◌, inl, inr, Bool, true, false, ◌&&◌, ◌||◌, nat_lt, nat_eq, eqb-true, Option, Some, None, List, [], ◌∷◌, length, get_or, refl, sym, ap, subst, ◌∙◌, arith}
use Rattle.std.proofs.lemmas.Bool.{cases_lt, ltb-true, lt-ltb, and_parts}
use Rattle.std.proofs.Math.Nat.{eq-or-lt_of_le}
use Rattle.kc_types.specs.Configuration.{slot_count}
use Rattle.kc_types.specs.declared.call.Call.{Call}
use Rattle.kc_types.specs.declared.owner.Owner.TheVariants.{Free, Vm}
use Rattle.kc_types.specs.declared.resource.Resource.TheVariants as resource
use Rattle.kc_types.specs.Slots.{slot_of}
use Rattle.kc_model.specs.State.{State}
use Rattle.kc_model.specs.Lawful.{IsLawful}
use Rattle.kc_model.specs.Next.{next}
use Rattle.kc_model.specs.Resources.{Resource, Resources, IsWithin, need, names_frame, uses_free, of_slot, exists_slot}
use Rattle.kc_model.specs.Footprints.{call_at, reach, footprint}
use Rattle.kc_model.proofs.States.Sizes.{sized-next}
use Rattle.kc_footprints.specs.Reorder.{IsDue, IsTaken}
use Rattle.kc_footprints.proofs.OrderLaws.{rises}
use Rattle.kc_footprints.specs.Commuting.{IsWaves}
use Rattle.kc_footprints.specs.Reordering.{after_order}
use Rattle.kc_footprints.proofs.Reordered.{is_ready}
use Rattle.kc_footprints.proofs.Existing.{reach-low}
use Rattle.kc_parts.specs.Restricted.{exists_in}
use Rattle.kc_replay.specs.Wave.{AreApart, wave_calls, footprints_at}
use Rattle.kc_replay.proofs.Taking.{wave-call, wave-length}

pub config-order : (calls : List Call) (store : State) (order : List ℕ) → (after_order calls store order).config ≡ store.config
config-order calls store [] = refl
config-order calls store (k ∷ ks) = config-order calls (next store (call_at calls k)).1 ks ∙ (sized-next store (call_at calls k)).config

three-low : (a b c : Bool) (n f : ℕ) → (a || b || c) ≡ true → (a ≡ true → f < n) → (b ≡ true → f < n) → (c ≡ true → f < n) → f < n
three-low true b c n f h x y z = x refl
three-low false true c n f h x y z = y refl
three-low false false true n f h x y z = z refl
three-low false false false n f h x y z = cc

module _ (m : State) (calls : List Call) (is : IsLawful m) where
  -- a footprint has only what exists
  pub footprint-exists : (k : ℕ) → IsWithin (footprint m calls k) (exists_in m.config)
  footprint-exists k (resource.Frame f) h =
      lt-ltb f m.config.frames
      (three-low (names_frame (call_at calls k) f && nat_lt f m.config.frames) (of_slot m.config (reach m calls k) (slot_of (call_at calls k)) f) (uses_free (call_at calls k) && reach m calls k Free f) m.config.frames f h
      (λ named. ltb-true f m.config.frames (and_parts (names_frame (call_at calls k) f) (nat_lt f m.config.frames) named).1)
      (by_slot (slot_of (call_at calls k)))
      (λ free. reach-low m calls is k Free f refl (and_parts (uses_free (call_at calls k)) (reach m calls k Free f) free).1))
    where
      by_slot : (named : Option ℕ) → of_slot m.config (reach m calls k) named f ≡ true → f < m.config.frames
      by_slot None of = cc
      by_slot (Some v) of = reach-low m calls is k (Vm v) f refl (and_parts (nat_lt v (slot_count m.config)) (reach m calls k (Vm v) f) of).1
  footprint-exists k (resource.Vm v) h = lt-ltb v (slot_count m.config) (low-slot (slot_of (call_at calls k)) h)
    where
      low-slot : (named : Option ℕ) → exists_slot m.config named v ≡ true → v < slot_count m.config
      low-slot None h = cc
      low-slot (Some w) h =
          let parts = and_parts (nat_lt w (slot_count m.config)) (nat_eq w v) h in
          subst (λ x. x < slot_count m.config) (eqb-true w v parts.1) (ltb-true w (slot_count m.config) parts.0)
  footprint-exists k resource.Free h = refl

  -- the calls of one wave, all of them due after those in the order
  pub apart-in-wave : (wave : ℕ → ℕ) (order : List ℕ) (done : ℕ → Bool) (footprints : ℕ → Resources) (members : List ℕ) (w : ℕ) → IsWaves m calls wave
      → IsTaken (footprint m calls) (length calls) (λ j. false) order done
      → ((i : ℕ) → i < length members → IsDue (footprint m calls) (length calls) done (get_or members i 0))
      → ((i : ℕ) → i < length members → wave (get_or members i 0) ≡ w)
      → ((i j : ℕ) → i < length members → j < length members → i ≢ j → get_or members i 0 ≢ get_or members j 0)
      → ((k : ℕ) (r : Resource) → k < length calls → footprints k r ≡ footprint m calls k r)
      → AreApart (after_order calls m order) (wave_calls calls members) (footprints_at footprints members)
  apart-in-wave wave order done footprints members w plan taken due same other are_footprints = record {
    needs = λ i low r needed.
        let l = below i low in
        is_footprint i l r ∙ is_ready m calls order done (get_or members i 0) is taken (due i l) r (ap (λ call. need (after_order calls m order) call r) (sym (wave-call calls members i l)) ∙ needed);
    exist = λ i low r e.
        let l = below i low in
        ap (λ config. exists_in config r) (config-order calls m order) ∙ footprint-exists (get_or members i 0) r (sym (is_footprint i l r) ∙ e);
    slots = λ i v low e.
        let l = below i low in
        ap (λ config. exists_slot config (slot_of (call_at (wave_calls calls members) i)) v) (config-order calls m order) ∙ ap (λ call. exists_slot m.config (slot_of call) v) (wave-call calls members i l) ∙ sym (is_footprint i l (resource.Vm v)) ∙ e;
    free = λ i low e. let l = below i low in ap uses_free (wave-call calls members i l) ∙ sym (is_footprint i l resource.Free) ∙ e;
    apart = λ i j r il jl differ ei ej.
        let li = below i il in let lj = below j jl in
        side (get_or members i 0) (get_or members j 0) r (due i li).within (due j lj).within (other i j li lj differ) (same i li ∙ sym (same j lj)) (sym (is_footprint i li r) ∙ ei) (sym (is_footprint j lj r) ∙ ej);
  }
    where
      below : (i : ℕ) → i < length (wave_calls calls members) → i < length members
      below i low = rw (wave-length calls members) at low

      is_footprint : (i : ℕ) → i < length members → (r : Resource) → footprints_at footprints members i r ≡ footprint m calls (get_or members i 0) r
      is_footprint i l r = are_footprints (get_or members i 0) r (due i l).within

      side : (j k : ℕ) (r : Resource) → j < length calls → k < length calls → j ≢ k → wave j ≡ wave k → footprint m calls j r ≡ true → footprint m calls k r ≡ true → ⊥
      side j k r hj hk differ e tj tk =
          elim (cases_lt j k) [
            | inl low ↦ let up : wave j < wave k = rises (footprint m calls) wave (λ i s. s) j k r low tj tk (plan j hj) (plan k hk) in omega (arith, up, e)
            | inr high ↦ elim (eq-or-lt_of_le high) [
              | inl is ↦ differ (sym is)
              | inr more ↦ let up : wave k < wave j = rises (footprint m calls) wave (λ i s. s) k j r more tk tj (plan k hk) (plan j hj) in omega (arith, up, e)
            ]
          ]
