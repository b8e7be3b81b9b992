-- What the planner's numbers say is what the definitions say.
use Rattle.std.proofs.Common.{◌≡◌, ℕ, zero, suc, ◌<◌, ◌≤◌, Bool, false, ◌&&◌, ◌||◌, nat_lt, List, length, map, refl, sym, ◌∙◌, ap, arith, inl, inr}
use Rattle.std.specs.Prelude.{eqb, Option, Some, None}
use Rattle.std.proofs.lemmas.Bool.{cond_both, ltb-true}
use Rattle.std.proofs.lemmas.Bool.Decides.{nat_tests}
use Rattle.std.proofs.lemmas.List.{get_or-map}
use Rattle.std.proofs.Math.Bool.{or_assoc}
use Rattle.kc_footprints.specs.Planned.{ComesJustAfter}
use Rattle.kc_types.specs.Configuration.{Configuration, slot_count}
use Rattle.kc_types.specs.declared.call.Call.{Call}
use Rattle.kc_types.specs.declared.call.Call.TheVariants.{Give, HostFault, HostRead, HostWrite, Remap, Map, Drop, Clear}
use Rattle.kc_types.specs.declared.owner.Owner.{Owner}
use Rattle.kc_types.specs.declared.owner.Owner.TheVariants as owner
use Rattle.kc_types.specs.declared.resource.Resource.TheVariants as resource
use Rattle.kc_types.specs.Slots.{slot_of}
use Rattle.kc_model.specs.State.{State}
use Rattle.kc_model.specs.Resources.{Resource, names_frame, uses_free, of_slot, exists_slot, touched}
use Rattle.kc_model.specs.Footprints.{call_at, gains, footprint}
use Rattle.kc_model.specs.Footprints as model
use Rattle.kc_footprints.specs.Naming.{named_frame, gain_of, below, names_of}
use Rattle.kc_footprints.specs.Reach.{is_at, names_at, reach_of, gains_by, may_have, touched_by, touches}
use Rattle.kc_footprints.specs.Owned.{IsOwned}
use Rattle.kc_footprints.specs.Planner.{has_pair}

pub differs : (v n : ℕ) → v < n → eqb n v ≡ false
differs v n low = grind (arith, nat_tests)

pub at_below : (n x y : ℕ) → is_at (below n (Some x)) y ≡ (nat_lt x n && eqb x y)
at_below n x y = cond_both (nat_lt x n) (Some x) None (λ o. is_at o y ≡ (nat_lt x n && eqb x y)) (λ less. rw less refl) (λ past. rw past refl)

-- the first test holds if the second number is below n
pub low_too : (n x y : ℕ) → y < n → (nat_lt x n && eqb x y) ≡ eqb x y
low_too n x y low = grind (arith, nat_tests)

-- no number below n is n
pub not_past : (n : ℕ) (o : Option ℕ) → is_at (below n o) n ≡ false
not_past n None = refl
not_past n (Some x) = at_below n x n ∙ grind (arith, nat_tests)

named_is : (n : ℕ) (call : Call) (f : ℕ) → is_at (below n (named_frame call)) f ≡ (names_frame call f && nat_lt f n)
named_is n (Give g) f = grind (arith, nat_tests, at_below n g f)
named_is n (HostFault g) f = grind (arith, nat_tests, at_below n g f)
named_is n (HostRead g off len) f = grind (arith, nat_tests, at_below n g f)
named_is n (HostWrite g off bytes) f = grind (arith, nat_tests, at_below n g f)
named_is n (Remap v i g) f = grind (arith, nat_tests, at_below n g f)
named_is n (Map v c g) f = grind (arith, nat_tests, at_below n g f)
named_is n call f = refl

module _ (config : Configuration) (held : Owner → ℕ → Bool) (r : ℕ → ℕ → Bool)
    (same_slot : (v f : ℕ) → v < slot_count config → r v f ≡ held (owner.Vm v) f) (same_free : (f : ℕ) → r (slot_count config) f ≡ held owner.Free f) where
  reach_is : (o : Option ℕ) (f : ℕ) → reach_of r (below (slot_count config) o) f ≡ of_slot config held o f
  reach_is None f = refl
  reach_is (Some v) f =
      cond_both (nat_lt v (slot_count config)) (Some v) None (λ o. reach_of r o f ≡ (nat_lt v (slot_count config) && held (owner.Vm v) f))
      (λ less. rw less (same_slot v f (ltb-true v (slot_count config) less))) (λ past. rw past refl)

  pub gains_slot : (call : Call) (w f : ℕ) → w < slot_count config → gains_by (slot_count config) r (names_of config call) (gain_of call) w f ≡ gains config held call (owner.Vm w) f
  gains_slot (Give g) w f low = grind (arith, nat_tests)
  gains_slot (Remap v i g) w f low = grind (arith, nat_tests, at_below (slot_count config) v w, at_below config.frames g f)
  gains_slot (Map v c g) w f low = grind (arith, nat_tests, at_below (slot_count config) v w, at_below config.frames g f)
  gains_slot (Drop v c g) w f low = grind (arith, nat_tests)
  gains_slot (Clear v) w f low = grind (arith, nat_tests)
  gains_slot call w f low = refl

  pub gains_free : (call : Call) (f : ℕ) → gains_by (slot_count config) r (names_of config call) (gain_of call) (slot_count config) f ≡ gains config held call owner.Free f
  gains_free (Give g) f = grind (arith, nat_tests, at_below config.frames g f)
  gains_free (Remap v i g) f = rw (not_past (slot_count config) (Some v)) refl
  gains_free (Map v c g) f = rw (not_past (slot_count config) (Some v)) refl
  gains_free (Drop v c g) f = grind (arith, nat_tests, reach_is (Some v) f)
  gains_free (Clear v) f = grind (arith, nat_tests, reach_is (Some v) f)
  gains_free call f = refl

  -- what is touched by the planner's numbers is what is touched
  touched_is : (call : Call) (x : Resource) → touched_by (slot_count config) r (names_of config call) x ≡ touched config held call x
  touched_is call (resource.Frame f) = rw (named_is config.frames call f, reach_is (slot_of call) f, same_free f)
      (sym (or_assoc (names_frame call f && nat_lt f config.frames) (of_slot config held (slot_of call) f) (uses_free call && held owner.Free f)))
  touched_is call (resource.Vm v) = at_exists (slot_of call)
    where
      at_exists : (o : Option ℕ) → is_at (below (slot_count config) o) v ≡ exists_slot config o v
      at_exists None = refl
      at_exists (Some x) = at_below (slot_count config) x v
  touched_is call resource.Free = refl

pub names_are : (config : Configuration) (calls : List Call) (k : ℕ) → k < length calls → names_at (map (names_of config) calls) k ≡ names_of config (call_at calls k)
names_are config calls k low = get_or-map (names_of config) calls k _ _ low

module _ (m : State) (calls : List Call) (pairs : List (ℕ × ℕ)) (owned : IsOwned m pairs) where
  pub record IsSame (k : ℕ) : Type 0 where
    pub by_slot : (v f : ℕ) → v < slot_count m.config → may_have (slot_count m.config) (has_pair pairs) (map (names_of m.config) calls) k v f ≡ model.reach m calls k (owner.Vm v) f
    pub by_free : (f : ℕ) → may_have (slot_count m.config) (has_pair pairs) (map (names_of m.config) calls) k (slot_count m.config) f ≡ model.reach m calls k owner.Free f

  pub same_reach : (k : ℕ) → k ≤ length calls → IsSame k
  same_reach zero low = record { by_slot = owned.by_slot; by_free = owned.by_free }
  same_reach (suc k) low =
      let so_far = same_reach k (omega arith) in
      let is = names_are m.config calls k (omega arith) in
      record {
        by_slot = λ v f there.
            rw (is, so_far.by_slot v f there)
            (ap (λ (x : Bool). model.reach m calls k (owner.Vm v) f || x)
            (gains_slot m.config (model.reach m calls k) (may_have (slot_count m.config) (has_pair pairs) (map (names_of m.config) calls) k) so_far.by_slot so_far.by_free (call_at calls k) v f there));
        by_free = λ f.
            rw (is, so_far.by_free f)
            (ap (λ (x : Bool). model.reach m calls k owner.Free f || x)
            (gains_free m.config (model.reach m calls k) (may_have (slot_count m.config) (has_pair pairs) (map (names_of m.config) calls) k) so_far.by_slot so_far.by_free (call_at calls k) f));
      }

  pub touches_is : (k : ℕ) (x : Resource) → k < length calls → touches (slot_count m.config) (has_pair pairs) (map (names_of m.config) calls) k x ≡ footprint m calls k x
  touches_is k x low =
      let so_far = same_reach k (omega arith) in
      rw (names_are m.config calls k low)
      (touched_is m.config (model.reach m calls k) (may_have (slot_count m.config) (has_pair pairs) (map (names_of m.config) calls) k) so_far.by_slot so_far.by_free (call_at calls k) x)

  -- a plan over the planner's numbers is a plan over resources
  pub carried : (wave : ℕ → ℕ) (k : ℕ) → k < length calls → ComesJustAfter (touches (slot_count m.config) (has_pair pairs) (map (names_of m.config) calls)) wave k → ComesJustAfter (footprint m calls) wave k
  carried wave k low it = record {
    above = λ j x before tj tk. it.above j x before (touches_is j x (omega arith) ∙ tj) (touches_is k x low ∙ tk);
    just =
        elim it.just [
          | inl first ↦ inl first
          | inr later ↦ inr (later.0, later.1, later.2, sym (touches_is later.0 later.1 (let l = later.2 in omega arith)) ∙ later.3, sym (touches_is k later.1 low) ∙ later.4, later.5)
        ];
  }
