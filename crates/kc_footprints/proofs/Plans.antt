-- The planner's walk over the calls.
use Rattle.std.proofs.Common.{◌≡◌, ℕ, zero, suc, ◌+◌, ◌<◌, ◌≤◌, Bool, true, ◌||◌, nat_lt, List, [], ◌∷◌, ◌++◌, length, get_or, replicate, refl, sym, ◌∙◌, ap, subst, arith, inl, inr, length-append}
use mathlib.Core.Path.{fun_ext}
use Rattle.std.specs.Prelude.{eqb}
use Rattle.std.proofs.Math.Nat.{eq-or-lt_of_le}
use Rattle.std.proofs.lemmas.Bool.{and_parts, eqb-true}
use Rattle.std.proofs.lemmas.List.{get_or_push, get_or_append_left, length-replicate}
use Rattle.kc_footprints.specs.Planned.{ComesJustAfter}
use Rattle.kc_types.specs.declared.resource.Resource.TheVariants as resource
use Rattle.kc_model.specs.Resources.{Resource}
use Rattle.kc_model.proofs.States.Slots.{get_or-same}
use Rattle.kc_footprints.specs.declared.names.Names.{Names}
use Rattle.kc_footprints.specs.LastWaves.{Stamps, IsFound, IsNoted}
use Rattle.kc_footprints.specs.Reach.{has_member, is_at, names_principal, names_at, may_have, has_part, touches, gains_by}
use Rattle.kc_footprints.specs.Planner.{Reached, members_of, is_near, IsExact, IsStart, IsHigh, IsWritten, AreGained, IsInRange, has_pair}
use Rattle.kc_footprints.proofs.Near.{near_same, near_cases}
use Rattle.kc_footprints.proofs.Shapes.{own_of, named_low, the_shape}
use Rattle.kc_footprints.proofs.Steps.{just_after, one_more}
use Rattle.kc_footprints.proofs.Tracked.{Shape, IsNear, AreTracked}

-- the last waves are those of the first n calls
abbrev pub AreLast : ℕ → (ℕ → ℕ → Bool) → List Names → (ℕ → ℕ) → ℕ → Stamps → Type 0
AreLast free start cs wave n s =
    AreTracked (λ k f. is_at (names_at cs k).frame f) (λ k p. names_principal free (names_at cs k) p) (λ k. has_part free (may_have free start cs k)) (touches free start cs) wave (free + 1) n s

-- a plan that has these waves so far
abbrev pub Goes : (ℕ → ℕ) → List ℕ → Type 0
Goes wave waves = (j : ℕ) → j < length waves → wave j ≡ get_or waves j 0

-- the waves of the first calls are planned, whatever those of the later ones are, and h and s are what the planner
-- then has
pub record IsGoing (frames free : ℕ) (start : ℕ → ℕ → Bool) (cs : List Names) (waves : List ℕ) (h : Reached) (s : Stamps) : Type 0 where
  pub planned : (wave : ℕ → ℕ) → Goes wave waves → (k : ℕ) → k < length waves → ComesJustAfter (touches free start cs) wave k
  pub tracked : (wave : ℕ → ℕ) → Goes wave waves → AreLast free start cs wave (length waves) s
  pub low : (j : ℕ) → j < length waves → get_or waves j 0 ≤ length waves
  pub sets : (p f : ℕ) → has_member (members_of h p) f ≡ may_have free start cs (length waves) p f
  pub exact : IsExact (free + 1) free h
  pub frame_len : length s.frame_waves ≡ frames
  pub principal_len : length s.principal_waves ≡ free + 1
  pub reach_len : length s.reach_waves ≡ free + 1

-- past the calls nothing is named
pub in_range_all : (frames free : ℕ) (cs : List Names) → ((k : ℕ) → k < length cs → IsInRange frames free (names_at cs k)) → (k : ℕ) → IsInRange frames free (names_at cs k)
in_range_all frames free [] range k = record { frame = tt; slot = tt }
in_range_all frames free (c ∷ cs) range zero = range 0 (omega arith)
in_range_all frames free (c ∷ cs) range (suc k) = in_range_all frames free cs (λ j low. range (suc j) (omega arith)) k

-- the start
pub going_start : (frames free : ℕ) (pairs : List (ℕ × ℕ)) (cs : List Names) (h : Reached) (s : Stamps) → IsStart (free + 1) free pairs h
    → s.frame_waves ≡ replicate frames 0 → s.principal_waves ≡ replicate (free + 1) 0 → s.reach_waves ≡ replicate (free + 1) 0 → IsGoing frames free (has_pair pairs) cs [] h s
going_start frames free pairs cs h s started frame_waves principal_waves reach_waves = record {
  planned = λ wave agrees k low. absurd (omega arith);
  tracked = λ wave agrees. record {
    frame_bound = λ j f low. absurd (omega arith);
    frame_got = λ f. inl (rw frame_waves (get_or-same frames 0 f));
    principal_bound = λ j p low. absurd (omega arith);
    principal_got = λ p. inl (rw principal_waves (get_or-same (free + 1) 0 p));
    reach_bound = λ j p r below low. absurd (omega arith);
    reach_got = λ p low. inl (rw reach_waves (get_or-same (free + 1) 0 p));
  };
  low = λ j none. absurd (omega arith);
  sets = started.sets;
  exact = started.exact;
  frame_len = rw frame_waves (length-replicate frames 0);
  principal_len = rw principal_waves (length-replicate (free + 1) 0);
  reach_len = rw reach_waves (length-replicate (free + 1) 0);
}

module _ (frames free : ℕ) (start : ℕ → ℕ → Bool) (cs : List Names) (range : (k : ℕ) → IsInRange frames free (names_at cs k)) where
  named_below : (k p : ℕ) → names_principal free (names_at cs k) p ≡ true → p < free + 1
  named_below k = named_low free (names_at cs k) (range k).slot

  near_at : (k : ℕ) (h : Reached) → ((p f : ℕ) → has_member (members_of h p) f ≡ may_have free start cs k p f) → IsExact (free + 1) free h
      → IsNear (λ j f. is_at (names_at cs j).frame f) (λ j p. names_principal free (names_at cs j) p) (λ j. has_part free (may_have free start cs j)) (touches free start cs) (free + 1) k (is_near h)
  near_at k h sets exact = record { common = common; all = all }
    where
      common : (p q : ℕ) → p < free + 1 → q < free + 1 → is_near h p q ≡ true → (r : Resource) × (has_part free (may_have free start cs k) p r ≡ true) × (has_part free (may_have free start cs k) q r ≡ true)
      common p q p_low q_low near =
          elim (near_cases h p q near) [
            | inl same ↦ (let own = own_of free p p_low in (own.0, own.1 (may_have free start cs k), subst (λ (x : ℕ). has_part free (may_have free start cs k) x own.0 ≡ true) same (own.1 (may_have free start cs k))))
            | inr is ↦ elim is [
              | inl forth ↦ (let it = exact.related p q forth in (resource.Frame it.0, sym (sets p it.0) ∙ it.1, sym (sets q it.0) ∙ it.2))
              | inr back ↦ (let it = exact.related q p back in (resource.Frame it.0, sym (sets p it.0) ∙ it.2, sym (sets q it.0) ∙ it.1))
            ]
          ]

      all : (p q : ℕ) (r : Resource) → p < free + 1 → q < free + 1 → has_part free (may_have free start cs k) p r ≡ true → has_part free (may_have free start cs k) q r ≡ true → is_near h p q ≡ true
      all p q (resource.Frame f) p_low q_low hp hq = exact.shared p q f p_low q_low (sets p f ∙ hp) (sets q f ∙ hq)
      all p q (resource.Vm v) p_low q_low hp hq = near_same h p q (eqb-true p v (and_parts (eqb p v) (nat_lt v free) hp).0 ∙ sym (eqb-true q v (and_parts (eqb q v) (nat_lt v free) hq).0))
      all p q resource.Free p_low q_low hp hq = near_same h p q (sym (eqb-true free p hp) ∙ eqb-true free q hq)

  module _ (waves : List ℕ) (h : Reached) (s : Stamps) (n : Names) (high : ℕ) (is : n ≡ names_at cs (length waves)) (going : IsGoing frames free start cs waves h s) (found_n : IsHigh (free + 1) free n h s high) where
    len : length (waves ++ suc high ∷ []) ≡ suc (length waves)
    len = length-append waves (suc high ∷ []) ∙ omega arith

    shape : Shape (λ j f. is_at (names_at cs j).frame f) (λ j p. names_principal free (names_at cs j) p) (λ j. has_part free (may_have free start cs j)) (touches free start cs)
    shape = the_shape free start cs (λ k. (range k).slot)

    -- what the sets say is what the definitions say
    same_reach : ◌≡◌ {A = ℕ → ℕ → Bool} (λ p f. has_member (members_of h p) f) (may_have free start cs (length waves))
    same_reach = fun_ext (λ p. fun_ext (λ f. going.sets p f))

    found : IsFound (λ f. is_at (names_at cs (length waves)).frame f) (λ p. names_principal free (names_at cs (length waves)) p) (may_have free start cs (length waves)) (free + 1) high s
    found =
        subst (λ (r : ℕ → ℕ → Bool). IsFound (λ f. is_at (names_at cs (length waves)).frame f) (λ p. names_principal free (names_at cs (length waves)) p) r (free + 1) high s) same_reach
        (subst (λ (x : Names). IsHigh (free + 1) free x h s high) is found_n)

    earlier : (wave : ℕ → ℕ) → Goes wave (waves ++ suc high ∷ []) → Goes wave waves
    earlier wave goes j low = goes j (rw len (omega arith)) ∙ get_or_append_left waves (suc high ∷ []) 0 j low

    last_is : (wave : ℕ → ℕ) → Goes wave (waves ++ suc high ∷ []) → wave (length waves) ≡ suc high
    last_is wave goes = goes (length waves) (rw len (omega arith)) ∙ get_or_push waves (suc high) 0 (length waves) refl

    just_at : (wave : ℕ → ℕ) → Goes wave (waves ++ suc high ∷ []) → ComesJustAfter (touches free start cs) wave (length waves)
    just_at wave goes =
        just_after (λ j f. is_at (names_at cs j).frame f) (λ j p. names_principal free (names_at cs j) p) (λ j. has_part free (may_have free start cs j)) (touches free start cs) shape
        wave (free + 1) (length waves) s named_below (going.tracked wave (earlier wave goes)) high found (last_is wave goes)

    -- the next wave is at most one past the number of calls
    pub high_low : high ≤ length waves
    high_low =
        let wave : ℕ → ℕ = λ j. get_or (waves ++ suc high ∷ []) j 0 in
        let last = last_is wave (λ j low. refl) in
        elim (just_at wave (λ j low. refl)).just [
          | inl first ↦ omega arith
          | inr it ↦ (let e = it.5 in let same = earlier wave (λ j low. refl) it.0 it.2 in let l = going.low it.0 it.2 in omega arith)
        ]

    -- one more call
    pub going_more : (more : List ℕ) (g : Reached) (t : Stamps) → more ≡ waves ++ suc high ∷ [] → IsWritten (free + 1) free n (suc high) h s t → AreGained (free + 1) free n h g
        → length t.frame_waves ≡ frames → length t.principal_waves ≡ free + 1 → length t.reach_waves ≡ free + 1 → IsGoing frames free start cs more g t
    going_more more g t pushed written_n gained_n frame_len principal_len reach_len = rw pushed record {
      planned = λ wave goes k low.
          let step : k ≤ length waves = let l : k < suc (length waves) = rw len at low in omega arith in
          elim (eq-or-lt_of_le step) [
            | inl same ↦ subst (λ (x : ℕ). ComesJustAfter (touches free start cs) wave x) (sym same) (just_at wave goes)
            | inr below ↦ going.planned wave (earlier wave goes) k below
          ];
      tracked = λ wave goes.
          rw len
          (one_more (λ j f. is_at (names_at cs j).frame f) (λ j p. names_principal free (names_at cs j) p) (λ j. has_part free (may_have free start cs j)) (touches free start cs) shape
          wave (free + 1) (length waves) s named_below (going.tracked wave (earlier wave goes)) (suc high) (is_near h) t (near_at (length waves) h going.sets going.exact) noted (just_at wave goes) (last_is wave goes));
      low = λ j under.
          let step : j ≤ length waves = let l : j < suc (length waves) = rw len at under in omega arith in
          let most = high_low in
          rw len
          (elim (eq-or-lt_of_le step) [
            | inl same ↦ (let e = get_or_push waves (suc high) 0 j (sym same) in omega arith)
            | inr below ↦ (let e = get_or_append_left waves (suc high ∷ []) 0 j below in let l = going.low j below in omega arith)
          ]);
      sets = λ p f. rw len (gained.sets p f ∙ ap (λ (r : ℕ → ℕ → Bool). r p f || gains_by free r (names_at cs (length waves)) (names_at cs (length waves)).gain p f) same_reach);
      exact = gained.exact;
      frame_len = frame_len;
      principal_len = principal_len;
      reach_len = reach_len;
    }
      where
        noted : IsNoted (λ f. is_at (names_at cs (length waves)).frame f) (λ p. names_principal free (names_at cs (length waves)) p) (may_have free start cs (length waves)) (free + 1) (suc high) (is_near h) s t
        noted =
            subst (λ (r : ℕ → ℕ → Bool). IsNoted (λ f. is_at (names_at cs (length waves)).frame f) (λ p. names_principal free (names_at cs (length waves)) p) r (free + 1) (suc high) (is_near h) s t) same_reach
            (subst (λ (x : Names). IsWritten (free + 1) free x (suc high) h s t) is written_n)

        gained : AreGained (free + 1) free (names_at cs (length waves)) h g
        gained = subst (λ (x : Names). AreGained (free + 1) free x h g) is gained_n
