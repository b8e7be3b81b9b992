-- Footprints stay what they are while principals gain more.
use Rattle.std.proofs.Common.{◌≡◌, ℕ, ◌+◌, ◌<◌, Bool, List, [], ◌∷◌, ◌++◌, length, get_or, refl, sym, ◌∙◌, ap, subst, arith, inl, inr}
use Rattle.std.specs.Prelude.{Option, Some, None, IfSome, option_map}
use Rattle.std.proofs.lemmas.Bool.{cases_lt, cond_both}
use Rattle.std.proofs.lemmas.List.{get_or_append_left, get_or_push, length_push, take_all}
use Rattle.kc_footprints.specs.declared.names.Names.{Names}
use Rattle.kc_footprints.specs.declared.footprints.Footprint.{Footprint}
use Rattle.kc_footprints.specs.declared.footprints.Span.{Span}
use Rattle.kc_footprints.specs.Reach.{has_member, may_have, names_at}
use Rattle.kc_footprints.specs.Planner.{Reached, members_of, IsGrown}
use Rattle.kc_footprints.specs.Spans.{IsSpanOf, IsFootprintOf, AreFootprintsOf, free_of, span_of, footprint_of, no_footprint}

module _ (a b : Reached) (grown : IsGrown a b) (size : length b.sets ≡ length a.sets) (before : ℕ → ℕ → Bool) where
  span_kept : (o : Option ℕ) (span : Option Span) → IsSpanOf a.sets before o span → IsSpanOf b.sets before o span
  span_kept o None is = record { there = is.there; principal = is.principal; frames = is.frames; within = tt }
  span_kept o (Some s) is =
      let front = grown s.principal s.length is.within.within in
      record {
        there = is.there;
        principal = is.principal;
        frames = λ f. ap (λ (xs : List ℕ). has_member xs f) front.1 ∙ is.frames f;
        within = record { principal = rw size is.within.principal; within = front.0 };
      }

  footprint_kept : (free : ℕ) (n : Names) (footprint : Footprint) → IsFootprintOf free before n a.sets footprint → IsFootprintOf free before n b.sets footprint
  footprint_kept free n footprint is = record { frame = is.frame; slot = span_kept n.slot footprint.slot is.slot; free = span_kept (free_of free n) footprint.free is.free }

module _ (free : ℕ) (before : ℕ → ℕ → Bool) (sets : List (List ℕ)) (same : (p f : ℕ) → has_member (get_or sets p []) f ≡ before p f) (size : length sets ≡ free + 1) where
  span_new : (o : Option ℕ) → IfSome o (λ p. p < length sets) → IsSpanOf sets before o (option_map (span_of sets) o)
  span_new None low = record { there = refl; principal = λ p. refl; frames = λ f. refl; within = tt }
  span_new (Some p) low = record {
    there = refl;
    principal = λ q. refl;
    frames = λ f. ap (λ (xs : List ℕ). has_member xs f) (take_all (length (get_or sets p [])) (get_or sets p []) (omega arith)) ∙ same p f;
    within = record { principal = low; within = omega arith };
  }

  footprint_new : (n : Names) → IfSome n.slot (λ v. v < free) → IsFootprintOf free before n sets (footprint_of sets free n)
  footprint_new n low = record { frame = refl; slot = span_new n.slot (slot_low n.slot low); free = span_new (free_of free n) free_low }
    where
      slot_low : (o : Option ℕ) → IfSome o (λ v. v < free) → IfSome o (λ v. v < length sets)
      slot_low None low = tt
      slot_low (Some v) low = omega arith

      free_low : IfSome (free_of free n) (λ p. p < length sets)
      free_low = cond_both n.free (Some free) None (λ o. IfSome o (λ p. p < length sets)) (λ yes. omega arith) (λ no. tt)

-- one more call
pub footprints_more : (free : ℕ) (start : ℕ → ℕ → Bool) (cs : List Names) (a b : Reached) (footprints more : List Footprint) (n : Names) → n ≡ names_at cs (length footprints) → IfSome n.slot (λ v. v < free)
    → ((p f : ℕ) → has_member (members_of a p) f ≡ may_have free start cs (length footprints) p f)
    → length a.sets ≡ free + 1 → length b.sets ≡ free + 1 → IsGrown a b → more ≡ footprints ++ footprint_of a.sets free n ∷ []
    → AreFootprintsOf free start cs a.sets footprints → AreFootprintsOf free start cs b.sets more
footprints_more free start cs a b footprints more n is low same size_a size_b grown pushed so_far = rw pushed each
  where
    each : (k : ℕ) → k < length (footprints ++ footprint_of a.sets free n ∷ []) → IsFootprintOf free (may_have free start cs k) (names_at cs k) b.sets (get_or (footprints ++ footprint_of a.sets free n ∷ []) k no_footprint)
    each k under =
        let len = length_push footprints (footprint_of a.sets free n) in
        elim (cases_lt k (length footprints)) [
          | inl old ↦
              rw (get_or_append_left footprints (footprint_of a.sets free n ∷ []) no_footprint k old) (footprint_kept a b grown (size_b ∙ sym size_a) (may_have free start cs k) free (names_at cs k) (get_or footprints k no_footprint) (so_far k old))
          | inr past ↦
              (let e : length footprints ≡ k = omega arith in
              subst (λ (x : ℕ). IsFootprintOf free (may_have free start cs x) (names_at cs x) b.sets (get_or (footprints ++ footprint_of a.sets free n ∷ []) x no_footprint)) e
              (rw (get_or_push footprints (footprint_of a.sets free n) no_footprint (length footprints) refl, sym is)
              (footprint_kept a b grown (size_b ∙ sym size_a) (may_have free start cs (length footprints)) free n (footprint_of a.sets free n)
              (footprint_new free (may_have free start cs (length footprints)) a.sets same size_a n low))))
        ]
