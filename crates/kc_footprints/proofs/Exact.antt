-- Footprints say what the definitions say.
use Rattle.std.proofs.Common.{◌≡◌, ℕ, ◌+◌, ◌<◌, ◌≤◌, Bool, true, ◌&&◌, List, [], length, map, get_or, refl, sym, ◌∙◌, subst, arith}
use Rattle.std.specs.List.{IsDistinct}
use Rattle.std.specs.Prelude.{eqb, Option, Some, None, IfSome, is_some}
use Rattle.std.proofs.lemmas.Bool.Decides.{nat_tests}
use Rattle.std.proofs.lemmas.Bool.{cond_both, eq-eqb}
use Rattle.std.proofs.lemmas.List.{length-map}
use Rattle.std.proofs.lemmas.List.Folds.{list_any_at}
use Rattle.kc_types.specs.Limits.{frame_limit, slot_limit}
use Rattle.kc_types.specs.Configuration.{Configuration, slot_count}
use Rattle.kc_types.specs.declared.call.Call.{Call}
use Rattle.kc_types.specs.declared.resource.Resource.TheVariants as resource
use Rattle.kc_model.specs.State.{State}
use Rattle.kc_model.specs.Resources.{Resource}
use Rattle.kc_model.specs.Footprints.{footprint}
use Rattle.kc_footprints.specs.declared.names.Names.{Names}
use Rattle.kc_footprints.specs.declared.footprints.Footprint.{Footprint}
use Rattle.kc_footprints.specs.declared.footprints.Span.{Span}
use Rattle.kc_footprints.specs.Naming.{names_of}
use Rattle.kc_footprints.specs.Reach.{has_member, reach_of, may_have, names_at, touches}
use Rattle.kc_footprints.specs.Owned.{IsOwned}
use Rattle.kc_footprints.specs.Planner.{has_pair, HaveFramesBelow}
use Rattle.kc_footprints.specs.Spans.{footprint_has, no_footprint, free_of, IsSpanOf, IsThere, IsFootprintOf, AreFootprintsOf, AreThere}
use Rattle.kc_footprints.proofs.Existing.{may_have_low}
use Rattle.kc_footprints.proofs.Carried.{touches_is}
use Rattle.kc_footprints.proofs.Waves.{names_range}

span_low : (sets : List (List ℕ)) (before : ℕ → ℕ → Bool) (n : ℕ) (o : Option ℕ) (span : Option Span) → IfSome o (λ p. p < n) → n ≤ slot_limit → IsSpanOf sets before o span
    → IfSome span (λ s. s.principal < slot_limit)
span_low sets before n (Some p) (Some s) low few is = grind (arith, nat_tests, is.principal p)
span_low sets before n None (Some s) low few is = let none = is.there in cc
span_low sets before n o None low few is = tt

module _ (config : Configuration) (calls : List Call) (pairs : List (ℕ × ℕ)) (sets : List (List ℕ)) (kept : List Footprint)
    (are : AreFootprintsOf (slot_count config) (has_pair pairs) (map (names_of config) calls) sets kept) (count : length kept ≡ length calls) where
  frame_low : (n : ℕ) → n ≤ frame_limit → (o p : Option ℕ) → p ≡ o → IfSome o (λ f. f < n) → IfSome p (λ f. f < frame_limit)
  frame_low n few o None e low = tt
  frame_low n few o (Some f) e low = let l : f < n = subst (λ (q : Option ℕ). IfSome q (λ x. x < n)) (sym e) low in omega arith

  -- the footprints have only numbers that exist, each once
  pub are_there : HaveFramesBelow config.frames pairs → config.frames ≤ frame_limit → slot_count config ≤ slot_limit → length sets ≡ slot_count config + 1
      → ((p f : ℕ) → has_member (get_or sets p []) f ≡ may_have (slot_count config) (has_pair pairs) (map (names_of config) calls) (length (map (names_of config) calls)) p f)
      → ((p : ℕ) → IsDistinct eqb (get_or sets p [])) → AreThere sets kept
  are_there exist frames slots size same once = record { low = low; once = once; each = each }
    where
      low : (p i : ℕ) → i < length (get_or sets p []) → get_or (get_or sets p []) i 0 < frame_limit
      low p i under =
          let f : ℕ = get_or (get_or sets p []) i 0 in
          let in_set : has_member (get_or sets p []) (get_or (get_or sets p []) i 0) ≡ true = list_any_at (eqb (get_or (get_or sets p []) i 0)) (get_or sets p []) i 0 under (eq-eqb (get_or (get_or sets p []) i 0) (get_or (get_or sets p []) i 0) refl) in
          let l : get_or (get_or sets p []) i 0 < config.frames =
          may_have_low (slot_count config) config.frames (has_pair pairs) (map (names_of config) calls) exist (λ k few. (names_range config calls k few).frame) (length (map (names_of config) calls)) p
          (get_or (get_or sets p []) i 0) (omega arith) (sym (same p (get_or (get_or sets p []) i 0)) ∙ in_set) in
          omega arith

      each : (k : ℕ) → k < length kept → IsThere sets (get_or kept k no_footprint)
      each k under =
          let is = are k under in
          let found : Footprint = get_or kept k no_footprint in
          let n : Names = names_at (map (names_of config) calls) k in
          let before = may_have (slot_count config) (has_pair pairs) (map (names_of config) calls) k in
          let range = names_range config calls k (let e = length-map calls (names_of config) in omega arith) in
          record {
            frame = frame_low config.frames frames n.frame found.frame is.frame range.frame;
            slot = is.slot.within;
            slot_low = span_low sets before (slot_count config) n.slot found.slot range.slot slots is.slot;
            free = is.free.within;
          }

-- a footprint is the call's
pub footprint_is : (m : State) (calls : List Call) (pairs : List (ℕ × ℕ)) → IsOwned m pairs → (sets : List (List ℕ)) (kept : List Footprint)
    → AreFootprintsOf (slot_count m.config) (has_pair pairs) (map (names_of m.config) calls) sets kept → length kept ≡ length calls
    → (k : ℕ) (x : Resource) → k < length calls → footprint_has sets (get_or kept k no_footprint) x ≡ footprint m calls k x
footprint_is m calls pairs owned sets kept are count k x low = by x ∙ touches_is m calls pairs owned k x low
  where
    is : IsFootprintOf (slot_count m.config) (may_have (slot_count m.config) (has_pair pairs) (map (names_of m.config) calls) k) (names_at (map (names_of m.config) calls) k) sets (get_or kept k no_footprint)
    is = are k (rw count low)

    n : Names
    n = names_at (map (names_of m.config) calls) k

    before : ℕ → ℕ → Bool
    before = may_have (slot_count m.config) (has_pair pairs) (map (names_of m.config) calls) k

    free_reach : (f : ℕ) → reach_of before (free_of (slot_count m.config) n) f ≡ (n.free && before (slot_count m.config) f)
    free_reach f =
        cond_both n.free (Some (slot_count m.config)) None (λ o. reach_of before o f ≡ (n.free && before (slot_count m.config) f)) (λ yes. rw yes refl) (λ no. rw no refl)

    by : (x : Resource) → footprint_has sets (get_or kept k no_footprint) x ≡ touches (slot_count m.config) (has_pair pairs) (map (names_of m.config) calls) k x
    by (resource.Frame f) = rw (is.frame, is.slot.frames f, is.free.frames f, free_reach f) refl
    by (resource.Vm v) = is.slot.principal v
    by resource.Free = is.free.there ∙ cond_both n.free (Some (slot_count m.config)) None (λ o. is_some o ≡ n.free) (λ yes. sym yes) (λ no. sym no)
