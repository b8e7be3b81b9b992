-- What a footprint lists.
use Rattle.std.proofs.Common.{◌≡◌, ℕ, zero, suc, ◌+◌, ◌<◌, ◌≤◌, Bool, true, false, not, ◌&&◌, ◌||◌, cond, nat_lt, List, [], ◌∷◌, ◌++◌, length, map, take, get_or, refl, sym, ◌∙◌, ap, arith}
use Rattle.std.specs.Prelude.{eqb, Option, Some, None, is_some, option_to_list}
use Rattle.std.specs.List.{AllByRecursion, IsDistinct, filter, list_any, position_or_len}
use Rattle.std.proofs.lemmas.Bool.{eqb-true, eq-eqb, and_right, cases_Bool, cond_both, or_parts, or_from, or_left, or_right}
use Rattle.std.proofs.Math.Bool.{or-false}
use Rattle.std.proofs.lemmas.Bool.Decides.{nat_tests, leb_tells, eqb_tells}
use Rattle.std.proofs.lemmas.List.{append_assoc, map-append}
use Rattle.std.proofs.lemmas.List.Elements.{filter_more}
use Rattle.std.proofs.lemmas.List.Folds.{list_any-append}
use Rattle.std.proofs.lemmas.Cmp.{nat_eq_equiv}
use Rattle.std.proofs.lemmas.Map.Keys.{IsDistinct-head, IsDistinct-tail, IsDistinct-cons}
use Rattle.std.proofs.lemmas.Map.Views.{any-filter_same}
use Rattle.indexmap.proofs.MapLemmas.{distinct-take}
use Rattle.kc_types.specs.declared.resource.Resource.TheVariants as resource
use Rattle.kc_model.specs.Resources.{Resource, is_wanted, same_resource}
use Rattle.kc_footprints.specs.declared.footprints.Footprint.{Footprint}
use Rattle.kc_footprints.specs.declared.footprints.Span.{Span}
use Rattle.kc_footprints.specs.Reach.{has_member, is_at}
use Rattle.kc_footprints.specs.Spans.{has_frame, is_of, footprint_has, numbers_of, frames_of, frame_part, principal_part, slot_part, slot_itself, free_part, free_itself}

-- whether the first n hold f, by the place of f
pub first_by_place : (xs : List ℕ) (f n : ℕ) → n ≤ length xs → has_member (take n xs) f ≡ nat_lt (position_or_len (eqb f) xs) n
first_by_place [] f n low = let e : n ≡ 0 = omega arith in rw e refl
first_by_place (x ∷ xs) f zero low = grind (arith, nat_tests)
first_by_place (x ∷ xs) f (suc n) low = grind (arith, nat_tests, first_by_place xs f n (omega arith))

pub ruleset places = (leb_tells, eqb_tells, first_by_place)

-- one more frame, or one that is listed already
pub listed_more : (test : ℕ → Bool) (xs : List ℕ) (i m : ℕ) (b : Bool) (before mid : List Resource) → i < length xs → get_or xs i 0 ≡ m → test m ≡ b
    → mid ≡ before ++ map resource.Frame (filter test (take i xs)) → mid ++ cond b (resource.Frame m ∷ []) [] ≡ before ++ map resource.Frame (filter test (take (i + 1) xs))
listed_more test xs i m b before mid low at is so_far =
    rw (so_far, filter_more test xs i 0 low, at, is, map-append resource.Frame (filter test (take i xs)) (cond b (m ∷ []) [])) (append_assoc before _ _ ∙ ap (λ rs. before ++ (map resource.Frame (filter test (take i xs)) ++ rs)) (by b))
  where
    by : (b : Bool) → cond b (resource.Frame m ∷ []) [] ≡ map resource.Frame (cond b (m ∷ []) [])
    by true = refl
    by false = refl

-- whether a resource is one of these frames
abbrev is_among : List ℕ → Resource → Bool
is_among xs (resource.Frame f) = has_member xs f
is_among xs r = false

frames_wanted : (xs : List ℕ) (r : Resource) → is_wanted (map resource.Frame xs) r ≡ is_among xs r
frames_wanted [] (resource.Frame f) = refl
frames_wanted [] r = refl
frames_wanted (x ∷ xs) (resource.Frame f) = ap (λ b. eqb f x || b) (frames_wanted xs (resource.Frame f))
frames_wanted (x ∷ xs) r = frames_wanted xs r

kept_frames : (test : ℕ → Bool) (xs : List ℕ) (f : ℕ) → is_wanted (map resource.Frame (filter test xs)) (resource.Frame f) ≡ (test f && has_member xs f)
kept_frames test xs f = frames_wanted (filter test xs) (resource.Frame f) ∙ any-filter_same (eqb f) test (test f) (λ g same. ap test (sym (eqb-true f g same))) xs

equal_same : (r : Resource) → same_resource r r ≡ true
equal_same (resource.Frame f) = eq-eqb f f refl
equal_same (resource.Vm v) = eq-eqb v v refl
equal_same resource.Free = refl

none_once : IsDistinct same_resource []
unfolding IsDistinct
none_once = tt

once_cons : (r : Resource) (rs : List Resource) → is_wanted rs r ≡ false → IsDistinct same_resource rs → IsDistinct same_resource (r ∷ rs)
once_cons r rs none = IsDistinct-cons same_resource r rs (absent rs none)
  where
    absent : (ts : List Resource) → is_wanted ts r ≡ false → AllByRecursion (λ t. same_resource r t ≡ false) ts
    absent [] h = tt
    absent (t ∷ ts) h = let parts = or_parts (same_resource r t) (is_wanted ts r) h in (parts.0, absent ts parts.1)

once_head : {X : Type 0} (e : X → X → Bool) (r : X) (rs : List X) → IsDistinct e (r ∷ rs) → list_any (e r) rs ≡ false
once_head {X = X} e r rs once = absent rs (IsDistinct-head e r rs once)
  where
    absent : (ts : List X) → AllByRecursion (λ t. e r t ≡ false) ts → list_any (e r) ts ≡ false
    absent [] all = refl
    absent (t ∷ ts) all = or_from (e r t) (list_any (e r) ts) all.0 (absent ts all.1)

once_both : (rs ts : List Resource) → IsDistinct same_resource rs → IsDistinct same_resource ts → ((r : Resource) → is_wanted rs r ≡ true → is_wanted ts r ≡ false) → IsDistinct same_resource (rs ++ ts)
once_both [] ts first second apart = second
once_both (r ∷ rs) ts first second apart =
    once_cons r (rs ++ ts)
    (list_any-append (same_resource r) rs ts
    ∙ or_from (is_wanted rs r) (is_wanted ts r) (once_head same_resource r rs first) (apart r (or_left (same_resource r r) (is_wanted rs r) (equal_same r))))
    (once_both rs ts (IsDistinct-tail same_resource r rs first) second (λ t h. apart t (or_right (same_resource t r) (is_wanted rs t) h)))

once_frames : (test : ℕ → Bool) (xs : List ℕ) → IsDistinct eqb xs → IsDistinct same_resource (map resource.Frame (filter test xs))
once_frames test [] once = none_once
once_frames test (x ∷ xs) once =
    let rest = once_frames test xs (IsDistinct-tail eqb x xs once) in
    let none : is_wanted (map resource.Frame (filter test xs)) (resource.Frame x) ≡ false =
    kept_frames test xs x ∙ and_right (test x) (has_member xs x) (once_head eqb x xs once) in
    cond_both (test x) (x ∷ filter test xs) (filter test xs) (λ ys. IsDistinct same_resource (map resource.Frame ys))
    (λ kept. once_cons (resource.Frame x) (map resource.Frame (filter test xs)) none rest) (λ left. rest)

-- the parts of a footprint
module _ (sets : List (List ℕ)) where
  frame_has : (frame : Option ℕ) (f : ℕ) → is_wanted (frame_part frame) (resource.Frame f) ≡ is_at frame f
  frame_has None f = refl
  frame_has (Some g) f = grind (arith, nat_tests)

  part_has : (itself : Span → Resource) → ((s : Span) (f : ℕ) → same_resource (resource.Frame f) (itself s) ≡ false) → (frame : Option ℕ) (other span : Option Span) (f : ℕ)
      → is_wanted (principal_part sets itself frame other span) (resource.Frame f) ≡ (not (is_at frame f || has_frame sets other f) && has_frame sets span f)
  part_has itself no_frame frame other None f = sym (and_right (not (is_at frame f || has_frame sets other f)) false refl)
  part_has itself no_frame frame other (Some s) f = rw (no_frame s f) (kept_frames (λ g. not (is_at frame g || has_frame sets other g)) (take s.length (get_or sets s.principal [])) f)

  slot_slot : (frame : Option ℕ) (slot : Option Span) (v : ℕ) → is_wanted (slot_part sets frame slot) (resource.Vm v) ≡ is_of slot v
  slot_slot frame None v = refl
  slot_slot frame (Some s) v = ap (λ b. eqb v s.principal || b) (frames_wanted (numbers_of sets frame None s) (resource.Vm v)) ∙ flipped v s.principal
    where
      flipped : (v w : ℕ) → (eqb v w || false) ≡ eqb w v
      flipped v w = grind (arith, nat_tests)

  free_slot : (frame : Option ℕ) (slot free : Option Span) (v : ℕ) → is_wanted (free_part sets frame slot free) (resource.Vm v) ≡ false
  free_slot frame slot None v = refl
  free_slot frame slot (Some s) v = frames_wanted (numbers_of sets frame slot s) (resource.Vm v)

  slot_free : (frame : Option ℕ) (slot : Option Span) → is_wanted (slot_part sets frame slot) resource.Free ≡ false
  slot_free frame None = refl
  slot_free frame (Some s) = frames_wanted (numbers_of sets frame None s) resource.Free

  free_free : (frame : Option ℕ) (slot free : Option Span) → is_wanted (free_part sets frame slot free) resource.Free ≡ is_some free
  free_free frame slot None = refl
  free_free frame slot (Some s) = refl

  frame_once : (frame : Option ℕ) → IsDistinct same_resource (frame_part frame)
  frame_once None = none_once
  frame_once (Some f) = once_cons (resource.Frame f) [] refl none_once

  part_once : ((p : ℕ) → IsDistinct eqb (get_or sets p [])) → (itself : Span → Resource) → ((s : Span) (xs : List ℕ) → is_among xs (itself s) ≡ false) → (frame : Option ℕ) (other span : Option Span)
      → IsDistinct same_resource (principal_part sets itself frame other span)
  part_once once itself no_frame frame other None = none_once
  part_once once itself no_frame frame other (Some s) =
      let front : IsDistinct eqb (take s.length (get_or sets s.principal [])) = distinct-take nat_eq_equiv s.length (get_or sets s.principal []) (once s.principal) in
      once_cons (itself s) (frames_of sets frame other s) (frames_wanted (numbers_of sets frame other s) (itself s) ∙ no_frame s (numbers_of sets frame other s))
      (once_frames (λ f. not (is_at frame f || has_frame sets other f)) (take s.length (get_or sets s.principal [])) front)

  module _ (footprint : Footprint) where
    abbrev first : List Resource
    first = frame_part footprint.frame ++ slot_part sets footprint.frame footprint.slot

    abbrev pub footprint_items : List Resource
    footprint_items = first ++ free_part sets footprint.frame footprint.slot footprint.free

    slot_has : (f : ℕ) → is_wanted (slot_part sets footprint.frame footprint.slot) (resource.Frame f) ≡ (not (is_at footprint.frame f || false) && has_frame sets footprint.slot f)
    slot_has f = part_has slot_itself (λ s g. refl) footprint.frame None footprint.slot f

    free_has : (f : ℕ) → is_wanted (free_part sets footprint.frame footprint.slot footprint.free) (resource.Frame f) ≡ (not (is_at footprint.frame f || has_frame sets footprint.slot f) && has_frame sets footprint.free f)
    free_has f = part_has free_itself (λ s g. refl) footprint.frame footprint.slot footprint.free f

    first_has : (r : Resource) → is_wanted first r ≡ (is_wanted (frame_part footprint.frame) r || is_wanted (slot_part sets footprint.frame footprint.slot) r)
    first_has r = list_any-append (same_resource r) (frame_part footprint.frame) (slot_part sets footprint.frame footprint.slot)

    -- the listed resources are exactly what the footprint has
    pub members_are : (r : Resource) → is_wanted footprint_items r ≡ footprint_has sets footprint r
    members_are r = list_any-append (same_resource r) first (free_part sets footprint.frame footprint.slot footprint.free) ∙ ap (λ b. b || is_wanted (free_part sets footprint.frame footprint.slot footprint.free) r) (first_has r) ∙ by r
      where
        by : (r : Resource) → ((is_wanted (frame_part footprint.frame) r || is_wanted (slot_part sets footprint.frame footprint.slot) r) || is_wanted (free_part sets footprint.frame footprint.slot footprint.free) r) ≡ footprint_has sets footprint r
        by (resource.Frame f) = rw (frame_has footprint.frame f, slot_has f, free_has f) (grind (arith, cases_Bool (is_at footprint.frame f), cases_Bool (has_frame sets footprint.slot f)))
        by (resource.Vm v) =
            rw (frames_wanted (option_to_list footprint.frame) (resource.Vm v), slot_slot footprint.frame footprint.slot v, free_slot footprint.frame footprint.slot footprint.free v) (or-false (is_of footprint.slot v))
        by resource.Free = rw (frames_wanted (option_to_list footprint.frame) resource.Free, slot_free footprint.frame footprint.slot, free_free footprint.frame footprint.slot footprint.free) refl

    -- each is listed once
    pub members_once : ((p : ℕ) → IsDistinct eqb (get_or sets p [])) → IsDistinct same_resource footprint_items
    members_once once =
        once_both first (free_part sets footprint.frame footprint.slot footprint.free)
        (once_both (frame_part footprint.frame) (slot_part sets footprint.frame footprint.slot) (frame_once footprint.frame) (part_once once slot_itself (λ s xs. refl) footprint.frame None footprint.slot) no_more)
        (part_once once free_itself (λ s xs. refl) footprint.frame footprint.slot footprint.free) none_more
      where
        no_more : (r : Resource) → is_wanted (frame_part footprint.frame) r ≡ true → is_wanted (slot_part sets footprint.frame footprint.slot) r ≡ false
        no_more (resource.Frame f) h = slot_has f ∙ rw (sym (frame_has footprint.frame f) ∙ h) refl
        no_more (resource.Vm v) h = let no = frames_wanted (option_to_list footprint.frame) (resource.Vm v) in cc
        no_more resource.Free h = slot_free footprint.frame footprint.slot

        none_more : (r : Resource) → is_wanted first r ≡ true → is_wanted (free_part sets footprint.frame footprint.slot footprint.free) r ≡ false
        none_more (resource.Frame f) h =
            let was = rw (frame_has footprint.frame f, slot_has f) at (sym (first_has (resource.Frame f)) ∙ h) in
            free_has f ∙ grind (arith, cases_Bool (is_at footprint.frame f), cases_Bool (has_frame sets footprint.slot f))
        none_more (resource.Vm v) h = free_slot footprint.frame footprint.slot footprint.free v
        none_more resource.Free h =
            let no : is_wanted first resource.Free ≡ false = first_has resource.Free ∙ rw (frames_wanted (option_to_list footprint.frame) resource.Free, slot_free footprint.frame footprint.slot) refl in cc
