-- What events say of a life with one event more after the others.
use Rattle.std.proofs.Common.{ℕ, ◌≡◌, ◌≤◌, ◌+◌, ◌-◌, ◌==◌, ◌&&◌, ◌||◌, max, Bool, true, false, cond, List, [], ◌∷◌, ◌++◌, length, map, filter, Option, Some, None, refl, sym, ap, ap₂, ◌∙◌, arith, append-nil, append_assoc, length-append}
use Rattle.std.specs.Option.{option_or}
use Rattle.std.specs.Cmp.{nat_eq_equiv}
use Rattle.std.proofs.lemmas.Bool.{eqb-true}
use Rattle.std.proofs.lemmas.List.{map-append}
use Rattle.std.proofs.lemmas.List.Elements.{filter-append, filter_map-append}
use Rattle.kc_types.specs.declared.slot.Phase.{Phase}
use Rattle.kc_types.specs.declared.slot.Phase.TheVariants.{Empty, Booting, Active, Dead}
use Rattle.kc_types.specs.declared.custody.Change.TheVariants as change
use Rattle.kc_types.specs.declared.custody.Event.{Event}
use Rattle.kc_types.specs.declared.custody.Event.TheVariants as event
use Rattle.kc_types.specs.declared.custody.Sharing.{Sharing}
use Rattle.kc_model.specs.Resources.{is_in}
use Rattle.kc_model.specs.Custody.{same_phase, nothing_measured}
use Rattle.kc_model.specs.Lives.{is_turn, life_in, line_of_turn, measurement_told, is_gain, is_loss, frames_gained, count_different, most_beyond, end_of_sharing, sharing_from, sharings}
use Rattle.kc_custody.specs.Growing.{first_measurement, is_open, has_member, with_member, AreMembers}

pub or-none : {X : Type 0} (o : Option X) → option_or o None ≡ o
or-none None = refl
or-none (Some x) = refl

-- whether a life is open with one event more, and its events
pub open-more : (v : ℕ) (xs : List Event) (e : Event) → is_open v (xs ++ e ∷ []) ≡ (is_open v xs && is_open v (e ∷ []))
open-more v [] e = refl
open-more v (x ∷ xs) e = by_turns (is_turn v Booting x) (is_turn v Empty x) (open-more v xs e)
  where
    by_turns : (begins ends : Bool) → is_open v (xs ++ e ∷ []) ≡ (is_open v xs && is_open v (e ∷ []))
        → cond begins false (cond ends false (is_open v (xs ++ e ∷ []))) ≡ (cond begins false (cond ends false (is_open v xs)) && is_open v (e ∷ []))
    by_turns true ends rest = refl
    by_turns false true rest = refl
    by_turns false false rest = rest

pub life-open : (v : ℕ) (xs : List Event) (e : Event) → is_open v xs ≡ true → life_in v (xs ++ e ∷ []) ≡ life_in v xs ++ life_in v (e ∷ [])
life-open v [] e alive = refl
life-open v (x ∷ xs) e alive = by_turns (is_turn v Booting x) (is_turn v Empty x) alive (life-open v xs e)
  where
    by_turns : (begins ends : Bool) → cond begins false (cond ends false (is_open v xs)) ≡ true → (is_open v xs ≡ true → life_in v (xs ++ e ∷ []) ≡ life_in v xs ++ life_in v (e ∷ []))
        → cond begins [] (cond ends (x ∷ []) (x ∷ life_in v (xs ++ e ∷ []))) ≡ cond begins [] (cond ends (x ∷ []) (x ∷ life_in v xs)) ++ life_in v (e ∷ [])
    by_turns true ends alive rest = cc
    by_turns false true alive rest = cc
    by_turns false false alive rest = ap (λ ys. x ∷ ys) (rest alive)

pub life-closed : (v : ℕ) (xs : List Event) (e : Event) → is_open v xs ≡ false → life_in v (xs ++ e ∷ []) ≡ life_in v xs
life-closed v [] e closed = cc
life-closed v (x ∷ xs) e closed = by_turns (is_turn v Booting x) (is_turn v Empty x) closed (life-closed v xs e)
  where
    by_turns : (begins ends : Bool) → cond begins false (cond ends false (is_open v xs)) ≡ false → (is_open v xs ≡ false → life_in v (xs ++ e ∷ []) ≡ life_in v xs)
        → cond begins [] (cond ends (x ∷ []) (x ∷ life_in v (xs ++ e ∷ []))) ≡ cond begins [] (cond ends (x ∷ []) (x ∷ life_in v xs))
    by_turns true ends closed rest = refl
    by_turns false true closed rest = refl
    by_turns false false closed rest = ap (λ ys. x ∷ ys) (rest closed)

-- lines and measurements come from the events before, if there are any
pub line-more : (v : ℕ) (phase : Phase) (xs zs : List Event) → line_of_turn v phase (xs ++ zs) ≡ option_or (line_of_turn v phase xs) (line_of_turn v phase zs)
line-more v phase [] zs = refl
line-more v phase (event.Change (change.Phase told) ∷ xs) zs = by_turn ((told.vm == v) && same_phase told.phase phase) (line-more v phase xs zs)
  where
    by_turn : (turns : Bool) → line_of_turn v phase (xs ++ zs) ≡ option_or (line_of_turn v phase xs) (line_of_turn v phase zs)
        → cond turns (Some told.line) (line_of_turn v phase (xs ++ zs)) ≡ option_or (cond turns (Some told.line) (line_of_turn v phase xs)) (line_of_turn v phase zs)
    by_turn true rest = refl
    by_turn false rest = rest
line-more v phase (event.Change (change.Frame told) ∷ xs) zs = line-more v phase xs zs
line-more v phase (event.Read w ∷ xs) zs = line-more v phase xs zs
line-more v phase (event.Write w ∷ xs) zs = line-more v phase xs zs

pub measurement-more : (v : ℕ) (xs zs : List Event) → measurement_told v (xs ++ zs) ≡ first_measurement (line_of_turn v Active xs) (line_of_turn v Dead xs) (measurement_told v xs) (measurement_told v zs)
measurement-more v [] zs = refl
measurement-more v (event.Change (change.Phase told) ∷ xs) zs = by_turns ((told.vm == v) && same_phase told.phase Active) ((told.vm == v) && same_phase told.phase Dead) (measurement-more v xs zs)
  where
    by_turns : (active dead : Bool) → measurement_told v (xs ++ zs) ≡ first_measurement (line_of_turn v Active xs) (line_of_turn v Dead xs) (measurement_told v xs) (measurement_told v zs)
        → cond (cond active true dead) told.measurement (measurement_told v (xs ++ zs))
        ≡ first_measurement (cond active (Some told.line) (line_of_turn v Active xs)) (cond dead (Some told.line) (line_of_turn v Dead xs)) (cond (cond active true dead) told.measurement (measurement_told v xs)) (measurement_told v zs)
    by_turns true dead rest = refl
    by_turns false true rest = by_line (line_of_turn v Active xs)
      where
        by_line : (line : Option ℕ) → told.measurement ≡ first_measurement line (Some told.line) told.measurement (measurement_told v zs)
        by_line None = refl
        by_line (Some n) = refl
    by_turns false false rest = rest
measurement-more v (event.Change (change.Frame told) ∷ xs) zs = measurement-more v xs zs
measurement-more v (event.Read w ∷ xs) zs = measurement-more v xs zs
measurement-more v (event.Write w ∷ xs) zs = measurement-more v xs zs

-- events without a measurement after the others
pub measurement-kept : (v : ℕ) (xs : List Event) → first_measurement (line_of_turn v Active xs) (line_of_turn v Dead xs) (measurement_told v xs) nothing_measured ≡ measurement_told v xs
measurement-kept v xs = sym (measurement-more v xs []) ∙ ap (measurement_told v) (append-nil xs)

pub counted-more : (p : Event → Bool) (xs zs : List Event) → length (filter p (xs ++ zs)) ≡ length (filter p xs) + length (filter p zs)
counted-more p xs zs = ap length (filter-append p xs zs) ∙ length-append (filter p xs) (filter p zs)

pub gained-more : (v : ℕ) (xs zs : List Event) → frames_gained v (xs ++ zs) ≡ frames_gained v xs ++ frames_gained v zs
gained-more v xs zs = filter_map-append _ xs zs

-- as many are there at most as at some point, the last one among them
pub most-covers : (v : ℕ) (xs : List Event) → length (filter (is_gain v) xs) ≤ most_beyond v xs + length (filter (is_loss v) xs)
most-covers v [] = omega arith
most-covers v (x ∷ xs) = by_kind (is_gain v x) (is_loss v x) (most-covers v xs)
  where
    by_kind : (gains loses : Bool) → length (filter (is_gain v) xs) ≤ most_beyond v xs + length (filter (is_loss v) xs)
        → length (cond gains (x ∷ filter (is_gain v) xs) (filter (is_gain v) xs)) ≤ cond gains (most_beyond v xs + 1) (cond loses (most_beyond v xs - 1) (most_beyond v xs)) + length (cond loses (x ∷ filter (is_loss v) xs) (filter (is_loss v) xs))
    by_kind true true rest = omega (arith, rest)
    by_kind true false rest = omega (arith, rest)
    by_kind false true rest = omega (arith, rest)
    by_kind false false rest = rest

-- an event cannot be both
not-both : (v : ℕ) (e : Event) → is_gain v e ≡ true → is_loss v e ≡ false
not-both v e gains = by_event v e gains
  where
    by_event : (v : ℕ) (e : Event) → is_gain v e ≡ true → is_loss v e ≡ false
    by_event v (event.Change (change.Frame told)) gains = grind arith
    by_event v (event.Change (change.Phase told)) gains = cc
    by_event v (event.Read w) gains = cc
    by_event v (event.Write w) gains = cc

pub most-more : (v : ℕ) (xs : List Event) (e : Event) → most_beyond v (xs ++ e ∷ []) ≡ max (most_beyond v xs) (length (filter (is_gain v) xs) + length (filter (is_gain v) (e ∷ [])) - (length (filter (is_loss v) xs) + length (filter (is_loss v) (e ∷ []))))
most-more v [] e = by_kind (is_gain v e) (is_loss v e) (not-both v e)
  where
    by_kind : (gains loses : Bool) → (gains ≡ true → loses ≡ false) → cond gains (0 + 1) (cond loses (0 - 1) 0) ≡ max 0 (0 + length (cond gains (e ∷ []) []) - (0 + length (cond loses (e ∷ []) [])))
    by_kind true true apart = let never : true ≡ false = apart refl in cc
    by_kind true false apart = refl
    by_kind false true apart = refl
    by_kind false false apart = refl
most-more v (x ∷ xs) e = by_kind (is_gain v x) (is_loss v x) (not-both v x) (most-more v xs e)
  where
    by_kind : (gains loses : Bool) → (gains ≡ true → loses ≡ false)
        → most_beyond v (xs ++ e ∷ []) ≡ max (most_beyond v xs) (length (filter (is_gain v) xs) + length (filter (is_gain v) (e ∷ [])) - (length (filter (is_loss v) xs) + length (filter (is_loss v) (e ∷ []))))
        → cond gains (most_beyond v (xs ++ e ∷ []) + 1) (cond loses (most_beyond v (xs ++ e ∷ []) - 1) (most_beyond v (xs ++ e ∷ [])))
        ≡ max (cond gains (most_beyond v xs + 1) (cond loses (most_beyond v xs - 1) (most_beyond v xs))) (length (cond gains (x ∷ filter (is_gain v) xs) (filter (is_gain v) xs)) + length (filter (is_gain v) (e ∷ [])) - (length (cond loses (x ∷ filter (is_loss v) xs) (filter (is_loss v) xs)) + length (filter (is_loss v) (e ∷ []))))
    by_kind true true apart rest = let never : true ≡ false = apart refl in cc
    by_kind true false apart rest = omega (arith, rest)
    by_kind false true apart rest = omega (arith, rest)
    by_kind false false apart rest = rest

-- different numbers, with one more after the others
or-false : (b : Bool) → (b || false) ≡ b
or-false true = refl
or-false false = refl

or-more : (same held last : Bool) → (same || (held || last)) ≡ ((same || held) || last)
or-more true held last = refl
or-more false held last = refl

in-more : (xs : List ℕ) (x f : ℕ) → is_in (xs ++ x ∷ []) f ≡ (is_in xs f || x == f)
in-more [] x f = or-false (x == f)
in-more (y ∷ xs) x f = ap (λ b. y == f || b) (in-more xs x f) ∙ or-more (y == f) (is_in xs f) (x == f)

pub different-more : (xs : List ℕ) (x : ℕ) → count_different (xs ++ x ∷ []) ≡ cond (is_in xs x) (count_different xs) (count_different xs + 1)
different-more [] x = refl
different-more (y ∷ xs) x = grind (arith, in-more xs x y, different-more xs x)

has-more : (xs : List ℕ) (x f : ℕ) → has_member (xs ++ x ∷ []) f ≡ (has_member xs f || x == f)
has-more [] x f = or-false (f == x) ∙ nat_eq_equiv.symm f x
has-more (y ∷ xs) x f = ap (λ b. f == y || b) (has-more xs x f) ∙ or-more (f == y) (has_member xs f) (x == f)

pub members-more : (numbers members : List ℕ) (x : ℕ) → AreMembers numbers members → AreMembers (numbers ++ x ∷ []) (with_member members x)
members-more numbers members x are = by_member (has_member members x) refl
  where
    counts : (held : Bool) → has_member members x ≡ held → count_different (numbers ++ x ∷ []) ≡ cond held (count_different numbers) (count_different numbers + 1)
    counts held is = different-more numbers x ∙ ap (λ (b : Bool). cond b (count_different numbers) (count_different numbers + 1)) (sym (are.same x) ∙ is)

    by_member : (held : Bool) → has_member members x ≡ held → AreMembers (numbers ++ x ∷ []) (cond held members (members ++ x ∷ []))
    by_member true held = record {
      count = are.count ∙ sym (counts true held);
      same = λ f. are.same f ∙ already (is_in numbers f) (x == f) (λ same. sym (are.same f) ∙ ap (has_member members) (sym (eqb-true x f same)) ∙ held) ∙ sym (in-more numbers x f);
    }
      where
        already : (was is : Bool) → (is ≡ true → was ≡ true) → was ≡ (was || is)
        already true is gives = refl
        already false true gives = gives refl
        already false false gives = refl
    by_member false held = record {
      count = length-append members (x ∷ []) ∙ ap (λ n. n + 1) are.count ∙ sym (counts false held);
      same = λ f. has-more members x f ∙ ap (λ b. b || x == f) (are.same f) ∙ sym (in-more numbers x f);
    }

-- a stretch ends with the first event that ends it
pub end-more : (f : ℕ) (xs zs : List Event) → end_of_sharing f (xs ++ zs) ≡ option_or (end_of_sharing f xs) (end_of_sharing f zs)
end-more f [] zs = refl
end-more f (event.Change (change.Frame told) ∷ xs) zs = by_end ((told.frame == f) && (told.after.share == 0)) (end-more f xs zs)
  where
    by_end : (ends : Bool) → end_of_sharing f (xs ++ zs) ≡ option_or (end_of_sharing f xs) (end_of_sharing f zs)
        → cond ends (Some told.line) (end_of_sharing f (xs ++ zs)) ≡ option_or (cond ends (Some told.line) (end_of_sharing f xs)) (end_of_sharing f zs)
    by_end true rest = refl
    by_end false rest = rest
end-more f (event.Change (change.Phase told) ∷ xs) zs = end-more f xs zs
end-more f (event.Read w ∷ xs) zs = end-more f xs zs
end-more f (event.Write w ∷ xs) zs = end-more f xs zs

-- a stretch of some events with one more after them
abbrev pub ended_with : Event → Sharing → Sharing
ended_with e stretch = record stretch { to = option_or stretch.to (end_of_sharing stretch.frame (e ∷ [])) }

from-more : (v : ℕ) (x : Event) (xs : List Event) (e : Event) → sharing_from v x (xs ++ e ∷ []) ≡ map (ended_with e) (sharing_from v x xs)
from-more v (event.Change (change.Frame told)) xs e = grind (arith, end-more told.frame xs (e ∷ []))
from-more v (event.Change (change.Phase told)) xs e = refl
from-more v (event.Read w) xs e = refl
from-more v (event.Write w) xs e = refl

pub shared-more : (v : ℕ) (xs : List Event) (e : Event) → sharings v (xs ++ e ∷ []) ≡ map (ended_with e) (sharings v xs) ++ cond (is_open v xs) (sharings v (e ∷ [])) []
shared-more v [] e = refl
shared-more v (x ∷ xs) e = by_turns (is_turn v Booting x) (is_turn v Empty x) (shared-more v xs e)
  where
    by_turns : (begins ends : Bool) → sharings v (xs ++ e ∷ []) ≡ map (ended_with e) (sharings v xs) ++ cond (is_open v xs) (sharings v (e ∷ [])) []
        → cond begins [] (cond ends [] (sharing_from v x (xs ++ e ∷ []) ++ sharings v (xs ++ e ∷ [])))
        ≡ map (ended_with e) (cond begins [] (cond ends [] (sharing_from v x xs ++ sharings v xs))) ++ cond (cond begins false (cond ends false (is_open v xs))) (sharings v (e ∷ [])) []
    by_turns true ends rest = refl
    by_turns false true rest = refl
    by_turns false false rest = ap₂ ◌++◌ (from-more v x xs e) rest ∙ sym (append_assoc (map (ended_with e) (sharing_from v x xs)) (map (ended_with e) (sharings v xs)) (cond (is_open v xs) (sharings v (e ∷ [])) []))
        ∙ ap (λ ys. ys ++ cond (is_open v xs) (sharings v (e ∷ [])) []) (sym (map-append (ended_with e) (sharing_from v x xs) (sharings v xs)))
