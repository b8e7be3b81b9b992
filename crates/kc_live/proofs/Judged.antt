-- A trace of which a beginning shows whether it may run.
use Rattle.std.proofs.Common.{◌≡◌, ◌≢◌, ℕ, zero, suc, ◌+◌, ◌<◌, Bool, true, Option, Some, None, IfSome, List, [], ◌∷◌, ◌++◌, length, map, take, drop, get_or, refl, ap, sym, ◌∙◌, arith, inl, inr, append_assoc}
use Rattle.std.specs.Prelude.{slice_get, is_some}
use Rattle.std.proofs.lemmas.Bool.{cases_Bool}
use Rattle.std.proofs.lemmas.List.{take_more, map-append, append-nil, take-append-drop}
use Rattle.kc_types.specs.Actors.{actor}
use Rattle.kc_types.specs.Configuration.{Configuration}
use Rattle.kc_types.specs.declared.call.Call.{Call}
use Rattle.kc_types.specs.declared.call.Actor.{Actor}
use Rattle.kc_model.specs.Histories.{same_actor}
use Rattle.kc_live.specs.Program.{ProgramView, actors_of}
use Rattle.kc_live.specs.declared.stop.LiveCause.{LiveCause}
use Rattle.kc_live.specs.declared.stop.LiveCause.TheVariants.{NotYours, HistoryFull, Memory, Start, Unsettled, BadActor}
use Rattle.kc_live.specs.Book.{Recording}
use Rattle.kc_live.specs.Plans.{IsActor, AreActors, HaveActors, MayJoin, MayRunTogether, IsFirstBad, stranger_from}
use Rattle.kc_live.specs.Stops.{IsCauseOf, IsLeftHistory, FitsHistory}
use Rattle.kc_live.specs.Cuts.{IsCut, IsFirstUnknown, IsJudgedPart, IsLeftOf, StopsTrace, callers, noted, appearing, with_call, grown}
use Rattle.kc_live.proofs.Actors.{same_actor-true}
use Rattle.kc_live.proofs.Planning.{known_push}
use Rattle.kc_live.proofs.Cuts.{cut-more, strangers-none}

-- the core has all actors of a trace if it has those of its programs
noted-known : (config : Configuration) (seen : List Actor) (a : Actor) → AreActors config (noted seen a) → AreActors config seen × IsActor config a
noted-known config [] a known = (tt, known.0)
noted-known config (b ∷ seen) a known =
    elim (cases_Bool (same_actor b a)) [
      | inl same ↦
          let all : AreActors config (b ∷ seen) = rw same at known in
          (all, rw (← same_actor-true b a same) all.0)
      | inr apart ↦
          let all : AreActors config (b ∷ noted seen a) = rw apart at known in
          let rest = noted-known config seen a all.1 in
          ((all.0, rest.0), rest.1)
    ]

appearing-known : (config : Configuration) (seen : List Actor) (calls : List Call) → AreActors config (appearing seen calls) → AreActors config seen × AreActors config (callers calls)
appearing-known config seen [] known = (known, tt)
appearing-known config seen (call ∷ calls) known =
    let rest = appearing-known config (noted seen (actor call)) calls known in
    let first = noted-known config seen (actor call) rest.0 in
    (first.0, (first.1, rest.1))

cut-known : (config : Configuration) (calls : List Call) (ps : List ProgramView) → IsCut calls ps → AreActors config (actors_of ps) → AreActors config (callers calls)
cut-known config calls ps cut known = (appearing-known config [] calls (rw cut.order at known)).1

-- a call more leaves the actors of earlier programs as they are
actors-before : (call : Call) (ps : List ProgramView) (i : ℕ) (p : ProgramView) → slice_get ps i ≡ Some p → actors_of (take i (with_call call ps)) ≡ actors_of (take i ps)
actors-before call [] i p at = cc
actors-before call (q ∷ ps) zero p at = refl
actors-before call (q ∷ ps) (suc i) p at =
    elim (cases_Bool (same_actor q.actor (actor call))) [
      | inl same ↦ rw same refl
      | inr other ↦ rw other (ap (λ rest. q.actor ∷ rest) (actors-before call ps i p at))
    ]

program-with : (call : Call) (ps : List ProgramView) (i : ℕ) (p : ProgramView) → slice_get ps i ≡ Some p → (q : ProgramView) × (slice_get (with_call call ps) i ≡ Some q) × (q.actor ≡ p.actor)
program-with call [] i p at = cc
program-with call (q ∷ ps) zero p at =
    let is : q ≡ p = cc in
    elim (cases_Bool (same_actor q.actor (actor call))) [
      | inl same ↦ rw same (grown q call, refl, ap (λ (r : ProgramView). r.actor) is)
      | inr other ↦ rw other (q, refl, ap (λ (r : ProgramView). r.actor) is)
    ]
program-with call (q ∷ ps) (suc i) p at =
    elim (cases_Bool (same_actor q.actor (actor call))) [
      | inl same ↦ rw same (p, at, refl)
      | inr other ↦ rw other (program-with call ps i p at)
    ]

-- the first program that is bad stays it
bad-with : (config : Configuration) (call : Call) (ps : List ProgramView) (i : ℕ) → IsFirstBad config ps i → IsFirstBad config (with_call call ps) i
bad-with config call ps i first =
    let now = program-with call ps i first.program first.at in
    let same = actors-before call ps i first.program first.at in
    record {
      program = now.0;
      at = now.1;
      bad = λ joins. first.bad (rw (same, now.2) at joins);
      before = rw same first.before;
    }

cut-rest : (config : Configuration) (part rest : List Call) (ps : List ProgramView) (i : ℕ) → IsCut part ps → IsFirstBad config ps i → (qs : List ProgramView) × IsCut (part ++ rest) qs × IsFirstBad config qs i
cut-rest config part [] ps i cut first = (ps, rw (append-nil part) cut, first)
cut-rest config part (call ∷ rest) ps i cut first =
    rw (← append_assoc part (call ∷ []) rest) (cut-rest config (part ++ call ∷ []) rest (with_call call ps) i (cut-more part ps call cut) (bad-with config call ps i first))

-- a call more of those that the core's actors make
pub callers-more : (config : Configuration) (calls : List Call) (i : ℕ) (call : Call) → call ≡ get_or calls i call → i < length calls → AreActors config (callers (take i calls)) → IsActor config (actor call) → AreActors config (callers (take (i + 1) calls))
callers-more config calls i call is lt known one =
    let more : callers (take (i + 1) calls) ≡ callers (take i calls) ++ actor call ∷ [] =
    ap callers (take_more calls i call lt) ∙ (map-append actor (take i calls) (get_or calls i call ∷ []) ∙ ap (λ (c : Call). callers (take i calls) ++ actor c ∷ []) (sym is)) in
    rw more (known_push config (actor call) (callers (take i calls)) known one)

taken : (config : Configuration) (calls : List Call) (i : ℕ) (call : Call) → slice_get calls i ≡ Some call → AreActors config (callers (take (suc i) calls)) → IsActor config (actor call)
taken config [] i call at known = cc
taken config (c ∷ calls) zero call at known = (let is : c ≡ call = cc in rw (← is) known.0)
taken config (c ∷ calls) (suc i) call at known = taken config calls i call at known.1

-- a trace up to the first call of an actor that the core does not have
pub judged-up-to : (config : Configuration) (calls : List Call) (i : ℕ) → IsFirstUnknown config calls i → IsJudgedPart config calls (take (i + 1) calls)
judged-up-to config calls i first =
    let next : i + 1 ≡ suc i = omega arith in
    record {
      rest = drop (i + 1) calls;
      whole = sym (take-append-drop (i + 1) calls);
      known = λ known. absurd (first.unknown (taken config calls i first.call first.there (rw next at known)));
    }

-- if the core has the actors of the programs, all calls were judged
pub judged-whole : (config : Configuration) (calls part : List Call) (ps : List ProgramView) → IsJudgedPart config calls part → IsCut part ps → AreActors config (actors_of ps) → calls ≡ part
judged-whole config calls part ps judged cut known = judged.whole ∙ (ap (λ rest. part ++ rest) (judged.known (cut-known config part ps cut known)) ∙ append-nil part)

some-none : (i call : ℕ) (found : Option (ℕ × ℕ)) → found ≡ None → found ≡ Some (i, call) → ⊥
some-none i call None none some = cc
some-none i call (Some x) none some = cc

whole-cut : (config : Configuration) (calls part : List Call) (ps : List ProgramView) → IsJudgedPart config calls part → IsCut part ps → MayRunTogether config ps → IsCut calls ps
whole-cut config calls part ps judged cut runs = rw (judged-whole config calls part ps judged cut runs.known) cut

-- why the programs of the part stop is why the trace stops
pub stops-trace : (config : Configuration) (calls part : List Call) (ps : List ProgramView) (cause : LiveCause) → IsJudgedPart config calls part → IsCut part ps → IsCauseOf config ps cause → StopsTrace config calls cause
stops-trace config calls part ps (BadActor i) judged cut stops = (let whole = cut-rest config part judged.rest ps i cut stops in (whole.0, rw judged.whole whole.1, whole.2))
stops-trace config calls part ps (NotYours i call) judged cut stops = some-none i call (stranger_from 0 ps) (strangers-none 0 ps cut.own) stops.1
stops-trace config calls part ps HistoryFull judged cut stops = rw (judged-whole config calls part ps judged cut stops.0.1) (let count = cut.count in let many = stops.2 in omega arith)
stops-trace config calls part ps Memory judged cut stops = tt
stops-trace config calls part ps Start judged cut stops = (ps, whole-cut config calls part ps judged cut stops, stops)
stops-trace config calls part ps Unsettled judged cut stops = (ps, whole-cut config calls part ps judged cut stops, stops)

-- a run that left a history may run
left-runs : (config : Configuration) (ps : List ProgramView) (cause : LiveCause) → IsCauseOf config ps cause → FitsHistory cause true → MayRunTogether config ps
left-runs config ps (BadActor i) stops fits = cc
left-runs config ps (NotYours i call) stops fits = cc
left-runs config ps HistoryFull stops fits = cc
left-runs config ps Memory stops fits = stops
left-runs config ps Start stops fits = stops
left-runs config ps Unsettled stops fits = stops

pub left-of : (config : Configuration) (calls part : List Call) (ps : List ProgramView) (cause : LiveCause) (is_settled : Bool) (history : Option Recording) → IsJudgedPart config calls part → IsCut part ps → IsCauseOf config ps cause
    → FitsHistory cause (is_some history) → IfSome history (IsLeftHistory config ps is_settled) → IfSome history (IsLeftOf config calls is_settled)
left-of config calls part ps cause is_settled None judged cut stops fits left = tt
left-of config calls part ps cause is_settled (Some history) judged cut stops fits left = (ps, whole-cut config calls part ps judged cut (left-runs config ps cause stops fits), left)
