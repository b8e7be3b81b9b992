-- Programs with one call more, and the history of a trace.
use Rattle.std.proofs.Common.{◌≡◌, ◌≢◌, ℕ, zero, suc, ◌+◌, ◌<◌, Bool, true, false, cond, not, Option, Some, None, IfSome, List, [], ◌∷◌, ◌++◌, length, take, set, get_or, refl, ap, sym, ◌∙◌, arith, length-append, inl, inr}
use Rattle.std.specs.List.{position_from}
use Rattle.std.proofs.lemmas.List.{append-nil}
use Rattle.std.proofs.lemmas.List.Sums.{sum_by-cons}
use Rattle.std.proofs.lemmas.Iterator.Adapters.{position_from-zero}
use Rattle.std.proofs.lemmas.Option.{slice_get_within, get_or_from_slice_get}
use Rattle.std.proofs.lemmas.Bool.{cases_Bool, false≢true}
use Rattle.kc_types.specs.Actors.{actor}
use Rattle.kc_types.specs.Configuration.{Configuration}
use Rattle.kc_types.specs.declared.call.Call.{Call}
use Rattle.kc_types.specs.declared.call.Actor.{Actor}
use Rattle.kc_model.specs.Histories.{same_actor, calls_by}
use Rattle.kc_live.specs.declared.receipt.Entry.{Entry}
use Rattle.kc_live.specs.Book.{calls_of}
use Rattle.kc_live.specs.Program.{ProgramView, NoneIs, ActorsApart, actors_of, HasCalls}
use Rattle.kc_live.specs.Plans.{count_of, stranger_in, stranger_from}
use Rattle.kc_live.specs.Cuts.{program_of, AreOf, OwnCalls, IsCut, IsPlaceOf, grown, noted, appearing, with_call, KeepsOrders}
use Rattle.kc_live.proofs.Actors.{same_actor-refl, same_actor-true, same_actor-false}

-- the call, if it is this actor's
abbrev mine : Actor → Call → List Call
mine a call = cond (same_actor a (actor call)) (call ∷ []) []

each-here : (t : Bool) (calls rest : List Call) (call : Call) → rest ≡ rest ++ [] → cond t (calls ++ call ∷ []) rest ≡ cond t calls rest ++ cond t (call ∷ []) []
each-here true calls rest call none = refl
each-here false calls rest call none = none

each-there : (t : Bool) (calls rest more : List Call) (own : List Call) → rest ≡ more ++ own → (t ≡ true → own ≡ []) → cond t calls rest ≡ cond t calls more ++ own
each-there true calls rest more own is none = rw (none refl) (sym (append-nil calls))
each-there false calls rest more own is none = is

none-mine : (a b : Actor) (call : Call) → same_actor b (actor call) ≡ false → same_actor a b ≡ true → mine a call ≡ []
none-mine a b call other same = rw (same_actor-true a b same, other) refl

each-with : (a : Actor) (call : Call) (ps : List ProgramView) → program_of a (with_call call ps) ≡ program_of a ps ++ mine a call
each-with a call [] = refl
each-with a call (p ∷ ps) =
    elim (cases_Bool (same_actor p.actor (actor call))) [
      | inl same ↦
          let is : p.actor ≡ actor call = same_actor-true p.actor (actor call) same in
          rw (same, is) (each-here (same_actor a (actor call)) p.calls (program_of a ps) call (sym (append-nil (program_of a ps))))
      | inr other ↦ rw other (each-there (same_actor a p.actor) p.calls (program_of a (with_call call ps)) (program_of a ps) (mine a call) (each-with a call ps) (none-mine a p.actor call other))
    ]

none-with : (a : Actor) (call : Call) (ps : List ProgramView) → NoneIs a (actors_of ps) → actor call ≢ a → NoneIs a (actors_of (with_call call ps))
none-with a call [] none other = (other, tt)
none-with a call (p ∷ ps) none other =
    elim (cases_Bool (same_actor p.actor (actor call))) [
      | inl same ↦ rw same none
      | inr apart ↦ rw apart (none.0, none-with a call ps none.1 other)
    ]

differs : (a b : Actor) → same_actor a b ≡ false → b ≢ a
differs a b apart same = false≢true (sym apart ∙ (ap (same_actor a) same ∙ same_actor-refl a))

apart-with : (call : Call) (ps : List ProgramView) → ActorsApart (actors_of ps) → ActorsApart (actors_of (with_call call ps))
apart-with call [] apart = (tt, tt)
apart-with call (p ∷ ps) apart =
    elim (cases_Bool (same_actor p.actor (actor call))) [
      | inl same ↦ rw same apart
      | inr other ↦ rw other (none-with p.actor call ps apart.0 (differs p.actor (actor call) other), apart-with call ps apart.1)
    ]

count-with : (call : Call) (ps : List ProgramView) → count_of (with_call call ps) ≡ count_of ps + 1
count-with call [] = refl
count-with call (p ∷ ps) =
    let sum = λ (q : ProgramView). λ (qs : List ProgramView). sum_by-cons (λ (p : ProgramView). length p.calls) q qs in
    elim (cases_Bool (same_actor p.actor (actor call))) [
      | inl same ↦ rw same (omega (arith, sum (grown p call) ps, sum p ps, length-append p.calls (call ∷ [])))
      | inr other ↦ rw other (let rest = count-with call ps in omega (arith, sum p (with_call call ps), sum p ps))
    ]

of-more : (a : Actor) (calls : List Call) (call : Call) → AreOf a calls → same_actor a (actor call) ≡ true → AreOf a (calls ++ call ∷ [])
of-more a [] call own same = (same, tt)
of-more a (c ∷ calls) call own same = (own.0, of-more a calls call own.1 same)

own-with : (call : Call) (ps : List ProgramView) → OwnCalls ps → OwnCalls (with_call call ps)
own-with call [] own = ((same_actor-refl (actor call), tt), tt)
own-with call (p ∷ ps) own =
    elim (cases_Bool (same_actor p.actor (actor call))) [
      | inl same ↦ rw same (of-more p.actor p.calls call own.0 same, own.1)
      | inr other ↦ rw other (own.0, own-with call ps own.1)
    ]

by-append : (a : Actor) (calls : List Call) (call : Call) → calls_by a (calls ++ call ∷ []) ≡ calls_by a calls ++ mine a call
by-append a [] call = refl
by-append a (c ∷ calls) call =
    elim (cases_Bool (same_actor a (actor c))) [
      | inl same ↦ rw same (ap (λ rest. c ∷ rest) (by-append a calls call))
      | inr other ↦ rw other (by-append a calls call)
    ]

-- a trace that is cut, one call longer
order-with : (call : Call) (ps : List ProgramView) → actors_of (with_call call ps) ≡ noted (actors_of ps) (actor call)
order-with call [] = refl
order-with call (p ∷ ps) =
    elim (cases_Bool (same_actor p.actor (actor call))) [
      | inl same ↦ rw same refl
      | inr other ↦ rw other (ap (λ others. p.actor ∷ others) (order-with call ps))
    ]

appearing-more : (seen : List Actor) (calls : List Call) (call : Call) → appearing seen (calls ++ call ∷ []) ≡ noted (appearing seen calls) (actor call)
appearing-more seen [] call = refl
appearing-more seen (first ∷ calls) call = appearing-more (noted seen (actor first)) calls call

pub cut-more : (calls : List Call) (ps : List ProgramView) (call : Call) → IsCut calls ps → IsCut (calls ++ call ∷ []) (with_call call ps)
cut-more calls ps call cut = record {
  apart = apart-with call ps cut.apart;
  order = order-with call ps ∙ (ap (λ seen. noted seen (actor call)) cut.order ∙ sym (appearing-more [] calls call));
  own = own-with call ps cut.own;
  count = (let more = count-with call ps in let before = cut.count in omega (arith, length-append calls (call ∷ [])));
  each = λ a. each-with a call ps ∙ (ap (λ cs. cs ++ mine a call) (cut.each a) ∙ sym (by-append a calls call));
}

place-found : (call : Call) (ps : List ProgramView) (i : ℕ) (p : ProgramView) → NoneIs (actor call) (actors_of (take i ps)) → i < length ps → p ≡ get_or ps i p → p.actor ≡ actor call → set ps i (grown p call) ≡ with_call call ps
place-found call [] i p none lt at same = absurd (omega arith)
place-found call (q ∷ ps) zero p none lt at same =
    let is : same_actor q.actor (actor call) ≡ true = rw (← at, same) (same_actor-refl (actor call)) in
    rw (is, ← at) refl
place-found call (q ∷ ps) (suc i) p none lt at same =
    rw (same_actor-false q.actor (actor call) (λ e. none.0 (sym e))) (ap (λ rest. q ∷ rest) (place-found call ps i p none.1 (omega arith) at same))

-- the call goes to the first program of its actor
pub placed : (call : Call) (ps : List ProgramView) (i : ℕ) (p : ProgramView) → p ≡ get_or ps i p → IsPlaceOf ps (actor call) i → set ps i (grown p call) ≡ with_call call ps
placed call ps i p is place =
    let same : p ≡ place.program = is ∙ get_or_from_slice_get ps i place.program p place.at in
    place-found call ps i p place.before (slice_get_within ps i place.program place.at) is (ap (λ (q : ProgramView). q.actor) same ∙ place.owned)

-- or to a new one
pub place-none : (call : Call) (ps : List ProgramView) → NoneIs (actor call) (actors_of ps) → with_call call ps ≡ ps ++ record { actor = actor call; calls = call ∷ [] } ∷ []
place-none call [] none = refl
place-none call (q ∷ ps) none = rw (same_actor-false q.actor (actor call) (λ e. none.0 (sym e))) (ap (λ rest. q ∷ rest) (place-none call ps none.1))

stranger-none : (a : Actor) (i : ℕ) (calls : List Call) → AreOf a calls → position_from (λ c. not (same_actor a (actor c))) i calls ≡ None
stranger-none a i [] own = refl
stranger-none a i (c ∷ calls) own = rw own.0 (stranger-none a (i + 1) calls own.1)

pub strangers-none : (i : ℕ) (ps : List ProgramView) → OwnCalls ps → stranger_from i ps ≡ None
strangers-none i [] own = refl
strangers-none i (p ∷ ps) own =
    let test = λ (c : Call). not (same_actor p.actor (actor c)) in
    let none : stranger_in p ≡ None = position_from-zero test p.calls ∙ stranger-none p.actor 0 p.calls own.0 in
    rw none (strangers-none (i + 1) ps own.1)

-- the calls of an actor in a history that has just those of the programs
by-programs : (a : Actor) (h : List Entry) (ps : List ProgramView) → HasCalls h ps → (NoneIs a (actors_of ps) → calls_by a (calls_of h) ≡ []) → calls_by a (calls_of h) ≡ program_of a ps
by-programs a h [] has others = others tt
by-programs a h (p ∷ ps) has others =
    elim (cases_Bool (same_actor a p.actor)) [
      | inl same ↦ rw (same, same_actor-true a p.actor same) has.0
      | inr apart ↦ rw apart (by-programs a h ps has.1 (λ none. others (differs a p.actor apart, none)))
    ]

pub keeps-orders : (h : List Entry) (ps : List ProgramView) (calls : List Call) → IsCut calls ps → HasCalls h ps → ((a : Actor) → NoneIs a (actors_of ps) → calls_by a (calls_of h) ≡ []) → KeepsOrders (calls_of h) calls
keeps-orders h ps calls cut has others a = by-programs a h ps has (others a) ∙ cut.each a
