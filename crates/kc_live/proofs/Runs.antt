-- The calls of each program are in the history.
use Rattle.std.proofs.Common.{◌≡◌, ℕ, zero, suc, ◌+◌, ◌<◌, Bool, true, false, cond, Option, Some, None, List, [], ◌∷◌, length, get_or, map, take, refl, ap, sym, ◌∙◌, not, arith}
use Rattle.std.specs.List.{position_from}
use Rattle.std.specs.Option.{option_map_or}
use Rattle.std.proofs.lemmas.Iterator.Adapters.{position_from-zero}
use Rattle.kc_types.specs.Configuration.{Configuration}
use Rattle.kc_types.specs.declared.call.Call.{Call}
use Rattle.kc_types.specs.declared.call.Actor.{Actor}
use Rattle.kc_types.specs.Actors.{actor}
use Rattle.kc_live.specs.declared.receipt.Entry.{Entry}
use Rattle.kc_live.specs.declared.receipt.Receipt.{Receipt}
use Rattle.kc_live.specs.declared.program.ThreadStop.{ThreadStop}
use Rattle.kc_live.specs.declared.stop.LiveCause.{LiveCause}
use Rattle.kc_live.specs.declared.stop.LiveCause.TheVariants.{NotYours, HistoryFull, Memory, Start, Unsettled, BadActor}
use Rattle.kc_live.specs.Program.{ProgramView}
use Rattle.kc_live.specs.Book.{VolumeView}
use Rattle.kc_live.specs.Settling.{IsSettled}
use Rattle.kc_live.specs.Program.{receipt_calls, ActorsApart, actors_of, HasCalls, HasBeginnings, HasNoOthers}
use Rattle.kc_live.specs.Stops.{run_cause, IsCauseOf, IsLate}
use Rattle.kc_live.specs.Threads.{AreBeginnings}
use Rattle.kc_model.specs.Histories.{same_actor}
use Rattle.kc_live.specs.Plans.{stranger_in, stranger_from, MayRunTogether}
use Rattle.kc_live.proofs.Actors.{OwnedBy, OwnedRows, AllBy, same_actor-true, settled_by_actors}

none_first : (b : Bool) (i : ℕ) (rest : Option ℕ) → cond (not b) (Some i) rest ≡ None → (b ≡ true) × (rest ≡ None)
none_first true i rest h = (refl, h)
none_first false i rest h = cc

none_of : (o : Option ℕ) (i : ℕ) (rest : Option (ℕ × ℕ)) → option_map_or (λ c. Some (i, c)) o rest ≡ None → (o ≡ None) × (rest ≡ None)
none_of None i rest h = (refl, h)
none_of (Some c) i rest h = cc

own_row : (a : Actor) (i : ℕ) (row : List Receipt) → position_from (λ c. not (same_actor a (actor c))) i (receipt_calls row) ≡ None → OwnedBy a row
own_row a i [] h = tt
own_row a i (r ∷ rs) h =
    let both = none_first (same_actor a (actor r.call)) i (position_from (λ c. not (same_actor a (actor c))) (i + 1) (receipt_calls rs)) h in
    (sym (same_actor-true a (actor r.call) both.0), own_row a (i + 1) rs both.1)

none_here : (b : Bool) (i : ℕ) (rest : Option ℕ) → cond b (Some i) rest ≡ None → (b ≡ false) × (rest ≡ None)
none_here false i rest h = (refl, h)
none_here true i rest h = cc

-- what no call is, no call of a beginning is
none_taken : (test : Call → Bool) (i n : ℕ) (calls : List Call) → position_from test i calls ≡ None → position_from test i (take n calls) ≡ None
none_taken test i zero calls none = refl
none_taken test i (suc n) [] none = refl
none_taken test i (suc n) (call ∷ calls) none =
    let both = none_here (test call) i (position_from test (i + 1) calls) none in
    let rest = none_taken test (i + 1) n calls both.1 in rw (both.0, rest) refl

own_rows : (i : ℕ) (ps : List ProgramView) (rows : List (List Receipt)) → AreBeginnings (map receipt_calls rows) (map (λ p. p.calls) ps) → stranger_from i ps ≡ None → OwnedRows (actors_of ps) rows
own_rows i [] [] begun none = tt
own_rows i [] (row ∷ rows) begun none = absurd begun
own_rows i (p ∷ ps) [] begun none = absurd begun
own_rows i (p ∷ ps) (row ∷ rows) begun none =
    let both = none_of (stranger_in p) i (stranger_from (i + 1) ps) none in
    let test = λ (c : Call). not (same_actor p.actor (actor c)) in
    let from : position_from test 0 (receipt_calls row) ≡ None = ap (position_from test 0) begun.0.1 ∙ none_taken test 0 begun.0.0 p.calls (sym (position_from-zero test p.calls) ∙ both.0) in
    (own_row p.actor 0 row from, own_rows (i + 1) ps rows begun.1 both.1)

has_calls : (h : List Entry) (ps : List ProgramView) (rows : List (List Receipt)) → map receipt_calls rows ≡ map (λ p. p.calls) ps → AllBy h (actors_of ps) rows → HasCalls h ps
has_calls h [] rows same all = tt
has_calls h (p ∷ ps) [] same all = cc
has_calls h (p ∷ ps) (row ∷ rows) same all =
    let first : receipt_calls row ≡ p.calls = cc in
    let rest : map receipt_calls rows ≡ map (λ p. p.calls) ps = cc in (all.0 ∙ first, has_calls h ps rows rest all.1)

own_from : (a : Actor) (i : ℕ) (calls : List Call) (n : ℕ) (call : Call) → position_from (λ c. not (same_actor a (actor c))) i calls ≡ None → n < length calls → call ≡ get_or calls n call → same_actor a (actor call) ≡ true
own_from a i [] n call none lt is = absurd (omega arith)
own_from a i (c ∷ cs) zero call none lt is = rw is (none_first (same_actor a (actor c)) i (position_from (λ c. not (same_actor a (actor c))) (i + 1) cs) none).0
own_from a i (c ∷ cs) (suc n) call none lt is = own_from a (i + 1) cs n call (none_first (same_actor a (actor c)) i (position_from (λ c. not (same_actor a (actor c))) (i + 1) cs) none).1 (omega arith) is

-- a program with no call of another actor has calls of its own alone
pub own_call : (p : ProgramView) (n : ℕ) (call : Call) → stranger_in p ≡ None → n < length p.calls → call ≡ get_or p.calls n call → actor call ≡ p.actor
own_call p n call none lt is =
    let test = λ (c : Call). not (same_actor p.actor (actor c)) in
    sym (same_actor-true p.actor (actor call) (own_from p.actor 0 p.calls n call (sym (position_from-zero test p.calls) ∙ none) lt is))

has_beginnings : (h : List Entry) (ps : List ProgramView) (rows : List (List Receipt)) → AreBeginnings (map receipt_calls rows) (map (λ p. p.calls) ps) → AllBy h (actors_of ps) rows → HasBeginnings h ps
has_beginnings h [] rows begun all = tt
has_beginnings h (p ∷ ps) [] begun all = absurd begun
has_beginnings h (p ∷ ps) (row ∷ rows) begun all = ((begun.0.0, all.0 ∙ begun.0.1), has_beginnings h ps rows begun.1 all.1)

calls_in_rows : {X : Type 0} (items : X → List Receipt) (rows : List X) → map receipt_calls (map items rows) ≡ map (λ row. receipt_calls (items row)) rows
calls_in_rows items [] = refl
calls_in_rows items (row ∷ rows) = ap (λ rest. receipt_calls (items row) ∷ rest) (calls_in_rows items rows)

-- the receipts of a settled history, a row for each program, each row of a beginning of the program's own calls
module _ {X : Type 0} (items : X → List Receipt) (v : VolumeView) (ps : List ProgramView) (rows : List X) (settled : IsSettled v (map items rows))
    (begun : AreBeginnings (map (λ row. receipt_calls (items row)) rows) (map (λ p. p.calls) ps)) (own : stranger_from 0 ps ≡ None) (apart : ActorsApart (actors_of ps)) where
  owned : OwnedRows (actors_of ps) (map items rows)
  owned = own_rows 0 ps (map items rows) (rw (calls_in_rows items rows) begun) own

  by_actors : AllBy v.entries (actors_of ps) (map items rows)
  by_actors = settled_by_actors v (actors_of ps) (map items rows) settled owned apart

  -- if a row has all calls of its program, so has the history
  pub run_calls : map (λ row. receipt_calls (items row)) rows ≡ map (λ p. p.calls) ps → HasCalls v.entries ps
  run_calls same = has_calls v.entries ps (map items rows) (calls_in_rows items rows ∙ same) by_actors

  pub run_begun : HasBeginnings v.entries ps
  run_begun = has_beginnings v.entries ps (map items rows) (rw (calls_in_rows items rows) begun) by_actors

  -- an actor that has no program has no calls
  pub run_others : HasNoOthers v.entries ps
  run_others a none =
      let beside : IsSettled v ([] ∷ map items rows) = record { once = settled.once; match = ((tt, tt), settled.match) } in
      (settled_by_actors v (a ∷ actors_of ps) ([] ∷ map items rows) beside (tt, owned) (none, apart)).0

-- a run with no cause to stop made all calls, and its receipts are settled
pub no_cause : (stop : Option ThreadStop) (is_settled : Bool) → run_cause stop is_settled ≡ None → (stop ≡ None) × (is_settled ≡ true)
no_cause None true none = (refl, refl)
no_cause None false none = cc
no_cause (Some stop) is_settled none = cc

-- a cause that shows only in a run is the cause of programs that may run
pub late_cause : (config : Configuration) (ps : List ProgramView) (cause : LiveCause) → IsLate cause → MayRunTogether config ps → IsCauseOf config ps cause
late_cause config ps (BadActor i) late sound = absurd late
late_cause config ps (NotYours i call) late sound = absurd late
late_cause config ps HistoryFull late sound = absurd late
late_cause config ps Memory late sound = sound
late_cause config ps Start late sound = sound
late_cause config ps Unsettled late sound = sound
