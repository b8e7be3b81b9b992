-- Programs: the calls that each actor is to make.
use Rattle.std.specs.Prelude.{◌≡◌, ◌≢◌, ℕ, List, [], ◌∷◌, map, take}
use Rattle.kc_types.specs.declared.call.Call.{Call}
use Rattle.kc_types.specs.declared.call.Actor.{Actor}
use Rattle.kc_model.specs.Histories.{calls_by}
use Rattle.kc_live.specs.declared.receipt.Entry.{Entry}
use Rattle.kc_live.specs.declared.receipt.Receipt.{Receipt}
use Rattle.kc_live.specs.Book.{calls_of}

-- an actor, and its calls in order
pub record ProgramView : Type 0 where
  pub actor : Actor
  pub calls : List Call

abbrev pub actors_of : List ProgramView → List Actor
actors_of ps = map (λ p. p.actor) ps

-- the calls of receipts
abbrev pub receipt_calls : List Receipt → List Call
receipt_calls rs = map (λ r. r.call) rs

-- none of them is this one
abbrev pub NoneIs : Actor → List Actor → Type 0
NoneIs a [] = Unit {0}
NoneIs a (b ∷ bs) = (b ≢ a) × NoneIs a bs

-- no two are the same
abbrev pub ActorsApart : List Actor → Type 0
ActorsApart [] = Unit {0}
ActorsApart (a ∷ rest) = NoneIs a rest × ActorsApart rest

-- the history has just the calls of each program by its actor, in order (program order)
abbrev pub HasCalls : List Entry → List ProgramView → Type 0
HasCalls h [] = Unit {0}
HasCalls h (p ∷ ps) = (calls_by p.actor (calls_of h) ≡ p.calls) × HasCalls h ps

-- each program's calls in the history are a beginning of its own
abbrev pub HasBeginnings : List Entry → List ProgramView → Type 0
HasBeginnings h [] = Unit {0}
HasBeginnings h (p ∷ ps) = ((n : ℕ) × (calls_by p.actor (calls_of h) ≡ take n p.calls)) × HasBeginnings h ps

-- an actor that has no program has no calls in the history
abbrev pub HasNoOthers : List Entry → List ProgramView → Type 0
HasNoOthers h ps = (a : Actor) → NoneIs a (actors_of ps) → calls_by a (calls_of h) ≡ []
