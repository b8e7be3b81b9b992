-- A trace that is cut into programs, and a history that has its calls.
use Rattle.std.specs.Prelude.{◌≡◌, ◌<◌, ◌++◌, ℕ, Bool, List, [], ◌∷◌, length, map, take, slice_get, Some, true, if◌then◌else◌}
use Rattle.kc_types.specs.Actors.{actor}
use Rattle.kc_types.specs.Configuration.{Configuration}
use Rattle.kc_types.specs.Limits.{call_limit}
use Rattle.kc_types.specs.declared.call.Call.{Call}
use Rattle.kc_types.specs.declared.call.Actor.{Actor}
use Rattle.kc_model.specs.Histories.{same_actor, calls_by}
use Rattle.kc_live.specs.declared.stop.LiveCause.{LiveCause}
use Rattle.kc_live.specs.declared.stop.LiveCause.TheVariants.{NotYours, HistoryFull, Memory, Start, Unsettled, BadActor}
use Rattle.kc_live.specs.Program.{ProgramView, NoneIs, ActorsApart, actors_of}
use Rattle.kc_live.specs.Book.{Recording}
use Rattle.kc_live.specs.Plans.{IsActor, AreActors, IsFirstBad, MayRunTogether, count_of}
use Rattle.kc_live.specs.Stops.{IsLeftHistory}

-- the calls of the actor's program; none if it has no program
abbrev pub program_of : Actor → List ProgramView → List Call
program_of a [] = []
program_of a (p ∷ ps) = if same_actor a p.actor then p.calls else program_of a ps

-- each call is this actor's
abbrev pub AreOf : Actor → List Call → Type 0
AreOf a [] = Unit {0}
AreOf a (call ∷ calls) = (same_actor a (actor call) ≡ true) × AreOf a calls

-- each program has calls of its actor alone
abbrev pub OwnCalls : List ProgramView → Type 0
OwnCalls [] = Unit {0}
OwnCalls (p ∷ ps) = AreOf p.actor p.calls × OwnCalls ps

-- an actor noted after others, if it is not among them
abbrev pub noted : List Actor → Actor → List Actor
noted [] a = a ∷ []
noted (b ∷ bs) a = if same_actor b a then b ∷ bs else b ∷ noted bs a

-- these actors, and after them the others of the calls in the order in which they first appear
abbrev pub appearing : List Actor → List Call → List Actor
appearing seen [] = seen
appearing seen (call ∷ calls) = appearing (noted seen (actor call)) calls

-- one program for each actor, in the order in which the actors first appear, which has the actor's calls in order
pub record IsCut (calls : List Call) (ps : List ProgramView) : Type 0 where
  pub apart : ActorsApart (actors_of ps)
  pub order : actors_of ps ≡ appearing [] calls
  pub own : OwnCalls ps
  pub count : count_of ps ≡ length calls
  pub each : (a : Actor) → program_of a ps ≡ calls_by a calls

-- the program with one call more
abbrev pub grown : ProgramView → Call → ProgramView
grown p call = record { actor = p.actor; calls = p.calls ++ call ∷ [] }

-- the first program of the actor is at this place
pub record IsPlaceOf (ps : List ProgramView) (a : Actor) (i : ℕ) : Type 0 where
  pub program : ProgramView
  pub at : slice_get ps i ≡ Some program
  pub owned : program.actor ≡ a
  pub before : NoneIs a (actors_of (take i ps))

-- the programs with one call more, in the program of its actor, or in a new one if there is none
abbrev pub with_call : Call → List ProgramView → List ProgramView
with_call call [] = record { actor = actor call; calls = call ∷ [] } ∷ []
with_call call (p ∷ ps) = if same_actor p.actor (actor call) then grown p call ∷ ps else p ∷ with_call call ps

-- each actor makes the same calls in the same order: one list is a rearrangement of the other that keeps these orders
abbrev pub KeepsOrders : List Call → List Call → Type 0
KeepsOrders made calls = (a : Actor) → calls_by a made ≡ calls_by a calls

-- the trace may run: nothing is wrong with the programs that it is cut into
abbrev pub MayRun : Configuration → List Call → Type 0
MayRun config calls = (ps : List ProgramView) × IsCut calls ps × MayRunTogether config ps

-- why a trace gives no answer: the core does not have one of its actors, it has more calls than a history, or it may run, and the cause shows only in a run; memory may run out before
abbrev pub StopsTrace : Configuration → List Call → LiveCause → Type 0
StopsTrace config calls (BadActor i) = (ps : List ProgramView) × IsCut calls ps × IsFirstBad config ps i
StopsTrace config calls (NotYours i call) = ⊥
StopsTrace config calls HistoryFull = call_limit < length calls
StopsTrace config calls Memory = Unit {0}
StopsTrace config calls Start = MayRun config calls
StopsTrace config calls Unsettled = MayRun config calls

-- the history that a run of a trace left, for the programs that the trace is cut into
abbrev pub IsLeftOf : Configuration → List Call → Bool → Recording → Type 0
IsLeftOf config calls is_settled left = (ps : List ProgramView) × IsCut calls ps × IsLeftHistory config ps is_settled left

-- who makes each call
abbrev pub callers : List Call → List Actor
callers calls = map actor calls

-- the core does not have the actor of this call, and it is the first such call
pub record IsFirstUnknown (config : Configuration) (calls : List Call) (at : ℕ) : Type 0 where
  pub call : Call
  pub there : slice_get calls at ≡ Some call
  pub unknown : IsActor config (actor call) → ⊥
  pub before : AreActors config (callers (take at calls))

-- a beginning of the calls that shows whether the core has all their actors: if it has those of the beginning, this is all of the calls
pub record IsJudgedPart (config : Configuration) (calls part : List Call) : Type 0 where
  pub rest : List Call
  pub whole : calls ≡ part ++ rest
  pub known : AreActors config (callers part) → rest ≡ []
