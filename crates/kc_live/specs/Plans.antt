-- What may be wrong with programs before they run.
use Rattle.std.specs.Prelude.{◌≡◌, ℕ, ◌<◌, ◌≤◌, ◌+◌, sum_by, not, Option, Some, None, List, [], ◌∷◌, take, length, position, slice_get}
use Rattle.std.specs.Option.{option_map_or}
use Rattle.kc_types.specs.Actors.{actor}
use Rattle.kc_types.specs.Configuration.{Configuration, slot_count, vcpus_of}
use Rattle.kc_types.specs.Limits.{call_limit}
use Rattle.kc_types.specs.declared.call.Actor.{Actor}
use Rattle.kc_types.specs.declared.call.Actor.TheVariants.{Host, Vcpu}
use Rattle.kc_model.specs.Histories.{same_actor}
use Rattle.kc_live.specs.Program.{ProgramView, NoneIs, ActorsApart, actors_of}

-- the slot exists, and the number is one of a virtual processor
abbrev pub IsActor : Configuration → Actor → Type 0
IsActor config Host = Unit {0}
IsActor config (Vcpu v c) = (v < slot_count config) × (c < vcpus_of config.version)

abbrev pub AreActors : Configuration → List Actor → Type 0
AreActors config [] = Unit {0}
AreActors config (a ∷ rest) = IsActor config a × AreActors config rest

-- each program has an actor of its own, which the core has
abbrev pub HaveActors : Configuration → List ProgramView → Type 0
HaveActors config ps = ActorsApart (actors_of ps) × AreActors config (actors_of ps)

-- no program of the list has the actor of this one, and the core has it
abbrev pub MayJoin : Configuration → List ProgramView → ProgramView → Type 0
MayJoin config ps p = NoneIs p.actor (actors_of ps) × IsActor config p.actor

-- the actor of this program is an earlier one's or none of the core's, and it is the first of which that holds
pub record IsFirstBad (config : Configuration) (ps : List ProgramView) (i : ℕ) : Type 0 where
  pub program : ProgramView
  pub at : slice_get ps i ≡ Some program
  pub bad : MayJoin config (take i ps) program → ⊥
  pub before : HaveActors config (take i ps)

-- the place of the first call that is another actor's
abbrev pub stranger_in : ProgramView → Option ℕ
stranger_in p = position (λ call. not (same_actor p.actor (actor call))) p.calls

-- the first program, counted from this number, with a call of another actor, and its first such call
abbrev pub stranger_from : ℕ → List ProgramView → Option (ℕ × ℕ)
stranger_from i [] = None
stranger_from i (p ∷ ps) = option_map_or (λ call. Some (i, call)) (stranger_in p) (stranger_from (i + 1) ps)

-- how many calls the programs have
abbrev pub count_of : List ProgramView → ℕ
count_of ps = sum_by (λ p. length p.calls) ps

-- the programs may run: each has an actor of its own, which the core has, and calls of this actor alone, and a history has room for all
pub record MayRunTogether (config : Configuration) (ps : List ProgramView) : Type 0 where
  pub apart : ActorsApart (actors_of ps)
  pub known : AreActors config (actors_of ps)
  pub own : stranger_from 0 ps ≡ None
  pub few : count_of ps ≤ call_limit
