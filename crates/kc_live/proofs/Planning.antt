-- Programs that each have an actor of their own, one program longer.
use Rattle.std.proofs.Common.{◌≡◌, ◌≢◌, ℕ, ◌+◌, ◌<◌, List, [], ◌∷◌, ◌++◌, length, take, get_or, sym, ap, ◌∙◌}
use Rattle.std.proofs.lemmas.List.{take_more, map-append}
use Rattle.kc_types.specs.Configuration.{Configuration}
use Rattle.kc_types.specs.declared.call.Actor.{Actor}
use Rattle.kc_live.specs.Program.{ProgramView, NoneIs, ActorsApart, actors_of}
use Rattle.kc_live.specs.Plans.{IsActor, AreActors, HaveActors, MayJoin}

none_push : (a b : Actor) (owners : List Actor) → NoneIs a owners → b ≢ a → NoneIs a (owners ++ b ∷ [])
none_push a b [] none apart = (apart, tt)
none_push a b (o ∷ owners) none apart = (none.0, none_push a b owners none.1 apart)

apart_push : (a : Actor) (owners : List Actor) → ActorsApart owners → NoneIs a owners → ActorsApart (owners ++ a ∷ [])
apart_push a [] apart none = (tt, tt)
apart_push a (o ∷ owners) apart none = (none_push o a owners apart.0 (λ e. none.0 (sym e)), apart_push a owners apart.1 none.1)

pub known_push : (config : Configuration) (a : Actor) (owners : List Actor) → AreActors config owners → IsActor config a → AreActors config (owners ++ a ∷ [])
known_push config a [] known one = (one, tt)
known_push config a (o ∷ owners) known one = (known.0, known_push config a owners known.1 one)

actors_more : (ps : List ProgramView) (i : ℕ) (p : ProgramView) → p ≡ get_or ps i p → i < length ps → actors_of (take (i + 1) ps) ≡ actors_of (take i ps) ++ p.actor ∷ []
actors_more ps i p is lt =
    ap actors_of (take_more ps i p lt) ∙ (map-append (λ (p : ProgramView). p.actor) (take i ps) (get_or ps i p ∷ []) ∙ ap (λ (q : ProgramView). actors_of (take i ps) ++ q.actor ∷ []) (sym is))

pub actors_take : (config : Configuration) (ps : List ProgramView) (i : ℕ) (p : ProgramView) → p ≡ get_or ps i p → i < length ps → HaveActors config (take i ps) → MayJoin config (take i ps) p → HaveActors config (take (i + 1) ps)
actors_take config ps i p is lt have joins =
    rw (actors_more ps i p is lt) (apart_push p.actor (actors_of (take i ps)) have.0 joins.0, known_push config p.actor (actors_of (take i ps)) have.1 joins.1)

pub none_take : (a : Actor) (ps : List ProgramView) (i : ℕ) (p : ProgramView) → p ≡ get_or ps i p → i < length ps → NoneIs a (actors_of (take i ps)) → p.actor ≢ a → NoneIs a (actors_of (take (i + 1) ps))
none_take a ps i p is lt none other = rw (actors_more ps i p is lt) (none_push a p.actor (actors_of (take i ps)) none other)
