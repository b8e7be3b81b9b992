use Rattle.std.proofs.Common.{◌∙◌, ap, sym, [], ◌∷◌, ◌++◌}
use Rattle.kc_types.specs.Actors.{actor}
use Rattle.kc_live.specs.Program.{ProgramView, NoneIs, actors_of}
use Rattle.kc_live.specs.Cuts.{IsPlaceOf}
use Rattle.kc_live.proofs.Cuts.{placed, place-none}
use Rattle.kc_live.proofs.cut.add_call.Goals as goal

pub returns-in_ok-add-in-Some : goal.returns-in_ok-add-in-Some
returns-in_ok-add-in-Some c =
    let place : IsPlaceOf c.args.programs.now.items (actor c.args.call) c.in-Some.at = rw (c.as_slice.ensures.value, c.actor_of.ensures) at c.in-Some.ensures in
    rw c.in_ok-add-in-Some.ensures.more (placed c.args.call c.args.programs.now.items c.in-Some.at c.index_mut.result.now c.index_mut.ensures.value place)

pub returns-in_ok-push-in-None : goal.returns-in_ok-push-in-None
returns-in_ok-push-in-None c =
    let none : NoneIs (actor c.args.call) (actors_of c.args.programs.now.items) = rw (c.as_slice.ensures.value, c.actor_of.ensures) at c.in-None.ensures in
    c.in_ok-push-in-None.ensures.items ∙ (ap (λ (p : ProgramView). c.args.programs.now.items ++ p ∷ []) c.in_ok-begun-in-None.ensures ∙ sym (place-none c.args.call c.args.programs.now.items none))
