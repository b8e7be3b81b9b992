use Rattle.std.proofs.Common.{◌≡◌, [], is_some, refl, sym, ap, ◌∙◌}
use Rattle.kc_types.specs.declared.call.Call.TheVariants.{Take}
use Rattle.kc_types.specs.declared.refusal.Refusal.TheVariants.{NoFree}
use Rattle.kc_types.specs.declared.resource.Resource.TheVariants as resource
use Rattle.kc_types.specs.declared.reply.Reply.TheVariants as reply
use Rattle.kc_parts.specs.States.{free_of}
use Rattle.kc_core.proofs.Frames.{places-page, places-move, places-through, taken-near}
use Rattle.kc_core.proofs.Answered.{answer-kept, answer-served}
use Rattle.kc_core.proofs.Hosts.{take-none, state-none, take-some, state-taken, linked-taken}
use Rattle.kc_core.proofs.host.take.Goals as goal

pub pop_free-requires-clause-here : goal.pop_free-requires-clause-here
pop_free-requires-clause-here c = c.requires.here resource.Free refl

pub returns-in_default : goal.returns-in_default
returns-in_default c =
    let none : (free_of c.args.parts.now ≡ []) × (free_of c.pop_free.new.self ≡ []) = rw c.in_default.is at c.pop_free.ensures.frames in
    let move = c.pop_free.ensures.rest in
    answer-kept c.args.config.now c.args.parts.now c.pop_free.new.self Take NoFree (take-none c.args.config.now c.args.parts.now none.0) (state-none c.args.config.now c.args.parts.now c.pop_free.new.self move none.0 none.1) (move.linked _ c.requires.linked) (places-move _ _ move)

pub returns : goal.returns
returns c =
    let config = c.args.config.now in
    let old = c.args.parts.now in
    let mid = c.pop_free.new.self in
    let move = c.pop_free.ensures.rest in
    let first = c.in-Some.ensures.frames in
    let at = c.page_mut-page.ensures.value in
    let linked = move.linked config c.requires.linked in
    let near = taken-near config old mid c.in-Some.frame c.requires.linked move first in
    let some = take-some config old _ _ first in
    answer-served config old _ Take _ some.0 (ap reply.Frame c.number.ensures.value ∙ some.1)
    (state-taken config old mid _ _ _ move first (linked.frames _ (ap is_some at)) at refl (rw c.of-page.ensures refl))
    (linked-taken config mid _ _ _ linked c.in-Some.ensures.loose at refl refl)
    (places-through old mid _ (places-move _ _ move) (places-page mid _ _ _ at refl (λ away. let no = sym near ∙ away in cc)))
