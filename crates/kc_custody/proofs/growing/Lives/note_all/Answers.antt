use Rattle.std.proofs.Common.{◌≡◌, [], ◌∷◌, sym, ◌∙◌}
use Rattle.std.proofs.lemmas.Iterator.Adapters.{YieldsList-from_vec}
use Rattle.std.proofs.lemmas.Iterator.Consumers.{YieldsList-end}
use Rattle.std.proofs.lemmas.List.{map-id}
use Rattle.kc_custody.proofs.Growth.{notes-none, notes-one, notes-some}
use Rattle.kc_custody.proofs.growing.Lives.note_all.Goals as goal

pub loop-event-init : goal.loop-event-init
loop-event-init c = notes-none c.args.self.now

pub loop-event-preserved : goal.loop-event-preserved
loop-event-preserved c = notes-some c.loop-event.yielded (c.in-Some.event ∷ []) c.args.self.now c.loop-event.self c.note.new.self c.loop-event.invariant (notes-one c.in-Some.event c.loop-event.self c.note.new.self c.in_ok-note.ensures)

pub returns : goal.returns
returns c =
    let gives = c.into_iter-event-iterator.ensures.into_iter_gives in
    let events = YieldsList-from_vec c.args.events.items gives.0 (gives.1 ∙ c.args.events.ok.0) in
    let end = YieldsList-end events c.loop-event.yielded c.loop-event.event-iterator c.loop-event.yielded_by c.next.result c.next.new.self c.in-None.is c.next.ensures.steps in
    let all : c.loop-event.yielded ≡ c.args.events.items = sym (map-id c.loop-event.yielded) ∙ end.0 in
    rw (← all) c.loop-event.invariant
