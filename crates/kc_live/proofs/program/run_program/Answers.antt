use Rattle.std.proofs.Common.{◌∙◌, length, Err, sym, ap}
use Rattle.std.proofs.lemmas.Iterator.Adapters.{YieldsList-from_vec}
use Rattle.std.proofs.lemmas.Iterator.Consumers.{YieldsList-turn, YieldsList-so_far}
use Rattle.std.proofs.lemmas.List.{map-id}
use Rattle.kc_live.specs.Seat.{SeatView}
use Rattle.kc_live.specs.Program.{ProgramView, receipt_calls}
use Rattle.kc_live.proofs.Runs.{own_call}
use Rattle.kc_live.proofs.program.run_program.Goals as goal

pub returns-in-Err-clause-made : goal.returns-in-Err-clause-made
returns-in-Err-clause-made g c =
    let calls = ap (λ (p : ProgramView). p.calls) c.program.view_is in
    let gives = c.into_iter-call-iterator.ensures.into_iter_gives in
    let all = YieldsList-from_vec c.args.program.calls (gives.0 ∙ calls) (gives.1 ∙ c.program.inside.calls.ok.0 ∙ ap length calls) in
    let made = ap receipt_calls (c.into_receipts.ensures ∙ ap (λ (s : SeatView). s.receipts) c.in-Err.ensures.err) ∙ c.loop-call.invariant.made in
    record {
      count = length c.loop-call.yielded;
      begun = made ∙ sym (map-id c.loop-call.yielded) ∙ YieldsList-so_far all c.loop-call.yielded c.loop-call.call-iterator c.loop-call.yielded_by;
      whole = λ none. cc;
    }

pub returns-in-Err-clause-yours : goal.returns-in-Err-clause-yours
returns-in-Err-clause-yours g c = λ own said.
    let calls = ap (λ (p : ProgramView). p.calls) c.program.view_is in
    let gives = c.into_iter-call-iterator.ensures.into_iter_gives in
    let turn = YieldsList-turn (YieldsList-from_vec c.args.program.calls (gives.0 ∙ calls) (gives.1 ∙ c.program.inside.calls.ok.0 ∙ ap length calls)) c.loop-call.yielded c.loop-call.call-iterator c.loop-call.yielded_by c.next.result c.next.new.self c.in-Some.call c.in-Some.is c.next.ensures.steps in
    let seated = c.loop-call.invariant.actor ∙ ap (λ (s : SeatView). s.actor) c.new-seat.ensures ∙ ap (λ (p : ProgramView). p.actor) c.program.view_is in
    let other = c.in-Err.ensures.yours.0 (ap Err cc) in
    other (own_call c.args.program _ c.in-Some.call own turn.0 turn.1 ∙ sym seated)
