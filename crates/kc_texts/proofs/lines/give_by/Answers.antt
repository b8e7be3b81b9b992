use Rattle.std.proofs.Common.{◌≡◌, ◌≤◌, [], Result, Ok, Err, false, length, sym, ◌∙◌, arith, rules}
use Rattle.std.specs.Prelude.{OnErr}
use Rattle.std.specs.Vec.{vec_capacity}
use Rattle.std.proofs.lemmas.Iterator.Adapters.{YieldsList-from_vec}
use Rattle.std.proofs.lemmas.Iterator.Consumers.{YieldsList-so_far, YieldsList-end}
use Rattle.std.proofs.lemmas.List.{append-nil, map-id}
use Rattle.std.proofs.KnownBytes.{Appends-nil}
use Rattle.std.proofs.lemmas.Result.{on_ok_weaker, on_err_weaker}
use Rattle.kc_texts.proofs.Pieces.{IsGiven, text_of, given_whole, given_all, given_more, begun}
use Rattle.kc_texts.proofs.lines.give_by.Goals as goal
use Rattle.kc_texts.proofs.lines.give_by.Goals.{then-capacity-len+in_ok-write_whole, else-capacity-len}

on_err : {T E P : Type 0} (r : Result T E) → P → OnErr r P
on_err (Ok x) h = tt
on_err (Err e) h = h

pub loop-line-init : goal.loop-line-init
loop-line-init g c = record {
  given = record { sent = []; taken = Appends-nil (g.K.Sink.taken c.args.out.now); joined = append-nil c.args.piece.items };
  whole = c.requires.out;
  room = c.requires.room;
}

pub returns-in_err-write_whole-clause-begun : goal.returns-in_err-write_whole-clause-begun
returns-in_err-write_whole-clause-begun g c =
    let lines = c.args.lines.items in
    let yielded = c.loop-line.yielded in
    let start = c.into_iter-line-iterator.ensures.into_iter_gives in
    let same : c.into_iter-line-iterator.result.rest.len ≡ length lines = start.1 ∙ search rules in
    let first = sym (map-id yielded) ∙ YieldsList-so_far (YieldsList-from_vec {s = c.into_iter-line-iterator.result} lines start.0 same) yielded c.loop-line.line-iterator c.loop-line.yielded_by in
    on_err c.from_residual.result (begun (g.W.Way.written c.args.way.now) c.args.piece.items yielded lines c.loop-line.piece.items _ (g.K.Sink.taken c.loop-line.out) (g.K.Sink.taken c.write_whole.new.sink) first c.loop-line.invariant.given (rw c.deref.ensures.value at c.in_err-write_whole.ensures.begun))

pub loop-line-preserved : goal.loop-line-preserved
loop-line-preserved g c =
    let before = c.loop-line.invariant in
    let old = g.K.Sink.taken c.args.out.now in
    let left = c.if-capacity-len in
    let text = text_of (g.W.Way.written c.args.way.now) c.args.piece.items c.loop-line.yielded in
    let given : IsGiven text left.piece.items old (g.K.Sink.taken left.out) =
    elim left.branch [
      | then-capacity-len+in_ok-write_whole w ↦
          rw (w.out-is, w.piece-is, w.clear.ensures.items)
          (given_whole text c.loop-line.piece.items old (g.K.Sink.taken c.loop-line.out) (g.K.Sink.taken w.write_whole.new.sink) before.given (rw w.deref.ensures.value at w.in_ok-write_whole.ensures.ok))
      | else-capacity-len w ↦ rw (w.out-is, w.piece-is) before.given
    ] in
    let whole : g.K.Sink.failed left.out ≡ false =
    elim left.branch [
      | then-capacity-len+in_ok-write_whole w ↦ rw w.out-is w.in_ok-write_whole.ensures.mark
      | else-capacity-len w ↦ rw w.out-is before.whole
    ] in
    let room : g.W.Way.most c.args.way.now ≤ vec_capacity left.piece =
    elim left.branch [
      | then-capacity-len+in_ok-write_whole w ↦ rw (w.piece-is, w.clear.ensures.capacity) before.room
      | else-capacity-len w ↦ rw w.piece-is before.room
    ] in
    record {
      given = given_more (g.W.Way.written c.args.way.now) c.args.piece.items c.loop-line.yielded c.in-Some.line left.piece.items c.push.new.text.items old (g.K.Sink.taken left.out) given c.push.ensures.line;
      whole = whole;
      room = let kept = c.push.ensures.capacity in omega (arith, room, kept);
    }

pub returns-clause-ok : goal.returns-clause-ok
returns-clause-ok g c =
    let lines = c.args.lines.items in
    let yielded = c.loop-line.yielded in
    let start = c.into_iter-line-iterator.ensures.into_iter_gives in
    let same : c.into_iter-line-iterator.result.rest.len ≡ length lines = start.1 ∙ search rules in
    let end = YieldsList-end (YieldsList-from_vec {s = c.into_iter-line-iterator.result} lines start.0 same) yielded c.loop-line.line-iterator c.loop-line.yielded_by c.next.result c.next.new.self c.in-None.is c.next.ensures.steps in
    let all : yielded ≡ lines = sym (map-id yielded) ∙ end.0 in
    let old = g.K.Sink.taken c.args.out.now in
    on_ok_weaker c.write_whole-2.result
    (λ more. rw all at (given_all (text_of (g.W.Way.written c.args.way.now) c.args.piece.items yielded) old (g.K.Sink.taken c.write_whole-2.new.sink)
    (given_whole _ c.loop-line.piece.items old (g.K.Sink.taken c.loop-line.out) (g.K.Sink.taken c.write_whole-2.new.sink) c.loop-line.invariant.given (rw c.deref-2.ensures.value at more))))
    c.write_whole-2.ensures.ok

pub returns-clause-begun : goal.returns-clause-begun
returns-clause-begun g c =
    let lines = c.args.lines.items in
    let yielded = c.loop-line.yielded in
    let start = c.into_iter-line-iterator.ensures.into_iter_gives in
    let same : c.into_iter-line-iterator.result.rest.len ≡ length lines = start.1 ∙ search rules in
    let first = sym (map-id yielded) ∙ YieldsList-so_far (YieldsList-from_vec {s = c.into_iter-line-iterator.result} lines start.0 same) yielded c.loop-line.line-iterator c.loop-line.yielded_by in
    on_err_weaker c.write_whole-2.result
    (λ cut. begun (g.W.Way.written c.args.way.now) c.args.piece.items yielded lines c.loop-line.piece.items _ (g.K.Sink.taken c.loop-line.out) (g.K.Sink.taken c.write_whole-2.new.sink) first c.loop-line.invariant.given (rw c.deref-2.ensures.value at cut))
    c.write_whole-2.ensures.begun
