use Rattle.std.proofs.Common.{◌≡◌, ◌<◌, ◌≤◌, ◌+◌, ◌++◌, ◌∙◌, [], Result, Ok, Err, false, length, min, slice_index_or, ap₂, rules, arith}
use Rattle.std.specs.Prelude.{OnErr}
use Rattle.std.specs.List.{range_with_len}
use Rattle.std.specs.Vec.{vec_capacity}
use Rattle.std.proofs.lemmas.Result.{on_err_weaker}
use Rattle.std.proofs.lemmas.List.{append-nil, get_or_default}
use Rattle.std.proofs.KnownBytes.{Appends-nil}
use Rattle.kc_types.specs.declared.call.Call.TheVariants.{Take}
use Rattle.kc_types.specs.declared.reply.Reply.TheVariants.{Done}
use Rattle.kc_trace.specs.AnswerText.{answer_line}
use Rattle.kc_trace.specs.CustodyText.{placed_text}
use Rattle.kc_texts.proofs.Pieces.{IsGiven, text_of, given_whole, given_more, begun, range-more, range-taken}
use Rattle.kc_cli.specs.Lines.{placed_answer_at, longest_placed_answer}
use Rattle.kc_cli.proofs.placing.give_placed.Goals as goal
use Rattle.kc_cli.proofs.placing.give_placed.Goals.{then-capacity-len-lt-LONGEST_PLACED+in_ok-write_whole, else-capacity-len-lt-LONGEST_PLACED}

on_err : {T E P : Type 0} (r : Result T E) → P → OnErr r P
on_err (Ok x) h = tt
on_err (Err e) h = h

pub loop-i-init : goal.loop-i-init
loop-i-init g c = record {
  given = record { sent = []; taken = Appends-nil (g.K.Sink.taken c.args.out.now); joined = append-nil c.args.piece.items };
  whole = c.requires.out;
  room = c.requires.room;
}

pub returns-in_err-write_whole-clause-begun : goal.returns-in_err-write_whole-clause-begun
returns-in_err-write_whole-clause-begun g c =
    let within : c.loop-i.i ≤ min (length c.args.calls.now) (length c.args.replies.now) = search rules in
    on_err c.from_residual.result (begun (placed_answer_at c.args.volumes.now c.args.calls.now c.args.replies.now) c.args.piece.items (range_with_len 0 c.loop-i.i) _ c.loop-i.piece.items _ (g.K.Sink.taken c.loop-i.out) (g.K.Sink.taken c.write_whole.new.sink)
    (range-taken c.loop-i.i _ within) c.loop-i.invariant.given (rw c.deref.ensures.value at c.in_err-write_whole.ensures.begun))

pub loop-i-preserved : goal.loop-i-preserved
loop-i-preserved g c =
    let before = c.loop-i.invariant in
    let old = g.K.Sink.taken c.args.out.now in
    let left = c.if-capacity-len-lt-LONGEST_PLACED in
    let line = placed_answer_at c.args.volumes.now c.args.calls.now c.args.replies.now in
    let text = text_of line c.args.piece.items (range_with_len 0 c.loop-i.i) in
    let given : IsGiven text left.piece.items old (g.K.Sink.taken left.out) =
    elim left.branch [
      | then-capacity-len-lt-LONGEST_PLACED+in_ok-write_whole w ↦
          rw (w.out-is, w.piece-is, w.clear.ensures.items)
          (given_whole text c.loop-i.piece.items old (g.K.Sink.taken c.loop-i.out) (g.K.Sink.taken w.write_whole.new.sink) before.given (rw w.deref.ensures.value at w.in_ok-write_whole.ensures.ok))
      | else-capacity-len-lt-LONGEST_PLACED w ↦ rw (w.out-is, w.piece-is) before.given
    ] in
    let whole : g.K.Sink.failed left.out ≡ false =
    elim left.branch [
      | then-capacity-len-lt-LONGEST_PLACED+in_ok-write_whole w ↦ rw w.out-is w.in_ok-write_whole.ensures.mark
      | else-capacity-len-lt-LONGEST_PLACED w ↦ rw w.out-is before.whole
    ] in
    let room : longest_placed_answer ≤ vec_capacity left.piece =
    elim left.branch [
      | then-capacity-len-lt-LONGEST_PLACED+in_ok-write_whole w ↦ rw (w.piece-is, w.clear.ensures.capacity) before.room
      | else-capacity-len-lt-LONGEST_PLACED w ↦ rw w.piece-is before.room
    ] in
    let both : c.loop-i.i < min (length c.args.calls.now) (length c.args.replies.now) = search rules in
    let call : c.index-calls-i.result ≡ slice_index_or c.args.calls.now c.loop-i.i Take = c.index-calls-i.is ∙ get_or_default c.args.calls.now c.loop-i.i c.index-calls-i.result Take (omega (arith, both)) in
    let reply : c.index-replies-i.result ≡ slice_index_or c.args.replies.now c.loop-i.i Done = c.index-replies-i.is ∙ get_or_default c.args.replies.now c.loop-i.i c.index-replies-i.result Done (omega (arith, both)) in
    let pushed : c.push_placed.new.text.items ≡ left.piece.items ++ line c.loop-i.i = c.push_placed.ensures.line ∙ ap₂ (λ call reply. left.piece.items ++ placed_text c.args.volumes.now (2 + c.loop-i.i) (answer_line (2 + c.loop-i.i) call reply)) call reply in
    record {
      given = rw (range-more c.loop-i.i) (given_more line c.args.piece.items (range_with_len 0 c.loop-i.i) c.loop-i.i left.piece.items c.push_placed.new.text.items old (g.K.Sink.taken left.out) given pushed);
      whole = whole;
      room = let kept = c.push_placed.ensures.capacity in omega (arith, room, kept);
    }

pub returns-clause-begun : goal.returns-clause-begun
returns-clause-begun g c =
    let within : c.loop-i.i ≤ min (length c.args.calls.now) (length c.args.replies.now) = search rules in
    on_err_weaker c.write_whole-2.result
    (λ cut. begun (placed_answer_at c.args.volumes.now c.args.calls.now c.args.replies.now) c.args.piece.items (range_with_len 0 c.loop-i.i) _ c.loop-i.piece.items _ (g.K.Sink.taken c.loop-i.out) (g.K.Sink.taken c.write_whole-2.new.sink)
    (range-taken c.loop-i.i _ within) c.loop-i.invariant.given (rw c.deref-2.ensures.value at cut))
    c.write_whole-2.ensures.begun
