use Rattle.kc_model.proofs.States.Runs.{state_after-more}
use Rattle.kc_remarks.proofs.Runs.{calls-noted}
use Rattle.kc_remarks.specs.Denials.{is_denial}
use Rattle.kc_custody.proofs.Denied.{denied-more, room, denied-few, counted-more}
use Rattle.kc_custody.proofs.noting.note_calls.Goals as goal

pub loop-i-preserved : goal.loop-i-preserved
loop-i-preserved c =
    let step = state_after-more c.args.core.now.state c.args.calls.now c.loop-i.i c.index-calls-i.result c.loop-i-test.true c.index-calls-i.is in
    let added = c.note.ensures.total (room _ _ _ _ c.requires.counts c.loop-i.invariant.few c.loop-i-test.true) in
    record {
      notes = calls-noted c.args.first c.args.core.now.state c.loop-i.core.state c.args.calls.now c.loop-i.i c.index-calls-i.result c.args.notes.now.items c.loop-i.notes.items _ c.loop-i-test.true c.index-calls-i.is
          c.loop-i.invariant.notes c.loop-i.invariant.state c.in_ok-reply.ensures.notes;
      denied = denied-more c.args.first c.args.core.now.state c.loop-i.core.state c.args.calls.now c.loop-i.i c.index-calls-i.result c.in_ok-reply.reply c.args.denials.now.total c.loop-i.denials.total c.note.new.self.total c.loop-i-test.true c.index-calls-i.is
          c.loop-i.invariant.state c.in_ok-reply.ensures.reply c.loop-i.invariant.denied added;
      counted = counted-more c.args.core.now.state c.loop-i.core.state c.args.calls.now c.loop-i.i c.index-calls-i.result c.in_ok-reply.reply c.args.denials.now c.loop-i.denials c.note.new.self c.loop-i-test.true c.index-calls-i.is
          c.loop-i.invariant.state c.in_ok-reply.ensures.reply c.loop-i.invariant.counted c.note.ensures.counted;
      few = denied-few (is_denial c.in_ok-reply.reply) c.args.denials.now.total c.loop-i.denials.total c.note.new.self.total c.loop-i.i c.loop-i.invariant.few added;
      state = rw (step, ← c.loop-i.invariant.state) c.in_ok-reply.ensures.state;
    }
