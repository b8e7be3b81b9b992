use Rattle.std.proofs.Common.{◌++◌, List, map, ap, ◌∙◌}
use Rattle.kc_types.specs.declared.custody.Event.{Event}
use Rattle.kc_custody.specs.Marks.{mark_of, access_told}
use Rattle.kc_custody.proofs.Ordered.{rising, held}
use Rattle.kc_custody.proofs.Calls.{IsMarked, call-told}
use Rattle.kc_custody.proofs.telling.tell_call.Goals as goal

pub returns-clause-told : goal.returns-clause-told
returns-clause-told c =
    let marks = c.deref-2.result.now in
    let frames = c.sort_once.new.numbers.items in
    let marked : IsMarked c.args.line c.args.core.now.state c.args.call.now marks c.phase_mark-mark.result = record {
      frames = frames;
      rising = rising frames c.sort_once.ensures.rising;
      held = λ f has. held _ frames c.sort_once.ensures.members f (rw c.in_ok-frames.ensures.frames has);
      each = c.deref-2.ensures.value ∙ c.in_ok-marks.ensures ∙ ap (map (mark_of c.args.line c.args.core.now.state)) c.deref.ensures.value;
      slot = c.phase_mark-mark.ensures;
    } in
    call-told c.args.line c.args.core.now.state c.make.new.core.state c.args.call.now _ _ marks c.phase_mark-mark.result c.in_ok-reply.measurement c.args.told.now.items _ _ _ c.movable.ensures.lawful marked
    c.accessed-accessed.ensures c.in_ok-reply.ensures.reply c.in_ok-reply.ensures.state c.in_ok-reply.ensures.measurement
    (c.tell_access.ensures.items ∙ ap (λ (before : List Event). before ++ access_told c.args.call.now c.accessed-accessed.result c.in_ok-reply.reply) c.in_ok-reserve.ensures.items)
    c.tell_frames.ensures.items
    c.tell_phase.ensures
