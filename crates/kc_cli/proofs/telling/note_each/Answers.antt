use Rattle.std.proofs.Common.{List, ◌++◌, append-nil, subst, take}
use Rattle.std.proofs.lemmas.List.{take_all}
use Rattle.kc_types.specs.declared.call.Call.{Call}
use Rattle.kc_redact.specs.Witness.{HasSeen}
use Rattle.kc_cli.proofs.Witnessed.{noted_more}
use Rattle.kc_cli.proofs.telling.note_each.Goals as goal

pub loop-call-init : goal.loop-call-init
loop-call-init c header before seen = rw (append-nil before) seen

pub loop-call-preserved : goal.loop-call-preserved
loop-call-preserved c header before seen =
    let calls = c.args.calls.now in
    let n = c.loop-call.call-index in
    let noted = c.note.ensures header (before ++ take n calls) (c.loop-call.invariant header before seen) in
    subst (λ (all : List Call). HasSeen c.note.new.self header all) (noted_more before calls c.call-item.result n c.loop-call-test.true c.call-item.is) noted

pub returns : goal.returns
returns c header before seen = rw (take_all c.loop-call.call-index c.args.calls.now c.loop-call-test.false) at (c.loop-call.invariant header before seen)
