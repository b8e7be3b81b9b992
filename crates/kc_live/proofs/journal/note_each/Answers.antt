use Rattle.std.proofs.Common.{List, ◌++◌, append-nil, subst, take}
use Rattle.std.proofs.lemmas.List.{take_all}
use Rattle.kc_types.specs.declared.call.Call.{Call}
use Rattle.kc_live.specs.Book.{calls_of}
use Rattle.kc_redact.specs.Witness.{HasSeen}
use Rattle.kc_live.proofs.Witnessed.{noted_more}
use Rattle.kc_live.proofs.journal.note_each.Goals as goal

pub loop-entry-init : goal.loop-entry-init
loop-entry-init c header calls seen = rw (append-nil calls) seen

pub loop-entry-preserved : goal.loop-entry-preserved
loop-entry-preserved c header calls seen =
    let entries = c.args.entries.now in
    let n = c.loop-entry.entry-index in
    let noted = c.note.ensures header (calls ++ calls_of (take n entries)) (c.loop-entry.invariant header calls seen) in
    subst (λ (all : List Call). HasSeen c.note.new.self header all) (noted_more calls entries c.entry-item.result n c.loop-entry-test.true c.entry-item.is) noted

pub returns : goal.returns
returns c header calls seen = rw (take_all c.loop-entry.entry-index c.args.entries.now c.loop-entry-test.false) at (c.loop-entry.invariant header calls seen)
