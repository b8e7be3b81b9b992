use Rattle.std.proofs.lemmas.List.Edits.{map_over_more}
use Rattle.kc_custody.specs.Chosen.{own_note}
use Rattle.kc_custody.proofs.chosen.conceal_each.Goals as goal

pub loop-note-preserved : goal.loop-note-preserved
loop-note-preserved c = rw (c.conceal.ensures, ← c.note-item.is) (map_over_more (own_note c.args.vm) c.args.notes.now c.loop-note.notes c.loop-note.note-index c.note-item.result c.loop-note-test.true c.loop-note.invariant c.note-item.is)
