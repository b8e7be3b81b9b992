use Rattle.kc_custody.specs.Grown.{NotesAll}
use Rattle.kc_custody.proofs.growing.Lives.note_all.Given as goal

-- the events so far are taken in
abbrev pub invariant-loop-event : goal.invariant-loop-event
invariant-loop-event l = NotesAll l.yielded l.fn.self l.self
