use Rattle.std.proofs.Common.{◌≡◌, ◌++◌, map, take, drop}
use Rattle.kc_custody.specs.Chosen.{own_note}
use Rattle.kc_custody.proofs.chosen.conceal_each.Given as goal

-- the notes before the index are without what is other VMs', and the others are as they were
abbrev pub invariant-loop-note : goal.invariant-loop-note
invariant-loop-note l = l.notes ≡ map (own_note l.fn.vm) (take l.note-index l.initial.notes) ++ drop l.note-index l.initial.notes
