use Rattle.kc_custody.proofs.register.Register.note_owner.Goals as goal

pub returns-in_ok-note : goal.returns-in_ok-note
returns-in_ok-note c = rw (c.in-Vm.is, ← c.index.ensures.value) c.in_ok-note.ensures
