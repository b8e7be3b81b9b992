use Rattle.kc_faults.proofs.telling.tell_volume.Goals as goal

pub returns-clause-line : goal.returns-clause-line
returns-clause-line g c = rw c.volume_line.ensures at c.say.ensures.line
