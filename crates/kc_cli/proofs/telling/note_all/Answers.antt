use Rattle.kc_cli.proofs.Witnessed.{sees_more}
use Rattle.kc_cli.proofs.telling.note_all.Goals as goal

pub returns-in-Some : goal.returns-in-Some
returns-in-Some c = λ asked header before none h. sees_more asked header _ _ before _ c.note_each.ensures (rw c.in-Some.is at h)
