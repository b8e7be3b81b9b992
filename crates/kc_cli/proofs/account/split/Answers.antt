use Rattle.kc_cli.proofs.Marked.{one_event, one_denied, one_access}
use Rattle.kc_cli.proofs.account.split.Goals as goal

pub loop-note-preserved-in-Continue-1 : goal.loop-note-preserved-in-Continue-1
loop-note-preserved-in-Continue-1 c =
    rw c.in_ok-push-in-Event.ensures.items (one_event c.loop-note.yielded c.in-Some.note c.in-Event.event _ _ c.in-Event.is c.loop-note.invariant)

pub loop-note-preserved-in-Continue-branch-2 : goal.loop-note-preserved-in-Continue-branch-2
loop-note-preserved-in-Continue-branch-2 c =
    rw c.in_ok-push-in-Denied.ensures.items (one_denied c.loop-note.yielded c.in-Some.note c.in-Denied.denied _ _ c.in-Denied.is c.loop-note.invariant)

pub loop-note-preserved : goal.loop-note-preserved
loop-note-preserved c =
    rw c.in_ok-push-in-Access.ensures.items (one_access c.loop-note.yielded c.in-Some.note c.in-Access.access _ _ c.in-Access.is c.loop-note.invariant)
