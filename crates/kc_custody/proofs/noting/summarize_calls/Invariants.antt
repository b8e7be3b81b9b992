use Rattle.std.proofs.Common.{◌≡◌, ◌≤◌, ◌+◌, ◌++◌, List, take, length, filter}
use Rattle.kc_types.specs.declared.reply.Reply.{Reply}
use Rattle.kc_model.specs.Next.{replies_from, state_after}
use Rattle.kc_model.specs.Events.{events_from}
use Rattle.kc_remarks.specs.Attempts.{attempts_in}
use Rattle.kc_remarks.specs.Remarks.{notes_from}
use Rattle.kc_remarks.specs.Denials.{is_denied, Counts}
use Rattle.kc_custody.specs.Grown.{NotesAll}
use Rattle.kc_custody.proofs.noting.summarize_calls.Given as goal

-- the lives with the events of the calls so far, the attempts among these, how many of these were denied and for what, and the state after them
abbrev pub invariant-loop-i : goal.invariant-loop-i
invariant-loop-i l = record {
  lives : NotesAll (events_from l.first l.fn.core.state (take l.i l.calls)) l.fn.lives l.lives;
  attempts : l.attempts.items ≡ l.fn.attempts.items ++ attempts_in (notes_from l.first l.fn.core.state (take l.i l.calls));
  denied : l.denials.total ≡ l.fn.denials.total + length (filter is_denied (notes_from l.first l.fn.core.state (take l.i l.calls)));
  counted : (replies : List Reply) → Counts replies l.fn.denials → Counts (replies ++ replies_from l.fn.core.state (take l.i l.calls)) l.denials;
  few : l.denials.total ≤ l.fn.denials.total + l.i;
  state : l.core.state ≡ state_after l.fn.core.state (take l.i l.calls);
}
