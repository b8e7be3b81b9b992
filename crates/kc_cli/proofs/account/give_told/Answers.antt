use Rattle.std.proofs.lemmas.Result.{on_ok_weaker}
use Rattle.kc_faults.proofs.Told.{sink_more}
use Rattle.kc_cli.proofs.Plain.{changes_text, notes_text, page_text}
use Rattle.kc_cli.proofs.Ledgers.{changes_reported}
use Rattle.kc_cli.proofs.account.give_told.Goals as goal

pub returns-in-Changes-clause-ok : goal.returns-in-Changes-clause-ok
returns-in-Changes-clause-ok g c =
    let text = changes_text c.args.told.subject _ c.select.new.events.items c.select.ensures in
    rw c.in-Changes.is (on_ok_weaker c.give_lines.result (λ given. (_, text, given)) c.give_lines.ensures.ok)

pub returns-in-Changes-clause-sink : goal.returns-in-Changes-clause-sink
returns-in-Changes-clause-sink g c =
    let text = changes_text c.args.told.subject _ c.select.new.events.items c.select.ensures in
    rw c.in-Changes.is (sink_more _ _ _ _ _ (λ begun. (_, begun.0, text, begun.1)) c.give_lines.ensures.sink)

pub returns-in-Notes-clause-ok : goal.returns-in-Notes-clause-ok
returns-in-Notes-clause-ok g c =
    let text = notes_text c.args.told.subject c.choose.new.notes.items _ c.choose.ensures in
    rw c.in-Notes.is (on_ok_weaker c.give_lines-in-Notes.result (λ given. (_, text, given)) c.give_lines-in-Notes.ensures.ok)

pub returns-in-Notes-clause-sink : goal.returns-in-Notes-clause-sink
returns-in-Notes-clause-sink g c =
    let text = notes_text c.args.told.subject c.choose.new.notes.items _ c.choose.ensures in
    rw c.in-Notes.is (sink_more _ _ _ _ _ (λ begun. (_, begun.0, text, begun.1)) c.give_lines-in-Notes.ensures.sink)

pub returns-in-Summary-clause-ok : goal.returns-in-Summary-clause-ok
returns-in-Summary-clause-ok g c =
    let text = rw c.deref.ensures.value at c.in-Ok.ensures in
    rw c.in-Summary.is (on_ok_weaker c.give_whole.result (λ given. (_, text, rw c.deref-in-Summary.ensures.value at given)) c.give_whole.ensures.ok)

pub returns-in-Summary-clause-sink : goal.returns-in-Summary-clause-sink
returns-in-Summary-clause-sink g c =
    let text = rw c.deref.ensures.value at c.in-Ok.ensures in
    rw c.in-Summary.is (sink_more _ _ _ _ _ (λ begun. (_, begun.0, text, rw c.deref-in-Summary.ensures.value at begun.1)) c.give_whole.ensures.sink)

pub picture_of-requires-clause-within : goal.picture_of-requires-clause-within
picture_of-requires-clause-within g c =
    rw (c.deref-in-Picture.ensures.value, c.reported-events.ensures, changes_reported c.args.told.subject.heading.is_unseen c.in-Picture.events.items) (rw c.in-Picture.is at c.requires.changes)

pub returns-clause-ok : goal.returns-clause-ok
returns-clause-ok g c =
    let text = page_text c.args.told.subject c.choose-in-Html.new.notes.items _ (rw c.page_remarks.ensures at c.choose-in-Html.ensures) in
    rw c.in-Html.is (on_ok_weaker c.give_lines-in-Html.result (λ given. (_, text, given)) c.give_lines-in-Html.ensures.ok)

pub returns-clause-sink : goal.returns-clause-sink
returns-clause-sink g c =
    let text = page_text c.args.told.subject c.choose-in-Html.new.notes.items _ (rw c.page_remarks.ensures at c.choose-in-Html.ensures) in
    rw c.in-Html.is (sink_more _ _ _ _ _ (λ begun. (_, begun.0, text, begun.1)) c.give_lines-in-Html.ensures.sink)
