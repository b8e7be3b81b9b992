use Rattle.std.proofs.lemmas.Result.{on_ok_weaker}
use Rattle.kc_cli.proofs.Ledgers.{changes_grow, on_ok_both, summary_grows, picture_grows, vm_picture_grows, html_grows}
use Rattle.kc_cli.proofs.ledger.Ledger.note.Goals as goal

pub returns-in-Changes-clause-kept : goal.returns-in-Changes-clause-kept
returns-in-Changes-clause-kept c =
    on_ok_weaker c.tell_calls.result (λ grown. λ form start told same room h. changes_grow c.args.first c.args.core.now.state c.args.calls.now c.in-Changes.events c.tell_calls.new.told grown form start told (rw c.in-Changes.is at h)) c.tell_calls.ensures.told

pub returns-in-Summary-clause-kept : goal.returns-in-Summary-clause-kept
returns-in-Summary-clause-kept c =
    on_ok_weaker c.summarize_calls.result (λ grown. λ form start told same room h. summary_grows c.args.first c.args.core.now.state c.args.calls.now c.in-Summary.lives c.summarize_calls.new.lives c.in-Summary.attempts c.summarize_calls.new.attempts grown.0 grown.1 form start told same room (rw c.in-Summary.is at h))
    (on_ok_both _ _ c.summarize_calls.result c.summarize_calls.ensures.lives c.summarize_calls.ensures.attempts)

pub returns-in-Picture-clause-kept : goal.returns-in-Picture-clause-kept
returns-in-Picture-clause-kept c =
    on_ok_weaker c.tell_calls-in-Picture.result (λ grown. λ form start told same room h. picture_grows c.args.first c.args.core.now.state c.args.calls.now c.in-Picture.events c.tell_calls-in-Picture.new.told grown form start told (rw c.in-Picture.is at h)) c.tell_calls-in-Picture.ensures.told

pub returns-in-VmPicture-clause-kept : goal.returns-in-VmPicture-clause-kept
returns-in-VmPicture-clause-kept c =
    on_ok_weaker c.note_calls-in-VmPicture.result (λ grown. λ form start told same room h. vm_picture_grows c.args.first c.args.core.now.state c.args.calls.now _ _ c.in-VmPicture.notes c.note_calls-in-VmPicture.new.notes grown form start told (rw c.in-VmPicture.is at h)) c.note_calls-in-VmPicture.ensures.notes

pub returns-in-Html-clause-kept : goal.returns-in-Html-clause-kept
returns-in-Html-clause-kept c =
    on_ok_weaker c.note_calls-in-Html.result (λ grown. λ form start told same room h. html_grows c.args.first c.args.core.now.state c.args.calls.now c.in-Html.notes c.note_calls-in-Html.new.notes grown form start told (rw c.in-Html.is at h)) c.note_calls-in-Html.ensures.notes
