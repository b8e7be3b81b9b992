use Rattle.kc_cli.specs.Custody.{page_remarks}
use Rattle.kc_cli.proofs.Marked.{marks_of_remarks}
use Rattle.kc_cli.proofs.account.marked.Goals as goal

pub returns-clause-marks : goal.returns-clause-marks
returns-clause-marks c =
    rw (c.deref.ensures.value, c.choose.ensures, c.page_remarks.ensures, c.in_ok-events.ensures.remarks, marks_of_remarks c.args.vm (page_remarks c.args.is_unseen) c.args.notes.items) at c.in_ok-marks.ensures
