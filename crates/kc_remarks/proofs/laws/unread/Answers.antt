use Rattle.kc_remarks.proofs.Unread.{unread, notes_redacted}
use Rattle.kc_remarks.proofs.laws.unread.Goals as goal

pub returns-clause-bytes : goal.returns-clause-bytes
returns-clause-bytes c = unread

pub returns-clause-redacted : goal.returns-clause-redacted
returns-clause-redacted c = notes_redacted
