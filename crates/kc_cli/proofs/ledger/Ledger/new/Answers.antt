use Rattle.kc_cli.proofs.Ledgers.{summary_begins}
use Rattle.kc_cli.proofs.ledger.Ledger.new.Goals as goal

pub returns-in_ok-note_all-in-Summary : goal.returns-in_ok-note_all-in-Summary
returns-in_ok-note_all-in-Summary c =
    let fresh = rw (c.frames.ensures.value, c.config.ensures.value) at c.in_ok-lives-in-Summary.ensures in
    let grown = rw c.in_ok-events_before-in-Summary.ensures at c.in_ok-note_all-in-Summary.ensures in
    rw c.in-Summary.is (summary_begins c.args.core.now.state c.in_ok-lives-in-Summary.lives c.note_all.new.self c.config.ensures.lawful fresh grown, c.new-in-Summary.ensures.items)
