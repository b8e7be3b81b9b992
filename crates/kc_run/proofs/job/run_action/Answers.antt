use Rattle.kc_run.proofs.job.run_action.Goals as goal

pub returns-in-Audit : goal.returns-in-Audit
returns-in-Audit g c = rw (c.in-Audit.is, c.requires.files) (c.audit.ensures _)

pub returns-in-Redact : goal.returns-in-Redact
returns-in-Redact g c = rw (c.in-Redact.is, c.requires.files) (c.redact.ensures _)

pub returns-in-Custody : goal.returns-in-Custody
returns-in-Custody g c = rw c.in-Custody.is (rw c.origin-in-Custody.ensures at c.report-in-Custody.ensures)

pub returns-in-Replay : goal.returns-in-Replay
returns-in-Replay g c = rw c.in-Replay.is (rw c.origin.ensures at c.replay.ensures)

pub returns-in-ReplayVolumes : goal.returns-in-ReplayVolumes
returns-in-ReplayVolumes g c = rw c.in-ReplayVolumes.is (rw c.origin-in-ReplayVolumes.ensures at c.report.ensures)
