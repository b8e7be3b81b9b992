use Rattle.kc_trace.specs.declared.expected.Expected.TheVariants.{First}
use Rattle.kc_cli.proofs.Witnessed.{read_named}
use Rattle.kc_cli.proofs.starting.boot_core.Goals as goal

pub returns-clause-digest : goal.returns-clause-digest
returns-clause-digest g c = read_named _ _ _ _ c.in_ok-core.core.state First _ c.in_ok-text.ensures.ok c.in_ok-text.ensures.ended (rw c.deref-2.ensures.value at c.text_digest-digest.ensures)
