use Rattle.std.proofs.Common.{◌++◌, ◌≡◌, true, sym, subst}
use Rattle.kc_types.specs.Configuration.{has_dump}
use Rattle.kc_snapshot.specs.Told.{Told}
use Rattle.kc_state_text.specs.StateText.{state_header}
use Rattle.kc_state_text.proofs.Refusals.{unlawful-refused}
use Rattle.kc_state_text.proofs.reader.read_core.Goals as goal

pub returns-in-Err-clause-refused : goal.returns-in-Err-clause-refused
returns-in-Err-clause-refused g c = rw c.unlawful_fault.ensures (unlawful-refused (state_header ++ c.args.rest.now) c.in_ok-told.told c.in-Err.why c.in_ok-told.ensures c.in-Err.ensures.unlawful)

pub returns-in-Ok-clause-version : goal.returns-in-Ok-clause-version
returns-in-Ok-clause-version g c = subst (λ (t : Told). has_dump t.dump.version ≡ true) (sym c.in-Ok.ensures.told) c.in_ok-told.ensures.dump.has
