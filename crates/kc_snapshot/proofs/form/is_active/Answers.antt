use Rattle.std.proofs.Common.{◌≡◌, false, true, inl, inr, sym}
use Rattle.std.proofs.lemmas.Bool.{cases_lt}
use Rattle.kc_types.specs.Configuration.{slot_count}
use Rattle.kc_core.proofs.Marked.{inactive-past}
use Rattle.kc_snapshot.proofs.form.is_active.Goals as goal

pub returns-in-None : goal.returns-in-None
returns-in-None c = elim (cases_lt c.args.vm (slot_count c.args.core.now.state.config)) [
  | inl low ↦ let there : false ≡ true = c.in-None.ensures.exists.1 low in absurd cc
  | inr past ↦ sym (inactive-past c.args.core.now.state c.args.vm c.config-config.ensures.lawful past)
]
