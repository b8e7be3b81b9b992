use Rattle.std.proofs.Common.{◌≡◌, false, true, inl, inr, sym}
use Rattle.std.proofs.lemmas.Bool.{cases_lt}
use Rattle.kc_types.specs.Configuration.{slot_count}
use Rattle.kc_core.proofs.Marked.{inactive-past}
use Rattle.kc_core.proofs.kcore.KCore.is_active.Goals as goal

pub returns-in-None-clause-value : goal.returns-in-None-clause-value
returns-in-None-clause-value c = elim (cases_lt c.args.vm (slot_count c.args.self.now.state.config)) [
  | inl low ↦ let there : false ≡ true = c.in-None.ensures.exists.1 low in absurd cc
  | inr past ↦ sym (inactive-past c.args.self.now.state c.args.vm c.in-None.ensures.lawful past)
]
