use Rattle.std.proofs.Common.{sym, ◌∙◌}
use Rattle.kc_core.proofs.SlotsShown.{past_none, unmapped-past_gfns, unmapped-past_slots}
use Rattle.kc_core.proofs.kcore.KCore.lookup.Goals as goal

pub returns-in_err-try_slot-clause-value : goal.returns-in_err-try_slot-clause-value
returns-in_err-try_slot-clause-value c = c.from_residual.ensures ∙ sym (unmapped-past_slots c.args.self.now.state c.try_slot.ensures.lawful c.args.vm c.args.gfn (past_none c.args.vm _ c.in_err-try_slot.ensures.exists.1))

pub returns-in_err-gfn-clause-value : goal.returns-in_err-gfn-clause-value
returns-in_err-gfn-clause-value c = c.from_residual-in_err-gfn.ensures ∙ sym (unmapped-past_gfns c.args.self.now.state c.try_slot.ensures.lawful c.args.vm c.args.gfn (rw (← c.self.view_is) (past_none c.args.gfn _ c.in_err-gfn.ensures.valid.1)))
