use Rattle.kc_core.proofs.Cored.{able, core-kept, lawful-left}
use Rattle.kc_core.proofs.kcore.KCore.call.Goals as goal

pub apply-requires : goal.apply-requires
apply-requires c = able c.self.inside.config c.self.inside.parts c.self.invariant c.args.call.now

pub invariant_of-self : goal.invariant_of-self
invariant_of-self c = core-kept c.self.inside.config c.self.inside.parts c.apply.new.parts c.self.invariant
    (lawful-left c.apply.result _ _ _ c.args.call.now c.self.invariant.lawful c.apply.ensures.state c.apply.ensures.err)
    c.apply.ensures.linked c.apply.ensures.places

pub returns-clause-lawful : goal.returns-clause-lawful
returns-clause-lawful c = lawful-left c.apply.result _ _ _ c.args.call.now c.self.invariant.lawful c.apply.ensures.state c.apply.ensures.err
