use Rattle.kc_model.proofs.Lawful.Keeps.{lawful-next}
use Rattle.kc_core.proofs.Cored.{able, core-kept}
use Rattle.kc_core.proofs.kcore.KCore.answer.Goals as goal

pub answer-requires-clause-able : goal.answer-requires-clause-able
answer-requires-clause-able c = able c.self.inside.config c.self.inside.parts c.self.invariant c.args.call.now

pub invariant_of-self : goal.invariant_of-self
invariant_of-self c = core-kept c.self.inside.config c.self.inside.parts c.answer.new.parts c.self.invariant
    (rw c.answer.ensures.state (lawful-next _ c.args.call.now c.self.invariant.lawful))
    c.answer.ensures.linked c.answer.ensures.places

pub returns-clause-lawful : goal.returns-clause-lawful
returns-clause-lawful c = rw c.answer.ensures.state (lawful-next _ c.args.call.now c.self.invariant.lawful)
