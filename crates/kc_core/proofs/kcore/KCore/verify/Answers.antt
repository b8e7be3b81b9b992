use Rattle.std.proofs.Common.{Result, Ok, Err}
use Rattle.std.specs.Prelude.{MatchResult}
use Rattle.kc_types.specs.declared.call.Call.TheVariants.{Verify}
use Rattle.kc_types.specs.declared.refusal.Refusal.{Refusal}
use Rattle.kc_types.specs.declared.reply.Reply.{Reply}
use Rattle.kc_types.specs.declared.reply.Reply.TheVariants.{Refused}
use Rattle.kc_model.proofs.Lawful.Keeps.{lawful-next}
use Rattle.kc_core.specs.declared.verify.Verified.{Verified}
use Rattle.kc_core.proofs.Cored.{able, core-kept}
use Rattle.kc_core.proofs.kcore.KCore.verify.Goals as goal

pub verify-requires : goal.verify-requires
verify-requires c = able c.self.inside.config c.self.inside.parts c.self.invariant (Verify c.args.vm)

-- the answer in both cases
answered : (P : Reply → Type 0) (result : Result Verified Refusal) → MatchResult result (λ verified. P verified.reply) (λ why. P (Refused why)) → (reply : Reply) × P reply
answered P (Ok verified) is = (verified.reply, is)
answered P (Err why) is = (Refused why, is)

pub invariant_of-self : goal.invariant_of-self
invariant_of-self c =
    let answer = (answered _ c.verify.result c.verify.ensures.answer).1 in
    core-kept c.self.inside.config c.self.inside.parts c.verify.new.parts c.self.invariant
    (rw answer.state (lawful-next _ (Verify c.args.vm) c.self.invariant.lawful)) answer.linked answer.places

pub returns-clause-lawful : goal.returns-clause-lawful
returns-clause-lawful c = rw (answered _ c.verify.result c.verify.ensures.answer).1.state (lawful-next _ (Verify c.args.vm) c.self.invariant.lawful)
