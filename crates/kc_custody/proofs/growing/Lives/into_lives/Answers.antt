use Rattle.std.proofs.Common.{◌∙◌}
use Rattle.std.proofs.lemmas.Result.{IfOk-weaker}
use Rattle.kc_custody.proofs.Growth.{finished-all}
use Rattle.kc_custody.proofs.growing.Lives.into_lives.Goals as goal

pub returns : goal.returns
returns c = IfOk-weaker c.into_lives.result _ _ (λ lives is frames events grown. is ∙ finished-all c.args.self.endings events c.args.self.register.lives.items grown.each) c.into_lives.ensures
