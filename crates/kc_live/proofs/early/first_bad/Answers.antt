use Rattle.std.proofs.Common.{Some, sym, ap, ◌∙◌}
use Rattle.std.proofs.lemmas.Option.{slice_get-get_or}
use Rattle.std.proofs.lemmas.Bool.{false≢true}
use Rattle.kc_live.proofs.Planning.{actors_take}
use Rattle.kc_live.proofs.early.first_bad.Goals as goal

pub returns-then-not-may_join : goal.returns-then-not-may_join
returns-then-not-may_join c = record {
  program = c.index-programs-i.result;
  at = slice_get-get_or c.args.programs.now c.loop-i.i c.index-programs-i.result c.loop-i-test.true ∙ ap Some (sym c.index-programs-i.is);
  bad = λ may. false≢true (sym c.if-not-may_join.true ∙ c.may_join.ensures.1 may);
  before = c.loop-i.invariant;
}

pub loop-i-preserved : goal.loop-i-preserved
loop-i-preserved c =
    actors_take c.args.config.now c.args.programs.now c.loop-i.i c.index-programs-i.result c.index-programs-i.is c.loop-i-test.true c.loop-i.invariant (c.may_join.ensures.0 c.if-not-may_join.false)
