use Rattle.std.proofs.Common.{◌∙◌, ap, sym, Some}
use Rattle.std.proofs.lemmas.Option.{slice_get-get_or}
use Rattle.std.proofs.lemmas.Bool.{false≢true}
use Rattle.kc_live.proofs.Planning.{none_take}
use Rattle.kc_live.proofs.cut.place_of.Goals as goal

pub loop-i-preserved : goal.loop-i-preserved
loop-i-preserved c =
    none_take c.args.actor c.args.programs.now c.loop-i.i c.index-programs-i.result c.index-programs-i.is c.loop-i-test.true c.loop-i.invariant
    (λ same. false≢true (sym c.if-is_of.false ∙ c.is_of.ensures.1 same))

pub returns-then-is_of : goal.returns-then-is_of
returns-then-is_of c = record {
  program = c.index-programs-i.result;
  at = slice_get-get_or c.args.programs.now c.loop-i.i c.index-programs-i.result c.loop-i-test.true ∙ ap Some (sym c.index-programs-i.is);
  owned = c.is_of.ensures.0 c.if-is_of.true;
  before = c.loop-i.invariant;
}
