use Rattle.kc_model.proofs.Local.Agreeing.{on-parts}
use Rattle.kc_model.proofs.Local.Parts.{orderly-cut, need-merged}
use Rattle.kc_model.proofs.Lawful.LawfulTraces.{orderly-is}
use Rattle.kc_core.proofs.Restricted.{able-cut, reply-is, closed-after, restricted-after}
use Rattle.kc_core.proofs.laws.locality.Goals as goal

pub returns : goal.returns
returns c = record {
  states = record {
    step = λ here m rest held left call reply lawful within parts replied leaves. on-parts held left call reply replied leaves here m rest (orderly-is m lawful) within parts;
    orderly = λ here m lawful. orderly-cut m here (orderly-is m lawful);
    needs = λ here m rest call within. need-merged here m rest call within;
  };
  parts = record {
    able = able-cut;
    step = λ m here old new call reply lawful closed restricted within answer. (
      reply-is m here old new call reply lawful closed restricted within answer,
      restricted-after m here old new call reply lawful closed restricted within answer,
    );
    closed = closed-after;
  };
}
