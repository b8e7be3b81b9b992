use Rattle.kc_cli.proofs.Witnessed.{none_needed, needed_more}
use Rattle.kc_cli.proofs.telling.witness_more.Goals as goal

pub returns-then-not-is_needed-clause-seen : goal.returns-then-not-is_needed-clause-seen
returns-then-not-is_needed-clause-seen c = λ before first same none h. none_needed _ _ _ _ _ c.if-not-is_needed.true

pub returns-clause-seen : goal.returns-clause-seen
returns-clause-seen c = λ before first same none h. needed_more c.args.is_needed c.args.is_named before _ _ _ first _ (λ seen. c.note_all.ensures c.args.is_named _ first none (c.in_ok-witness.ensures.seen before first same seen)) h
