use Rattle.std.proofs.Common.{drop, map}
use Rattle.std.specs.Prelude.{◌↔◌}
use Rattle.kc_live.specs.Settling.{RowsFit}
use Rattle.kc_live.proofs.settling.mark_rows.Given as goal

abbrev pub invariant-loop-row : goal.invariant-loop-row
invariant-loop-row l =
    RowsFit l.volume l.initial.seen (map (λ v. v.items) l.rows) ↔ RowsFit l.volume l.seen (map (λ v. v.items) (drop l.row-index l.rows))
