use Rattle.std.proofs.Common.{◌≡◌, drop}
use Rattle.std.specs.Prelude.{◌↔◌}
use Rattle.kc_live.specs.Settling.{RowFits, marked}
use Rattle.kc_live.proofs.settling.mark_row.Given as goal

abbrev pub invariant-loop-receipt : goal.invariant-loop-receipt
invariant-loop-receipt l = record {
  fits : RowFits l.volume l.initial.seen 0 l.row ↔ RowFits l.volume l.seen l.least (drop l.receipt-index l.row);
  marks : marked l.initial.seen l.row ≡ marked l.seen (drop l.receipt-index l.row);
}
