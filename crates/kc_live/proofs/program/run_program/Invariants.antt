use Rattle.std.proofs.Common.{◌≡◌}
use Rattle.kc_live.specs.Program.{receipt_calls}
use Rattle.kc_live.proofs.program.run_program.Given as goal

abbrev pub invariant-loop-call : goal.invariant-loop-call
invariant-loop-call g l = record {
  made : receipt_calls l.seat.receipts ≡ l.yielded;
  actor : l.seat.actor ≡ l.initial.seat.actor;
}
