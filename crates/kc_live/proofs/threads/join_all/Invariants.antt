use Rattle.std.proofs.Common.{◌≡◌, ◌≤◌, length, map, vec_len, vec_capacity, None}
use Rattle.kc_live.specs.Program.{receipt_calls}
use Rattle.kc_live.specs.Threads.{AreBeginnings}
use Rattle.kc_live.proofs.threads.join_all.Given as goal

abbrev pub invariant-loop-thread : goal.invariant-loop-thread
invariant-loop-thread g l = record {
  count : vec_len l.rows ≤ length l.yielded;
  room : vec_capacity l.rows ≡ vec_capacity l.initial.rows;
  begun : AreBeginnings (map (λ row. receipt_calls row.items) l.rows.items) l.yielded;
  whole : l.stop ≡ None → map (λ row. receipt_calls row.items) l.rows.items ≡ l.yielded;
}
