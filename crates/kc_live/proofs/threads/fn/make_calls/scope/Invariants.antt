use Rattle.std.proofs.Common.{◌≡◌, length, map, vec_len, vec_capacity}
use Rattle.kc_live.proofs.threads.fn.make_calls.scope.Given as goal

abbrev pub invariant-loop-program : goal.invariant-loop-program
invariant-loop-program g l = record {
  count : vec_len l.threads ≡ length l.yielded;
  room : vec_capacity l.threads ≡ vec_capacity l.initial.threads;
  made : l.threads.items ≡ map (λ p. p.calls) l.yielded;
}
