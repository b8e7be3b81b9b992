use Rattle.std.proofs.Common.{◌≡◌, ◌≤◌, false, length, vec_len, vec_capacity}
use Rattle.std.specs.List.{AllZip}
use Rattle.kc_replay.proofs.work.fn.run_beside.scope.Given as goal

abbrev pub invariant-loop-list : goal.invariant-loop-list
invariant-loop-list g l = record {
  count : vec_len l.handles ≤ length l.yielded;
  room : vec_capacity l.handles ≡ vec_capacity l.initial.handles;
  made : l.refused ≡ false → AllZip (λ list h. h.promise.0.value ≡ list) l.yielded l.handles.items;
}
