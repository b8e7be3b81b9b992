use Rattle.std.proofs.Common.{◌≡◌, ◌≤◌, false, length, vec_len, vec_capacity}
use Rattle.std.specs.List.{AllZip}
use Rattle.kc_replay.specs.Working.{AnswersAll}
use Rattle.kc_replay.proofs.work.join_workers.Given as goal

abbrev pub invariant-loop-handle : goal.invariant-loop-handle
invariant-loop-handle g l = record {
  count : vec_len l.all ≤ length l.yielded;
  room : vec_capacity l.all ≡ vec_capacity l.initial.all;
  done : l.short ≡ false → AllZip (λ h f. AnswersAll g.S.Setting.config g.S.Setting.calls h.promise.0.value.items f.items) l.yielded l.all.items;
}
