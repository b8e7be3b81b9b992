use Rattle.std.proofs.Common.{◌≡◌, ◌≤◌, vec_len, length, take}
use Rattle.std.specs.Vec.{vec_capacity}
use Rattle.kc_model.specs.Next.{replies_from, state_after}
use Rattle.kc_core.proofs.kcore.KCore.run.Given as goal

abbrev pub invariant-loop-done : goal.invariant-loop-done
invariant-loop-done l = record {
  replies : l.replies.items ≡ replies_from l.fn.self.state (take l.done l.calls);
  state : l.self.state ≡ state_after l.fn.self.state (take l.done l.calls);
  reserved : l.self.is_reserved ≡ l.fn.self.is_reserved;
  count : vec_len l.replies ≡ l.done;
  room : length l.calls ≤ vec_capacity l.replies;
}
