use Rattle.std.proofs.Common.{◌≡◌, take}
use Rattle.kc_model.specs.Next.{replies_from, state_after}
use Rattle.kc_replay.proofs.segment.answer_in_order.Given as goal

abbrev pub invariant-loop-number : goal.invariant-loop-number
invariant-loop-number g l = record {
  replies : l.replies.items ≡ replies_from l.fn.core.state (take l.number l.calls);
  state : l.core.state ≡ state_after l.fn.core.state (take l.number l.calls);
  config : l.core.state.config ≡ l.fn.core.state.config;
}
