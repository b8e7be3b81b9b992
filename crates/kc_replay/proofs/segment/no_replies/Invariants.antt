use Rattle.std.proofs.Common.{◌≡◌, vec_len}
use Rattle.kc_replay.proofs.segment.no_replies.Given as goal

abbrev pub invariant-loop : goal.invariant-loop
invariant-loop l = vec_len l.replies ≡ l.counter
