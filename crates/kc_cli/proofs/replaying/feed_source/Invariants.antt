use Rattle.std.proofs.Common.{◌≡◌, ◌≤◌, ◌-◌, ℕ, List, false}
use Rattle.std.specs.Prelude.{IsSome}
use Rattle.kc_types.specs.declared.call.Call.{Call}
use Rattle.kc_types.specs.Limits.{byte_limit}
use Rattle.kc_texts.specs.Streamed.{HasRead}
use Rattle.kc_replay.specs.Replayer.{IsFed}
use Rattle.kc_cli.specs.Traced.{MayHaveWitnessed}
use Rattle.kc_cli.specs.Engine.{IsKept}
use Rattle.kc_cli.proofs.replaying.feed_source.Given as goal

abbrev pub invariant-loop-witness : goal.invariant-loop-witness
invariant-loop-witness g l = record {
  read : (bytes : List ℕ) × (calls : List Call) × HasRead l.stream bytes calls (g.T.Source.left l.fn.trace) (g.T.Source.left l.trace) × IsFed l.fn.replayer l.replayer calls l.replies.items × IsKept l.form l.calls.items calls
      × MayHaveWitnessed l.is_placed false l.stream.reader.progress.header l.witness calls;
  few : l.stream.total ≤ byte_limit;
  mark : g.T.Source.failed l.trace ≡ false;
  whole : IsSome l.replayer.state;
  workers : l.replayer.workers ≡ l.fn.replayer.workers;
}

abbrev pub decreases-loop-witness : goal.decreases-loop-witness
decreases-loop-witness g l = byte_limit - l.stream.total
