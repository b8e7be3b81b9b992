use Rattle.std.proofs.Common.{◌≡◌, ◌≤◌, ◌+◌, ◌-◌, ◌++◌, ℕ, List, length, false}
use Rattle.kc_types.specs.Limits.{byte_limit}
use Rattle.kc_types.specs.declared.call.Call.{Call}
use Rattle.kc_model.specs.State.{State}
use Rattle.kc_model.specs.Lawful.{IsLawful}
use Rattle.kc_texts.specs.declared.order.CustodyForm.{CustodyForm}
use Rattle.kc_cli.specs.Traced.{MayHaveWitnessed}
use Rattle.kc_cli.specs.Ledgers.{HasKept}
use Rattle.kc_texts.specs.Streamed.{HasRead}
use Rattle.kc_cli.proofs.telling.Kept.tell.Given as goal

-- what is kept is also of the calls that came so far, and so is what the witness has seen
abbrev pub invariant-loop-stream : goal.invariant-loop-stream
invariant-loop-stream g l = record {
  read : (bytes : List ℕ) × (calls : List Call) × HasRead l.stream bytes calls (g.T.Source.left l.fn.trace) (g.T.Source.left l.trace)
      × (l.self.line ≡ l.fn.self.line + length calls) × (l.self.denials.total ≤ l.fn.self.denials.total + length calls) × MayHaveWitnessed l.is_needed l.is_named l.stream.reader.progress.header l.witness calls
      × ((form : CustodyForm) (start : State) (before : List Call) → IsLawful start → HasKept form start before l.fn.core.state l.fn.self → HasKept form start (before ++ calls) l.core.state l.self);
  few : l.stream.total ≤ byte_limit;
  mark : g.T.Source.failed l.trace ≡ false;
  config : l.core.state.config ≡ l.fn.core.state.config;
}

abbrev pub decreases-loop-stream : goal.decreases-loop-stream
decreases-loop-stream g l = byte_limit - l.stream.total
