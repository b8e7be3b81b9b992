use Rattle.std.proofs.Common.{rules, ◌≡◌, Some, ap}
use Rattle.kc_replay.proofs.replayer.Replayer.feed.Goals as goal

pub returns-in-Ok-clause-fed : goal.returns-in-Ok-clause-fed
returns-in-Ok-clause-fed g c = record {
  start = c.in-Some.core.state;
  from = search rules;
  given = c.in-Ok.ensures.replayed.replies;
  state = ap Some c.in-Ok.ensures.replayed.state;
  fed = search rules;
  workers = search rules;
}

pub returns-in-Ok-clause-blind : goal.returns-in-Ok-clause-blind
returns-in-Ok-clause-blind g c = λ start from.
    let before : c.args.self.now.state ≡ Some c.in-Some.core.state = search rules in
    let same : c.in-Some.core.state ≡ start = cc in
    rw same at (rw c.in-Ok.ensures.replayed.state at c.in-Ok.ensures.replayed.blind)

pub returns-in-Ok-clause-promises : goal.returns-in-Ok-clause-promises
returns-in-Ok-clause-promises g c = λ start from.
    let before : c.args.self.now.state ≡ Some c.in-Some.core.state = search rules in
    let same : c.in-Some.core.state ≡ start = cc in
    rw same at c.in-Ok.ensures.promises
