use Rattle.std.proofs.Common.{◌≡◌, ◌++◌, [], rules}
use Rattle.kc_texts.proofs.Fed.{few_bytes}
use Rattle.kc_texts.proofs.stream.read_whole_trace.Goals as goal

pub loop-calls-init : goal.loop-calls-init
loop-calls-init g c = record {
  read = ([], rw c.new-calls.ensures.items (c.new-stream.ensures.read (g.T.Source.left c.args.source.now)));
  few = search rules;
  whole = c.requires;
}

pub returns-in-Ok-clause-ok : goal.returns-in-Ok-clause-ok
returns-in-Ok-clause-ok g c =
    let before = c.loop-calls.invariant.read in
    let now = c.in_ok-part.ensures.calls before.0 c.loop-calls.calls.items (g.T.Source.left c.args.source.now) before.1 in
    let grown : c.append.new.self.items ≡ c.loop-calls.calls.items ++ c.in_ok-part.part.calls.items = search rules in
    rw grown (c.in-Ok.ensures.ok (before.0 ++ now.0) _ _ _ now.1 (c.in_ok-part.ensures.last c.if-is_last.true))

pub returns-in-Ok-clause-few : goal.returns-in-Ok-clause-few
returns-in-Ok-clause-few g c = λ read memory.
    let before = c.loop-calls.invariant.read in
    let now = c.in_ok-part.ensures.calls before.0 c.loop-calls.calls.items (g.T.Source.left c.args.source.now) before.1 in
    few_bytes _ _ _ _ _ now.1 (c.in_ok-part.ensures.last c.if-is_last.true) c.in_ok-part.ensures.few

pub returns-in-Err-clause-few : goal.returns-in-Err-clause-few
returns-in-Err-clause-few g c = λ read memory.
    let before = c.loop-calls.invariant.read in
    let now = c.in_ok-part.ensures.calls before.0 c.loop-calls.calls.items (g.T.Source.left c.args.source.now) before.1 in
    few_bytes _ _ _ _ _ now.1 (c.in_ok-part.ensures.last c.if-is_last.true) c.in_ok-part.ensures.few
