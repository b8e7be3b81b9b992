use Rattle.std.proofs.Common.{◌≡◌, take, rules}
use Rattle.std.proofs.lemmas.List.{take_all}
use Rattle.kc_trace.specs.Spelling.{header_of}
use Rattle.kc_trace.proofs.Written.{are_calls, valid_header}
use Rattle.kc_trace.proofs.writer.write_trace.Goals as goal

pub returns-clause-read : goal.returns-clause-read
returns-clause-read c =
    let all : take c.loop-call.call-index c.args.calls.now ≡ c.args.calls.now = take_all c.loop-call.call-index c.args.calls.now (search rules) in (
      header_of c.args.calls.now,
      record {
        valid = valid_header c.args.calls.now;
        whole = rw all at c.loop-call.invariant.text;
        each = are_calls c.args.calls.now (rw all at c.loop-call.invariant.ranged);
        few = c.requires;
      },
    )
