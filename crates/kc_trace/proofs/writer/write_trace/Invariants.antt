use Rattle.std.proofs.Common.{◌≡◌, take}
use Rattle.std.specs.List.{AllByRecursion}
use Rattle.kc_model.specs.Ranged.{IsRanged}
use Rattle.kc_trace.specs.Spelling.{header_of, text_of}
use Rattle.kc_trace.proofs.writer.write_trace.Given as goal

-- the text of the calls so far, under the header of all
abbrev pub invariant-loop-call : goal.invariant-loop-call
invariant-loop-call l = record {
  text : l.text.items ≡ text_of (header_of l.calls) (take l.call-index l.calls);
  ranged : AllByRecursion IsRanged (take l.call-index l.calls);
}
