use Rattle.std.proofs.Common.{◌≡◌, ◌++◌, ℕ, List, length}
use Rattle.kc_trace.specs.declared.header.Header.{Header}
use Rattle.kc_trace.specs.Header.{IsHeader, ended_lines, trace_header}
use Rattle.kc_trace.proofs.HeadStages.{lines_so_far, IsSoFar}
use Rattle.kc_trace.proofs.HeaderCuts.{GoesOnAs}
use Rattle.kc_trace.proofs.head_reader.read_header.Given as goal

-- the bytes are the lines that were read, and what is left; and they go on as each header does that they begin with
abbrev pub invariant-loop-line : goal.invariant-loop-line
invariant-loop-line l = record {
  whole : l.bytes ≡ ended_lines (lines_so_far l.head) ++ l.rest;
  is : IsSoFar l.head;
  on : (header : Header) (after : List ℕ) → IsHeader header → l.bytes ≡ trace_header header ++ after → GoesOnAs l.head l.rest header after;
}

abbrev pub decreases-loop-line : goal.decreases-loop-line
decreases-loop-line l = length l.rest
