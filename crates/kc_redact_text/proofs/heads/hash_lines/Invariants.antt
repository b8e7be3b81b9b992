use Rattle.std.proofs.Common.{ℕ, List, ◌≤◌, ◌++◌, take}
use Rattle.std.specs.Vec.{vec_capacity}
use Rattle.sha2.specs.Hashers.{Holds256}
use Rattle.kc_trace.specs.Spelling.{lines_of, longest_call}
use Rattle.kc_redact_text.proofs.heads.hash_lines.Given as goal

-- the lines of the first calls were hashed
abbrev pub invariant-loop-call : goal.invariant-loop-call
invariant-loop-call l = record {
  hashed : (bytes : List ℕ) → Holds256 l.fn.hasher bytes → Holds256 l.hasher (bytes ++ lines_of (take l.call-index l.calls));
  room : longest_call ≤ vec_capacity l.line;
}
