use Rattle.std.proofs.Common.{◌≡◌, ◌++◌}
use Rattle.kc_core.specs.KCore.{state_in}
use Rattle.kc_redact_text.specs.Made.{redacted_by, core_after, replies_by, CountsMore}
use Rattle.kc_redact_text.proofs.reading.push_each.Given as goal

-- the calls so far are kept, made and counted
abbrev pub invariant-loop-call : goal.invariant-loop-call
invariant-loop-call l = record {
  kept : l.calls.items ≡ l.fn.calls.items ++ redacted_by (state_in l.fn.core) l.yielded;
  made : (state_in l.core) ≡ core_after (state_in l.fn.core) l.yielded;
  counted : CountsMore (replies_by (state_in l.fn.core) l.yielded) l.fn.denials l.denials;
}
