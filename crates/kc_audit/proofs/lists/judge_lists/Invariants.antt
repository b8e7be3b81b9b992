use Rattle.std.proofs.Common.{ℕ, ◌≡◌, ◌<◌, ◌+◌, false, length, get_or}
use Rattle.std.specs.Prelude.{◌↔◌, IsTrue}
use Rattle.kc_dump.specs.Lists.{HasList}
use Rattle.kc_audit.specs.Findings.{list_owner, list_ends}
use Rattle.kc_audit.proofs.lists.judge_lists.Given as goal

abbrev pub invariant-loop-i : goal.invariant-loop-i
invariant-loop-i l = record {
  count : length l.out ≡ length l.initial.out;
  each : (k : ℕ) → k < l.i → IsTrue (get_or l.out k false) ↔ HasList l.dump.frames (list_owner (l.start + k)) (list_ends l.dump (l.start + k));
}
