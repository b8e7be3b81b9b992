use Rattle.std.proofs.Common.{◌≡◌, ◌≤◌, ◌==◌, take}
use Rattle.std.specs.List.{count_by}
use Rattle.kc_state_text.proofs.comparing.newlines.Given as goal

-- those so far
abbrev pub invariant-loop-byte : goal.invariant-loop-byte
invariant-loop-byte l = record { number : l.count ≡ count_by (λ b. b == 10) (take l.byte-index l.bytes); few : l.count ≤ l.byte-index }
