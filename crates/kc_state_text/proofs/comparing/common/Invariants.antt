use Rattle.std.proofs.Common.{◌≡◌, take}
use Rattle.kc_state_text.proofs.comparing.common.Given as goal

-- what was compared so far is the same
abbrev pub invariant-loop-i : goal.invariant-loop-i
invariant-loop-i l = take l.i l.text ≡ take l.i l.bytes
