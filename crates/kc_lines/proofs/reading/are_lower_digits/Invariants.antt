use Rattle.std.proofs.Common.{◌≡◌, take}
use Rattle.std.specs.List.{list_all}
use Rattle.kc_lines.specs.Words.{is_lower_digit}
use Rattle.kc_lines.proofs.reading.are_lower_digits.Given as goal

-- the bytes so far
abbrev pub invariant-loop-i : goal.invariant-loop-i
invariant-loop-i l = l.valid ≡ list_all is_lower_digit (take l.i l.word)
