use Rattle.std.proofs.Common.{take}
use Rattle.std.specs.Str.Parse.{digits_value}
use Rattle.kc_lines.proofs.Values.{IsCut}
use Rattle.kc_lines.proofs.reading.value_of.Given as goal

-- the digits so far
abbrev pub invariant-loop-i : goal.invariant-loop-i
invariant-loop-i l = IsCut (digits_value 10 (take l.i l.word)) l.value
