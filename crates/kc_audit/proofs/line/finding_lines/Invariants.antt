use Rattle.std.proofs.Common.{◌≡◌, take}
use Rattle.std.specs.List.{flat_map}
use Rattle.kc_audit.specs.Report.{finding_line}
use Rattle.kc_audit.proofs.line.finding_lines.Given as goal

-- the lines of the findings so far
abbrev pub invariant-loop-finding : goal.invariant-loop-finding
invariant-loop-finding l = l.text.items ≡ flat_map finding_line (take l.finding-index l.found)
