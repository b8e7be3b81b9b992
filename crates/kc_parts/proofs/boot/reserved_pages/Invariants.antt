use Rattle.std.proofs.Common.{◌≡◌, map, true}
use Rattle.std.specs.List.{range_with_len}
use Rattle.kc_parts.specs.Booting.{boot_page}
use Rattle.kc_parts.proofs.boot.reserved_pages.Given as goal

abbrev pub invariant-loop-i : goal.invariant-loop-i
invariant-loop-i l = l.pages.items ≡ map (boot_page true l.config) (range_with_len l.first l.i)
