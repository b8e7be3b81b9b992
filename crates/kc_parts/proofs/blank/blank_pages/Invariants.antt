use Rattle.std.proofs.Common.{◌≡◌, replicate}
use Rattle.kc_parts.specs.Parts.{blank_page}
use Rattle.kc_parts.proofs.blank.blank_pages.Given as goal

abbrev pub invariant-loop : goal.invariant-loop
invariant-loop l = l.pages.items ≡ replicate l.counter blank_page
