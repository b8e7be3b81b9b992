use Rattle.std.proofs.Common.{◌≡◌, ◌++◌, map, take, drop}
use Rattle.kc_parts.specs.Marks.{scrubbed_if_marked}
use Rattle.kc_parts.proofs.marks.scrub_each_marked.Given as goal

-- the pages before the index are zero if marked, and the others are as they were
abbrev pub invariant-loop-page : goal.invariant-loop-page
invariant-loop-page l = l.pages ≡ map (scrubbed_if_marked l.fn.marks) (take l.page-index l.initial.pages) ++ drop l.page-index l.initial.pages
