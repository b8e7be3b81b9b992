use Rattle.std.proofs.Common.{◌≡◌, ◌++◌, map, take, drop}
use Rattle.kc_page.specs.Page.{scrubbed_page}
use Rattle.kc_parts.proofs.page_list.scrub_chunks.Given as goal

-- the chunks before the index are changed, and the others are as they were
abbrev pub invariant-loop-chunk : goal.invariant-loop-chunk
invariant-loop-chunk g l = l.chunks ≡ map (map scrubbed_page) (take l.chunk-index l.initial.chunks) ++ drop l.chunk-index l.initial.chunks
