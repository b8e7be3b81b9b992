use Rattle.std.proofs.Common.{◌≡◌, ◌++◌, map, take, drop}
use Rattle.kc_parts.specs.Marks.{scrubbed_if_marked}
use Rattle.kc_parts.proofs.page_list.scrub_marked_chunks.Given as goal

-- the chunks before the index are changed, and the others are as they were
abbrev pub invariant-loop-chunk : goal.invariant-loop-chunk
invariant-loop-chunk l = l.chunks ≡ map (map (scrubbed_if_marked l.fn.marks)) (take l.chunk-index l.initial.chunks) ++ drop l.chunk-index l.initial.chunks
