use Rattle.std.proofs.Common.{◌≡◌, ◌<◌, ◌++◌, length}
use Rattle.kc_parts.specs.Chunks.{all_pages, AreChunks}
use Rattle.kc_parts.proofs.ChunkLists.{AreFull}
use Rattle.kc_parts.proofs.page_list.PageList.of.Given as goal

abbrev pub invariant-loop-pages : goal.invariant-loop-pages
invariant-loop-pages l = record {
  are : AreChunks l.chunks.items;
  full : 0 < length l.pages.items → AreFull l.chunks.items;
  all : all_pages l.chunks.items ++ l.pages.items ≡ l.initial.pages.items;
}

abbrev pub decreases-loop-pages : goal.decreases-loop-pages
decreases-loop-pages l = length l.pages.items
