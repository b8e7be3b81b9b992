use Rattle.std.proofs.Common.{◌≡◌, ◌<◌, ◌≤◌, ◌-◌, map}
use Rattle.std.specs.List.{range_with_len}
use Rattle.kc_parts.specs.Booting.{boot_page}
use Rattle.kc_parts.specs.Chunks.{all_pages, AreChunks}
use Rattle.kc_parts.proofs.ChunkLists.{AreFull}
use Rattle.kc_parts.proofs.page_list.PageList.at_boot.Given as goal

abbrev pub invariant-loop-first : goal.invariant-loop-first
invariant-loop-first l = record {
  within : l.first ≤ l.frames;
  all : all_pages l.chunks.items ≡ map (boot_page l.is_reserved l.config) (range_with_len 0 l.first);
  are : AreChunks l.chunks.items;
  full : l.first < l.frames → AreFull l.chunks.items;
}

abbrev pub decreases-loop-first : goal.decreases-loop-first
decreases-loop-first l = l.frames - l.first
