use Rattle.std.proofs.Common.{◌≡◌, length}
use Rattle.std.specs.Prelude.{vec_capacity}
use Rattle.kc_parts.specs.Chunks.{pages_at_boot}
use Rattle.kc_parts.proofs.chunk.push_pages.Given as goal

abbrev pub invariant-loop-i : goal.invariant-loop-i
invariant-loop-i l = record {
  items : l.pages.items ≡ pages_at_boot l.layout l.first l.i;
  long : length l.pages.items ≡ l.i;
  capacity : vec_capacity l.pages ≡ vec_capacity l.initial.pages;
}
