use Rattle.std.proofs.Common.{◌≡◌, ◌≤◌, ◌+◌, length, map, drop, vec_len, vec_capacity}
use Rattle.std.specs.List.{range_with_len}
use Rattle.std.specs.Vec.Iter.{into_iter_items, into_iter_len}
use Rattle.kc_dump.specs.Dump.{line_at}
use Rattle.kc_snapshot.specs.Making.{content_of, page_told}
use Rattle.kc_snapshot.proofs.making.make_pages.Given as goal

abbrev pub invariant-loop-line : goal.invariant-loop-line
invariant-loop-line l = record {
  made : l.pages.items ≡ map (λ f. page_told (line_at l.lines f) (content_of l.fn.bytes.items f)) (range_with_len 0 l.line-index);
  rest : into_iter_items l.rest ≡ drop l.line-index l.fn.bytes.items;
  left : into_iter_len l.rest + l.line-index ≡ length l.lines;
  count : vec_len l.pages ≡ l.line-index;
  room : length l.lines ≤ vec_capacity l.pages;
}
