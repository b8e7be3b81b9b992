use Rattle.std.proofs.Common.{ℕ, ◌≡◌, ◌-◌, ◌*◌, ◌≤◌, List, ◌++◌, take, length}
use Rattle.std.specs.List.{flat_map, range_with_len}
use Rattle.std.specs.FinMap as map
use Rattle.kc_vms.specs.Measure.{WasFed}
use Rattle.kc_core.specs.Verifying.{bytes_under}
use Rattle.kc_core.proofs.verify.feed_image.Given as goal

-- what was fed after what came first are the bytes of the image in the pages so far
abbrev pub invariant-loop-gfn : goal.invariant-loop-gfn
invariant-loop-gfn l = record {
  from : l.image.base ≤ l.gfn;
  fed : (first : List ℕ) → WasFed l.fn.measure first → WasFed l.measure (first ++ take l.image.len (flat_map (bytes_under l.parts (map.get l.table.mapped)) (range_with_len l.image.base (l.gfn - l.image.base))));
  left : l.left ≡ l.image.len - 4096 * (l.gfn - l.image.base);
  whole : length (flat_map (bytes_under l.parts (map.get l.table.mapped)) (range_with_len l.image.base (l.gfn - l.image.base))) ≡ 4096 * (l.gfn - l.image.base);
}
