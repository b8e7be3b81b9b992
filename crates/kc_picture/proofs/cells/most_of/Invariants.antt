use Rattle.std.proofs.Common.{ℕ, ◌≡◌, ◌<◌, ◌≤◌, ◌^◌, sum, take, slice_index}
use Rattle.kc_picture.proofs.cells.most_of.Given as goal

abbrev pub invariant-loop-i : goal.invariant-loop-i
invariant-loop-i l =
    (sum l.weights < 2 ^ 64 → l.of_vms ≡ sum (take l.i l.weights))
    × ((k : ℕ) → k < l.i → slice_index l.weights k ≤ l.of_vm)
    × (0 < l.of_vm → slice_index l.weights l.vm ≡ l.of_vm)
