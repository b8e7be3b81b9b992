use Rattle.std.proofs.Common.{◌≡◌, ℕ, ◌<◌, length, ◌*◌, slice_index}
use Rattle.sha2.specs.Sha256.{word_at}
use Rattle.kc_digests.specs.Lanes.{block, lane, part_of}
use Rattle.kc_digests.proofs.compress.load.Given as goal

abbrev pub invariant-words : goal.invariant-words
invariant-words g l = (length l.w ≡ 16)
    × ((k : ℕ) → k < l.i → (j : ℕ) → j < g.V.Vector.LANES → slice_index (lane g.V.Vector.word j l.w) k ≡ word_at (block l.at (part_of j l.parts)) (4 * k))
