use Rattle.std.proofs.Common.{◌≡◌, map}
use Rattle.std.specs.List.{range_with_len}
use Rattle.std.specs.Borrow.{Bor}
use Rattle.kc_model.specs.State.{frame_at}
use Rattle.kc_page.specs.PageBytes.{Content}
use Rattle.kc_core.proofs.kcore.KCore.all_bytes.Given as goal

-- the bytes of the frames so far
abbrev pub invariant-loop-number : goal.invariant-loop-number
invariant-loop-number l = map (λ (lent : Bor Content). lent.now.bytes) l.all.items ≡ map (λ f. (frame_at l.self.state f).bytes) (range_with_len 0 l.number)
