use Rattle.std.proofs.Common.{◌≡◌, map}
use Rattle.std.specs.List.{range_with_len}
use Rattle.sha2.specs.Sha256.{sha256}
use Rattle.kc_model.specs.State.{frame_at}
use Rattle.kc_snapshot.specs.Form.{in_form}
use Rattle.kc_snapshot.proofs.digesting.frame_digests_alone.Given as goal

abbrev pub invariant-loop-number : goal.invariant-loop-number
invariant-loop-number l = l.digests.items ≡ map (λ f. sha256 (frame_at (in_form l.form l.core.state) f).bytes) (range_with_len 0 l.number)
