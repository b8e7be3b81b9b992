use Rattle.std.proofs.Common.{refl}
use Rattle.kc_digests.proofs.state.initial.Goals as goal

pub returns : goal.returns
returns g c = λ j low. rw (
  c.splat.ensures j low,
  c.splat-2.ensures j low,
  c.splat-3.ensures j low,
  c.splat-4.ensures j low,
  c.splat-5.ensures j low,
  c.splat-6.ensures j low,
  c.splat-7.ensures j low,
  c.splat-8.ensures j low,
) refl
