use Rattle.std.proofs.Common.{refl}
use Rattle.std.proofs.lemmas.Bool.Decides.{Decides-eqb}
use Rattle.std.proofs.lemmas.Slice.Eq.{slice_eq-Decides}
use Rattle.kc_trace.proofs.expected.are_same.Goals as goal

pub returns : goal.returns
returns c = slice_eq-Decides (λ a b. slice_eq-Decides Decides-eqb a b _ refl) _ _ _ c.eq.ensures
