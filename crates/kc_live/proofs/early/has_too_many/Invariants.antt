use Rattle.std.proofs.Common.{◌≡◌, ◌+◌, ◌≤◌, length, drop}
use Rattle.std.specs.Prelude.{sum_by}
use Rattle.kc_live.proofs.early.has_too_many.Given as goal

abbrev pub invariant-loop-program : goal.invariant-loop-program
invariant-loop-program l = record {
  few : l.count ≤ 65536;
  count : l.count + sum_by (λ p. length p.calls) (drop l.program-index l.programs) ≡ sum_by (λ p. length p.calls) l.programs;
}
