use Rattle.std.proofs.Common.{◌≡◌, ◌+◌, ◌-◌, refl, ap, ◌∙◌, arith}
use Rattle.std.specs.List.{range_with_len}
use Rattle.std.proofs.lemmas.List.FromFn.{length-range_with_len}
use Rattle.kc_parts.proofs.Boots.{numbers-more}
use Rattle.kc_parts.proofs.frame_numbers.FrameNumbers.pop.Goals as goal
use Rattle.kc_parts.proofs.frame_numbers.FrameNumbers.pop.Goals.{in-Below-eq0, in-Below, in-Listed}

pub returns-clause-items : goal.returns-clause-items
returns-clause-items c = elim c.match-self.branch [
  | in-Below-eq0 w ↦ rw (← c.self.view_is, w.in-Below-eq0.is, w.self-inside-is, w.result-is, w.in-Below-eq0.field-0-test) refl
  | in-Below w ↦
      let last : w.in-Below.limit ≡ (w.in-Below.limit - 1) + 1 = omega (arith, w.in-Below.limit-test.1) in
      rw (← c.self.view_is, w.in-Below.is, w.self-inside-is, w.result-is) (ap (range_with_len 0) last ∙ numbers-more (w.in-Below.limit - 1))
  | in-Listed w ↦ rw (← c.self.view_is, w.in-Listed.is, w.self-inside-is, w.result-is) w.pop.ensures.items
]

pub returns-clause-some : goal.returns-clause-some
returns-clause-some c = elim c.match-self.branch [
  | in-Below-eq0 w ↦ rw (← c.self.view_is, w.in-Below-eq0.is, w.result-is, w.in-Below-eq0.field-0-test) (λ e. cc, λ some. absurd (omega (arith, some)))
  | in-Below w ↦ rw (← c.self.view_is, w.in-Below.is, w.result-is) (λ e. (let count = length-range_with_len 0 w.in-Below.limit in let some = w.in-Below.limit-test.1 in omega (arith, count, some)), λ some. refl)
  | in-Listed w ↦ rw (← c.self.view_is, w.in-Listed.is, w.result-is) (λ e. (let some = w.pop.ensures.variant.0 e in omega (arith, some, w.in-Listed.numbers.ok.0)), λ some. w.pop.ensures.variant.1 (omega (arith, some, w.in-Listed.numbers.ok.0)))
]
