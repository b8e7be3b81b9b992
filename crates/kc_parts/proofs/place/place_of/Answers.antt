use Rattle.std.proofs.Common.{◌≢◌, ◌<◌, ◌≤◌, ℕ, length, List, get_or, Ok, Err, inl, inr, ap, sym, arith}
use Rattle.std.proofs.lemmas.List.Sorted.{searched}
use Rattle.std.proofs.lemmas.Bool.{cases_lt}
use Rattle.std.proofs.Math.Nat.{eq-or-lt_of_le}
use Rattle.kc_parts.specs.Parts.{IsRising}
use Rattle.kc_parts.proofs.Places.{place-found, place-none}
use Rattle.kc_parts.proofs.place.place_of.Goals as goal

rises : (ns : List ℕ) → IsRising ns → (i j : ℕ) → i ≤ j → j < length ns → get_or ns i 0 ≤ get_or ns j 0
rises ns rising i j le within = elim (eq-or-lt_of_le le) [
  | inl is ↦ let same = ap (λ n. get_or ns n 0) is in omega (arith, same)
  | inr less ↦ let step : get_or ns i 0 < get_or ns j 0 = rising i j less within in omega (arith, step)
]

apart : (ns : List ℕ) (x i : ℕ) → ((k : ℕ) → k < i → get_or ns k 0 < x) → ((k : ℕ) → i ≤ k → k < length ns → x < get_or ns k 0) → (k : ℕ) → k < length ns → get_or ns k 0 ≢ x
apart ns x i low high k within e = elim (cases_lt k i) [
  | inl before ↦ let l = low k before in omega (arith, l, e)
  | inr after ↦ let l = high k after within in omega (arith, l, e)
]

pub returns-then-numbers-at : goal.returns-then-numbers-at
returns-then-numbers-at c = sym (place-found c.args.numbers.now c.args.number c.args.number c.requires c.if-at-numbers.true c.if-numbers-at.true)

pub returns-in-Ok : goal.returns-in-Ok
returns-in-Ok c =
    let ns = c.args.numbers.now in
    let found = searched ns c.args.number (Ok c.in-Ok.at) c.in-Ok.ensures.position (rises ns c.requires) in
    sym (place-found ns c.in-Ok.at c.args.number c.requires found.0 found.1)

pub returns-in-Err : goal.returns-in-Err
returns-in-Err c =
    let ns = c.args.numbers.now in
    let found = searched ns c.args.number (Err c.in-Err.field-0) c.in-Err.ensures.position (rises ns c.requires) in
    sym (place-none ns c.args.number (apart ns c.args.number c.in-Err.field-0 found.1 found.2))
