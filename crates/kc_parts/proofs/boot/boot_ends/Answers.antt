use Rattle.std.proofs.Common.{ℕ, zero, suc, ◌≡◌, ◌<◌, ◌+◌, ◌-◌, Some, refl, sym, ap, ◌∙◌, arith}
use Rattle.std.proofs.lemmas.Grind.{common_steps}
use Rattle.std.specs.List.{range_with_len}
use Rattle.kc_model.specs.Linked.{ends_of}
use Rattle.kc_parts.proofs.Ascending.{ends-range}
use Rattle.kc_parts.proofs.boot.boot_ends.Goals as goal

-- the ends of the numbers from one on, below another
ends-below : (a b : ℕ) → a < b → record { head = Some a; tail = Some (b - 1); count = b - a } ≡ ends_of (range_with_len a (b - a))
ends-below a b low = by_count (b - a) refl
  where
    by_count : (n : ℕ) → b - a ≡ n → record { head = Some a; tail = Some (b - 1); count = n } ≡ ends_of (range_with_len a n)
    by_count zero none = absurd (omega (arith, low, none))
    by_count (suc n) some = let last : b - 1 ≡ a + n = omega (arith, some) in ap (λ (tail : ℕ). record { head = Some a; tail = Some tail; count = suc n }) last ∙ sym (ends-range a n)

pub returns-clause-value : goal.returns-clause-value
returns-clause-value c =
    let config = c.args.config.now in
    let head : c.try_new.result ≡ Some (config.core + config.host) = grind (arith, common_steps) in
    let tail : c.try_new-2.result ≡ Some (config.frames - 1) = grind (arith, common_steps) in
    let count : c.frames-frames.result - (c.core.result + c.host.result) ≡ config.frames - (config.core + config.host) = omega arith in
    (λ i. record { head = head i; tail = tail i; count = count i }) ∙ ends-below (config.core + config.host) config.frames (omega arith)
