use Rattle.std.proofs.Common.{◌≡◌, ◌<◌, ◌+◌, refl, sym, ap, ◌∙◌, arith}
use Rattle.kc_snapshot.proofs.Mapped.{has}
use Rattle.kc_snapshot.proofs.slots.is_mapped.Goals as goal

pub returns-then-not-has_entry : goal.returns-then-not-has_entry
returns-then-not-has_entry c = (
  λ no. cc,
  λ all.
      let base = c.from.ensures in
      let page = c.from-in-loop-page.ensures in
      let gfn : c.from.result + c.from-in-loop-page.result ≡ c.args.image.now.base + c.loop-page.page = omega (arith, base, page) in
      sym c.if-not-has_entry.true ∙ c.has_entry.ensures ∙ ap (has c.args.entries.now) gfn ∙ all c.loop-page.page c.loop-page-test.true,
)

pub returns : goal.returns
returns c =
    let past = c.loop-page-test.false in
    (λ yes k low. c.loop-page.invariant k (omega (arith, past, low)), λ all. refl)
