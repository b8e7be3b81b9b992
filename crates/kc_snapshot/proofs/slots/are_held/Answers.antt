use Rattle.std.proofs.Common.{ℕ, ◌≡◌, true, get_or, refl, sym, ap, ◌∙◌}
use Rattle.std.specs.List.{list_any}
use Rattle.std.proofs.lemmas.List.{take_all, get_or_read}
use Rattle.std.proofs.lemmas.List.Elements.{All-more}
use Rattle.kc_model.specs.Lawful.{holds}
use Rattle.kc_snapshot.proofs.slots.are_held.Goals as goal

pub returns-then-not-any_holds : goal.returns-then-not-any_holds
returns-then-not-any_holds c = (
  λ no. cc,
  λ all.
      let item : c.entry-item.result ≡ get_or c.args.entries.now c.loop-entry.entry-index (0, 0) = get_or_read c.args.entries.now c.loop-entry.entry-index c.entry-item.result c.loop-entry-test.true c.entry-item.is (0, 0) in
      let gfn : c.from.result ≡ (get_or c.args.entries.now c.loop-entry.entry-index (0, 0)).0 = c.from.ensures ∙ c.number.ensures.value ∙ ap (λ (e : ℕ × ℕ). e.0) item in
      sym c.if-not-any_holds.true ∙ c.any_holds.ensures ∙ ap (λ g. list_any (holds g) c.args.images.now) gfn ∙ all c.loop-entry.entry-index (0, 0) c.loop-entry-test.true,
)

pub loop-entry-preserved : goal.loop-entry-preserved
loop-entry-preserved c =
    let item : c.entry-item.result ≡ get_or c.args.entries.now c.loop-entry.entry-index (0, 0) = get_or_read c.args.entries.now c.loop-entry.entry-index c.entry-item.result c.loop-entry-test.true c.entry-item.is (0, 0) in
    let gfn : c.from.result ≡ (get_or c.args.entries.now c.loop-entry.entry-index (0, 0)).0 = c.from.ensures ∙ c.number.ensures.value ∙ ap (λ (e : ℕ × ℕ). e.0) item in
    All-more (λ (e : ℕ × ℕ). list_any (holds e.0) c.args.images.now ≡ true) c.args.entries.now c.loop-entry.entry-index (0, 0) c.loop-entry-test.true c.loop-entry.invariant
    (ap (λ g. list_any (holds g) c.args.images.now) (sym gfn) ∙ sym c.any_holds.ensures ∙ c.if-not-any_holds.false)

pub returns : goal.returns
returns c = (λ yes. rw (take_all c.loop-entry.entry-index c.args.entries.now c.loop-entry-test.false) at c.loop-entry.invariant, λ all. refl)
