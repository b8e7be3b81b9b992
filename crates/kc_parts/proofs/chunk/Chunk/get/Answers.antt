use Rattle.std.proofs.Common.{rules, ◌≡◌, ◌<◌, [], ap, sym, length, ◌∙◌, arith}
use Rattle.std.specs.Prelude.{slice_get, Some}
use Rattle.std.proofs.lemmas.Option.{slice_get_past, slice_get_read}
use Rattle.kc_parts.specs.Chunks.{pages_at_boot, pages_of}
use Rattle.kc_parts.proofs.Chunked.{length-of, page-unmade, seen-made}
use Rattle.kc_parts.proofs.chunk.Chunk.get.Goals as goal

pub returns-then-at-self : goal.returns-then-at-self
returns-then-at-self c =
    let p = c.self.inside in
    let long : length c.args.self.now ≡ p.count = ap length (sym c.self.view_is) ∙ length-of p.layout p.first p.count p.pages.items c.self.invariant.whole in
    sym (slice_get_past c.args.self.now c.args.at (omega (arith, long)))

pub returns-then-is_empty : goal.returns-then-is_empty
returns-then-is_empty c =
    let p = c.self.inside in
    let none : p.pages.items ≡ [] = search rules in
    let seen : c.args.self.now ≡ pages_at_boot p.layout p.first p.count = sym c.self.view_is ∙ ap (pages_of p.layout p.first p.count) none in
    let low : c.args.at < p.count = omega arith in
    (λ i. Some (record { meta = c.record.ensures i; bytes = c.requires i })) ∙ sym (page-unmade p.layout p.first p.count c.args.at low) ∙ ap (λ ps. slice_get ps c.args.at) (sym seen)

pub returns : goal.returns
returns c =
    let p = c.self.inside in
    let some : 0 < length p.pages.items = search rules in
    let whole = c.self.invariant.whole some in
    let seen : c.args.self.now ≡ p.pages.items = sym c.self.view_is ∙ seen-made p.layout p.first p.count p.pages.items whole in
    rw seen (sym (slice_get_read p.pages.items p.count c.args.at c.index-page.result.now (sym whole) (omega arith) c.index-page.ensures))
