use Rattle.std.proofs.Common.{◌≡◌, ap, sym, length, ◌∙◌, eq-eqb, eqb-true}
use Rattle.kc_parts.proofs.Chunked.{length-of, none-made}
use Rattle.kc_parts.proofs.chunk.Chunk.is_empty.Goals as goal

pub returns : goal.returns
returns c =
    let p = c.self.inside in
    let long : length c.args.self.now ≡ p.count = ap length (sym c.self.view_is) ∙ length-of p.layout p.first p.count p.pages.items c.self.invariant.whole in
    (λ zero. none-made c.args.self.now (long ∙ eqb-true p.count 0 zero), λ none. eq-eqb p.count 0 (sym long ∙ ap length none))
