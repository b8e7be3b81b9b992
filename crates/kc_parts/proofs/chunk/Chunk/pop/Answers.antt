use Rattle.std.proofs.Common.{◌≡◌, ◌+◌, ◌++◌, ◌∷◌, [], length, length-append, sym, ap, ◌∙◌, arith}
use Rattle.kc_parts.proofs.Chunked.{length-of, seen-made}
use Rattle.kc_parts.proofs.chunk.Chunk.pop.Goals as goal
use Rattle.kc_parts.proofs.chunk.Chunk.pop.Goals.{In_ok-page}

-- all pages were made, and the last was taken away
long : (c : In_ok-page) → length c.pop.new.self.items + 1 ≡ c.self.inside.count
long c =
    let p = c.self.inside in
    sym (length-append c.pop.new.self.items (c.in_ok-page.page ∷ [])) ∙ ap length (sym c.in_ok-page.ensures.items ∙ c.make.ensures.items) ∙ length-of p.layout p.first p.count p.pages.items c.self.invariant.whole

pub overflow_sub-self : goal.overflow_sub-self
overflow_sub-self c = let l = long (goal.at.overflow_sub-self c).In_ok-page in omega (arith, l)

pub invariant_of-self-2 : goal.invariant_of-self-2
invariant_of-self-2 c =
    let l = long (goal.at.invariant_of-self-2 c).In_ok-page in
    let was = c.self.invariant in
    record {
      few = was.few;
      within = omega (arith, was.within);
      small = omega (arith, was.small);
      whole = λ some. omega (arith, l);
      room = omega (arith, was.room, c.pop.ensures.capacity, c.make.ensures.capacity);
    }

pub returns-clause-items : goal.returns-clause-items
returns-clause-items c =
    let p = c.self.inside in
    let l = long (goal.at.returns-clause-items c).In_ok-page in
    sym c.self.view_is ∙ sym c.make.ensures.items ∙ c.in_ok-page.ensures.items
    ∙ ap (λ pages. pages ++ c.in_ok-page.page ∷ []) (sym (seen-made p.layout p.first _ c.pop.new.self.items (omega (arith, l))))
