use Rattle.std.proofs.Common.{◌≡◌, ◌<◌, ◌≤◌, ◌++◌, ◌∷◌, [], List, length, subst, sym, ap, refl, ◌∙◌, length-append, arith}
use Rattle.std.specs.Prelude.{IsTrue}
use Rattle.std.specs.Option.{option_to_list}
use Rattle.kc_page.specs.declared.page.Page.{Page}
use Rattle.kc_parts.specs.Chunks.{AreChunks}
use Rattle.kc_parts.proofs.ChunkLists.{before-last, last-small, all-full, full-then}
use Rattle.kc_parts.proofs.page_list.PageList.pop.Goals as goal
use Rattle.kc_parts.proofs.page_list.PageList.pop.Goals.{In_ok-last}

-- the chunks with the last one at their end
parted : (c : In_ok-last) → AreChunks (c.pop.new.self.items ++ c.in_ok-last.last ∷ [])
parted c = subst (λ (chunks : List (List Page)). AreChunks chunks) c.in_ok-last.ensures.items c.self.invariant.0

nonempty : (pages : List Page) → (pages ≡ [] → ⊥) → 0 < length pages
nonempty [] some = absurd (some refl)
nonempty (page ∷ pages) some = omega arith

pub invariant_of-self-then-not-is_empty : goal.invariant_of-self-then-not-is_empty
invariant_of-self-then-not-is_empty c =
    let parts = parted (goal.at.invariant_of-self-then-not-is_empty c).In_ok-last in
    let front = c.pop.new.self.items in
    let now = c.pop-page.new.self in
    let fewer : length now ≤ length c.in_ok-last.last = (let long = ap length c.pop-page.ensures.items ∙ length-append now (option_to_list c.pop-page.result) in omega (arith, long)) in
    let small = last-small front c.in_ok-last.last parts in
    let some : 0 < length now = nonempty now (λ none. (let yes : IsTrue c.is_empty.result = c.is_empty.ensures.1 none in absurd cc)) in
    (subst (λ (chunks : List (List Page)). AreChunks chunks) (sym c.push_reserved.ensures.items) (full-then front now (before-last front c.in_ok-last.last parts) some (omega (arith, fewer, small))), c.self.invariant.1)

pub invariant_of-self-else-not-is_empty : goal.invariant_of-self-else-not-is_empty
invariant_of-self-else-not-is_empty c =
    let parts = parted (goal.at.invariant_of-self-else-not-is_empty c).In_ok-last in
    (all-full c.pop.new.self.items (before-last c.pop.new.self.items c.in_ok-last.last parts), c.self.invariant.1)
