use Rattle.std.proofs.Common.{ℕ, ◌≡◌, ◌<◌, ◌≤◌, length, get_or, map, take}
use Rattle.std.specs.Prelude.{Some}
use Rattle.kc_page.specs.declared.page.Page.{Page}
use Rattle.kc_parts.specs.Parts.{blank_page, page_at}
use Rattle.kc_parts.specs.Moves.{IsLifted}
use Rattle.kc_parts.proofs.parts.Parts.lift_pages.Given as goal

abbrev pub invariant-loop-at : goal.invariant-loop-at
invariant-loop-at l = record {
  count : length l.pages ≡ length l.numbers;
  blank : (i : ℕ) (d : Page) → l.at ≤ i → i < length l.numbers → get_or l.pages i d ≡ blank_page;
  taken : map Some (take l.at l.pages) ≡ map (page_at l.initial.self) (take l.at l.numbers);
  rest : IsLifted (take l.at l.numbers) l.initial.self l.self;
}
