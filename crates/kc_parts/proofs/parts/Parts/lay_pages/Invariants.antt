use Rattle.std.proofs.Common.{ℕ, ◌≡◌, length}
use Rattle.std.specs.Prelude.{Some}
use Rattle.kc_page.specs.declared.page.Page.{Page}
use Rattle.kc_parts.specs.Parts.{IsHeld, page_at, cell_in}
use Rattle.kc_parts.specs.Cuts.{either}
use Rattle.kc_parts.specs.Moves.{IsEmptyPlace}
use Rattle.kc_parts.proofs.Filled.{cells}
use Rattle.kc_parts.proofs.parts.Parts.lay_pages.Given as goal

abbrev pub invariant-loop-number : goal.invariant-loop-number
invariant-loop-number l = record {
  held : IsHeld l.numbers l.filled l.pages;
  places : l.self.numbers ≡ l.initial.self.numbers;
  vms : l.self.vms ≡ l.initial.self.vms;
  free : l.self.free ≡ l.initial.self.free;
  reserved : l.self.is_reserved ≡ l.initial.self.is_reserved;
  fits : (f : ℕ) (page : Page) → cell_in l.numbers (cells l.filled l.pages) f ≡ Some page → IsEmptyPlace l.self f;
  joined : (f : ℕ) → either (page_at l.self f) (cell_in l.numbers (cells l.filled l.pages) f)
      ≡ either (page_at l.initial.self f) (cell_in l.initial.numbers (cells l.initial.filled l.initial.pages) f);
}

abbrev pub decreases-loop-number : goal.decreases-loop-number
decreases-loop-number l = length l.numbers
