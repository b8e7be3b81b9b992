use Rattle.kc_model.specs.Lawful.{IsPage}
use Rattle.kc_state_text.specs.StateText.{page_line}
use Rattle.kc_state_text.specs.Reading.{AreRead}
use Rattle.kc_state_text.proofs.front.read_all_pages.Given as goal

-- those so far
abbrev pub invariant-loop-number : goal.invariant-loop-number
invariant-loop-number l = AreRead IsPage page_line l.number l.text l.pages l.rest
