-- A state's text that is given a piece at a time.
use Rattle.std.specs.Prelude.{ℕ, List, ◌++◌, drop, map}
use Rattle.std.specs.List.{flat_map}
use Rattle.kc_model.specs.State.{State, Frame}
use Rattle.kc_snapshot.specs.declared.form.StateForm.{StateForm}
use Rattle.kc_snapshot.specs.Form.{in_form}
use Rattle.kc_state_text.specs.StateText.{page_line}

-- the form of a text, and what was not given yet: the lines before those of the pages, the number of the next page, and
-- the dump
pub record Pieces : Type 0 where
  pub form : StateForm
  pub front : List ℕ
  pub page : ℕ
  pub dump : List ℕ

-- the lines of a state's pages from this one on
abbrev pub page_lines : State → ℕ → List ℕ
page_lines m page = flat_map page_line (drop page (map (λ (frame : Frame). frame.bytes) m.frames))

-- the text of a state that is still to come
abbrev pub to_come : State → Pieces → List ℕ
to_come m pieces = pieces.front ++ (page_lines (in_form pieces.form m) pieces.page ++ pieces.dump)

-- the bytes of the longest line of a page, with its newline
abbrev pub longest_page_line : ℕ
longest_page_line = 8198
