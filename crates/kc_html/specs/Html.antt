-- The text of a page for a browser, which shows these lines.
use Rattle.std.specs.Prelude.{ℕ, List, ◌++◌}
use Rattle.std.specs.List.{flat_map}
use Rattle.kc_html.specs.declared.head.TheConstants.{HEAD}
use Rattle.kc_html.specs.declared.tail.TheConstants.{TAIL}

-- what comes before the lines
abbrev pub html_head : List ℕ
html_head = HEAD.now

-- what comes after them: the parts of the script, one after another
abbrev pub html_tail : List ℕ
html_tail = flat_map (λ part. part.now) TAIL

abbrev pub html_text_of : List ℕ → List ℕ
html_text_of lines = html_head ++ (lines ++ html_tail)
