-- Lines of a text.
use Rattle.std.specs.Prelude.{ℕ, ◌≡◌, ◌==◌, not, true, List}
use Rattle.std.specs.List.{list_all}

-- the bytes hold no newline
abbrev pub IsOneLine : List ℕ → Type 0
IsOneLine bytes = list_all (λ b. not (b == 10)) bytes ≡ true
