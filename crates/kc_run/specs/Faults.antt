-- The line of a fault that a run finds itself.
use Rattle.std.specs.Prelude.{ℕ, List, ◌++◌, codes, decimal}

-- a boot image, by its number from 1, is empty
abbrev pub empty_line : ℕ → List ℕ
empty_line number = codes "kcore: boot image " ++ decimal number ++ codes " is empty\n"
