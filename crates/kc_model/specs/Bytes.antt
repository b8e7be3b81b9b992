-- Numbers as bytes.
use Rattle.std.specs.Prelude.{ℕ, ◌%◌, List, map}

-- a number as a byte: itself, if it is one
abbrev pub as_byte : ℕ → ℕ
as_byte n = n % 256

-- a list as bytes; the data of every call are bytes by their type, and so stay the same
abbrev pub as_bytes : List ℕ → List ℕ
as_bytes numbers = map as_byte numbers
