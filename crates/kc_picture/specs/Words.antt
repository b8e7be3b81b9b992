-- What is put into a picture's text.
use Rattle.std.specs.Prelude.{ℕ, ◌≡◌, ◌/◌, ◌%◌, ◌==◌, false, List, [], ◌++◌, codes, string_bytes, if◌then◌else◌}
use Rattle.std.specs.Fmt.{decimal}
use Rattle.kc_picture.specs.declared.words.Text.{Text}

-- a text that is not refused has these words after what it had
abbrev pub Puts : Text → Text → List ℕ → Type 0
Puts old new words = new.refused ≡ false → (old.refused ≡ false) × (string_bytes new.text ≡ string_bytes old.text ++ words)

-- a length in hundredths of a point is spelled in points: 8650 as 86.5
abbrev pub length_words : ℕ → List ℕ
length_words n = decimal (n / 100) ++ (if n % 100 == 0 then [] else codes "." ++ decimal (n % 100 / 10)) ++ (if n % 100 % 10 == 0 then [] else decimal (n % 100 % 10))
