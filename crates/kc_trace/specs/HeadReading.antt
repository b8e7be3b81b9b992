-- What the lines of a head are read as, one after another.
use Rattle.std.specs.Prelude.{ℕ, Bool, true, false, ◌==◌, ◌&&◌, ◌+◌, nat_le, List, [], ◌∷◌, ◌++◌, codes, length, Option, Some, None, is_none, option_map, option_and_then, if◌then◌else◌}
use Rattle.std.specs.List.{slice_split}
use Rattle.std.specs.Str.{bytes_eq}
use Rattle.kc_types.specs.Limits.{digest_limit}
use Rattle.kc_types.specs.Configuration.{Configuration, slots_of}
use Rattle.kc_trace.specs.Header.{Begun}
use Rattle.kc_types.specs.ConfigFaults.{fault_of}
use Rattle.kc_types.specs.declared.version.Version.{Version}
use Rattle.kc_types.specs.declared.version.Version.TheVariants as version
use Rattle.kc_lines.specs.Words.{number_in, digest_in, at_end}
use Rattle.kc_trace.specs.declared.header.Position.{Position}
use Rattle.kc_trace.specs.declared.header.Position.TheVariants.{First, Later}
use Rattle.kc_trace.specs.declared.header.Head.{Head}
use Rattle.kc_trace.specs.declared.header.Header.TheVariants.{One, Two, Three}
use Rattle.kc_trace.specs.declared.head_reader.HeadSoFar.{HeadSoFar}
use Rattle.kc_trace.specs.declared.head_reader.HeadSoFar.TheVariants.{Nothing, FirstLine, Machine}
use Rattle.kc_trace.specs.declared.head_reader.NextLine.{NextLine}
use Rattle.kc_trace.specs.declared.head_reader.NextLine.TheVariants.{More, Whole}

-- what `?` is in code
infixl 10 ◌>>=◌
abbrev pub ◌>>=◌ : {A B : Type 0} → Option A → (A → Option B) → Option B
found >>= f = option_and_then f found

-- ---- words

-- the words after this one, if it is the next
abbrev pub take_name : List ℕ → List (List ℕ) → Option (List (List ℕ))
take_name name [] = None
take_name name (word ∷ words) = if bytes_eq word name then Some words else None

-- the next word
abbrev pub take_word : List (List ℕ) → Option (List ℕ × List (List ℕ))
take_word [] = None
take_word (word ∷ words) = Some (word, words)

-- the next word as a number
abbrev pub take_number : List (List ℕ) → Option (ℕ × List (List ℕ))
take_number [] = None
take_number (word ∷ words) = option_map (λ number. (number, words)) (number_in word)

-- the next two words as numbers
unfoldable pub take_pair : List (List ℕ) → Option ((ℕ × ℕ) × List (List ℕ))
take_pair words = do
  first ← take_number words
  second ← take_number first.1
  Some ((first.0, second.0), second.1)

-- the next word as a digest
abbrev pub take_digest : List (List ℕ) → Option (List ℕ × List (List ℕ))
take_digest [] = None
take_digest (word ∷ words) = option_map (λ digest. (digest, words)) (digest_in word)

abbrev pub words_in : List ℕ → List (List ℕ)
words_in line = slice_split (λ b. b == 32) line

-- ---- lines

abbrev pub version_numbered : ℕ → Option Version
version_numbered number = if number == 1 then Some version.One else if number == 2 then Some version.Two else if number == 3 then Some version.Three else None

-- the machine, if it is one
abbrev pub begun_if : Configuration → ℕ → Option Begun
begun_if config awaited = if is_none (fault_of config) then Some (record { config = config; awaited = awaited }) else None

-- the machine of these numbers, of which it has as many slots as its version
abbrev pub machine_of : Version → ℕ → ℕ → ℕ → ℕ → ℕ → ℕ → Option Begun
machine_of v slots frames core host leaves awaited =
    if slots == slots_of v && nat_le awaited digest_limit
    then begun_if (record { version = v; frames = frames; core = core; host = host; leaves = leaves; approved = [] }) awaited
    else None

-- the machine of these numbers, in the order of its line
abbrev pub machine_by : ℕ × ℕ → ℕ × ℕ → ℕ × ℕ → ℕ → Option Begun
machine_by rules frames others awaited = do
  v ← version_numbered rules.0
  machine_of v rules.1 frames.0 frames.1 others.0 others.1 awaited

-- the words of a machine's line
unfoldable pub machine_in : List (List ℕ) → Option Begun
machine_in words = do
  rest ← take_name (codes "config") words
  rules ← take_pair rest
  frames ← take_pair rules.1
  others ← take_pair frames.1
  awaited ← take_number others.1
  end ← at_end awaited.1
  machine_by rules.0 frames.0 others.0 awaited.0

-- the words of an approved digest's line
unfoldable pub approved_in : List (List ℕ) → Option (List ℕ)
approved_in words = do
  rest ← take_name (codes "approved") words
  digest ← take_digest rest
  end ← at_end digest.1
  Some digest.0

-- the position of a volume by its number and the word of the digest
abbrev pub first_of : ℕ → Option Position
first_of number = if number == 1 then Some First else None

abbrev pub later_of : ℕ → List ℕ → Option Position
later_of number after = if nat_le 2 number then Some (Later number after) else None

abbrev pub position_of : ℕ → List ℕ → Option Position
position_of number word = if bytes_eq word (codes "-") then first_of number else option_and_then (later_of number) (digest_in word)

-- the words after a position: none, or the one that says that the bytes that the host wrote are redacted, too
abbrev pub redaction_in : List (List ℕ) → Option Bool
redaction_in [] = Some false
redaction_in (word ∷ words) = if bytes_eq word (codes "host-redacted") then option_map (λ end. true) (at_end words) else None

-- the words of the last line of a head: the position, and whether these bytes are redacted
unfoldable pub last_in : List (List ℕ) → Option (Position × Bool)
last_in words = do
  rest ← take_name (codes "volume") words
  number ← take_number rest
  word ← take_word number.1
  is_host_redacted ← redaction_in word.1
  option_map (λ position. (position, is_host_redacted)) (position_of number.0 word.0)

-- a position alone
abbrev pub alone : Position × Bool → Option Position
alone last = if last.1 then None else Some last.0

-- the words of a position's line
abbrev pub position_in : List (List ℕ) → Option Position
position_in words = last_in words >>= alone

-- ---- lines in order

-- the header whose first line this is; a head may follow it
abbrev pub first_line_read : List ℕ → Option NextLine
first_line_read line =
    if bytes_eq line (codes "kcore-trace 1") then Some (Whole One)
    else if bytes_eq line (codes "kcore-trace 2") then Some (Whole Two)
    else if bytes_eq line (codes "kcore-trace 3") then Some (More FirstLine)
    else None

-- the machine with one more approved digest
abbrev pub approving : Begun → List ℕ → Begun
approving begun digest = record begun { config = record begun.config { approved = begun.config.approved ++ digest ∷ [] } }

-- the head of this machine with this last line
abbrev pub head_of : Begun → Position × Bool → Head
head_of begun last = record { config = begun.config; position = last.0; is_host_redacted = last.1 }

-- the line after the machine's, or after that of an approved digest
abbrev pub machine_line_read : Begun → List ℕ → Option NextLine
machine_line_read begun line =
    if nat_le begun.awaited (length begun.config.approved)
    then option_map (λ last. Whole (Three (head_of begun last))) (last_in (words_in line))
    else option_map (λ digest. More (Machine (approving begun digest))) (approved_in (words_in line))

-- what the next line makes of a head, if it may come there
abbrev pub next_line : HeadSoFar → List ℕ → Option NextLine
next_line Nothing line = first_line_read line
next_line FirstLine line = option_map (λ begun. More (Machine begun)) (machine_in (words_in line))
next_line (Machine begun) line = machine_line_read begun line

-- whether no line was read
abbrev pub is_nothing : HeadSoFar → Bool
is_nothing Nothing = true
is_nothing _ = false

-- the number of the next line, counted from 1
abbrev pub next_number : HeadSoFar → ℕ
next_number Nothing = 1
next_number FirstLine = 2
next_number (Machine begun) = 3 + length begun.config.approved
