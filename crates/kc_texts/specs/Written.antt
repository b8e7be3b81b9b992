-- What a sink took: a text or a beginning of it, and when the text is made of what two sources held.
use Rattle.std.specs.Prelude.{ℕ, ◌+◌, List, take, Option, Some, None}
use Rattle.std.specs.Io.KnownBytes.{Appends}
use Rattle.kc_trace.specs.Spelling.{longest_call}
use Rattle.kc_trace.specs.CustodyText.{longest_place}

-- a beginning of the text was appended, or all of it
abbrev pub AppendsBeginning : Option (List ℕ) → Option (List ℕ) → List ℕ → Type 0
AppendsBeginning old new text = (n : ℕ) × Appends old new (take n text)

-- the sink took a text made from what the sources held, if all of them report it
abbrev pub Writes : {Held : Type 0} → (List ℕ → Held → List ℕ → Type 0) → Option (List ℕ) → Option Held → Option (List ℕ) → Option (List ℕ) → Type 0
Writes IsText None trace old new = Unit {0}
Writes IsText (Some config) None old new = Unit {0}
Writes IsText (Some config) (Some trace) old new = (text : List ℕ) × IsText config trace text × Appends old new text

-- the same for a beginning of the text
abbrev pub Begins : {Held : Type 0} → (List ℕ → Held → List ℕ → Type 0) → Option (List ℕ) → Option Held → Option (List ℕ) → Option (List ℕ) → Type 0
Begins IsText None trace old new = Unit {0}
Begins IsText (Some config) None old new = Unit {0}
Begins IsText (Some config) (Some trace) old new = (text : List ℕ) × (n : ℕ) × IsText config trace text × Appends old new (take n text)

-- at least as many bytes as a line has with the number of its volume
abbrev pub longest_placed : ℕ
longest_placed = longest_call + longest_place
