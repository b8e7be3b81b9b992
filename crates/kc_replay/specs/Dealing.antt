-- Which worker makes which calls of a wave.
use Rattle.std.specs.Prelude.{ℕ, zero, suc, ◌<◌, ◌%◌, ◌==◌, if◌then◌else◌, List, [], ◌∷◌, ◌++◌, length, get_or, set}
use Rattle.std.specs.List.{AllZip}

-- the places below a bound of the calls that a worker makes, in their order: those that are its number modulo the
-- number of workers
unfoldable pub dealt_to : ℕ → ℕ → ℕ → List ℕ
dealt_to workers worker zero = []
dealt_to workers worker (suc place) = if place % workers == worker then dealt_to workers worker place ++ place ∷ [] else dealt_to workers worker place

-- each worker's list is for the calls that it makes among the first ones of the wave
abbrev pub AreDealt : {T : Type 0} → (ℕ → T → Type 0) → ℕ → List (List T) → Type 0
AreDealt R count lists = (worker : ℕ) → worker < length lists → AllZip R (dealt_to (length lists) worker count) (get_or lists worker [])

-- the lists with one more item, for the call at a place
abbrev pub with_dealt : {T : Type 0} → List (List T) → ℕ → T → List (List T)
with_dealt lists place item = set lists (place % length lists) (get_or lists (place % length lists) [] ++ item ∷ [])
