-- The ends of a list, and the list that they and the links spell.
use Rattle.std.specs.Prelude.{ℕ, ◌≡◌, ◌<◌, List, length, Option, Some, None}
use Rattle.kc_model.specs.Lawful.{times_in}
use Rattle.kc_types.specs.declared.link.Ends.{Ends}
use Rattle.kc_links.specs.Chain.{Links, NamesNeighbours, first_or, last_or, spelled}

-- the ends are the first, the last and the length of the sequence, and its frames are linked both ways
pub record Chain (links : Links) (ends : Ends) (frames : List ℕ) : Type 0 where
  pub head : ends.head ≡ first_or None frames
  pub tail : ends.tail ≡ last_or None frames
  pub count : ends.count ≡ length frames
  pub linked : NamesNeighbours links None frames None

-- the sequence that the links spell from the head on
unfoldable pub listed : Links → Ends → List ℕ
listed links ends = spelled links ends.count ends.head

-- the links spell a sequence, forwards and backwards
abbrev pub IsList : Links → Ends → Type 0
IsList links ends = Chain links ends (listed links ends)

-- the ends of a list that starts or stops with another frame
abbrev pub starting : Ends → Option ℕ → Option ℕ → Ends
starting ends None next = record ends { head = next }
starting ends (Some f) next = ends

abbrev pub stopping : Ends → Option ℕ → Option ℕ → Ends
stopping ends None prev = record ends { tail = prev }
stopping ends (Some f) prev = ends

-- the links of all other frames stay
abbrev pub KeepsOthers : Links → Links → List ℕ → Type 0
KeepsOthers old new frames = (other : ℕ) → times_in frames other ≡ 0 → new other ≡ old other

-- no frame is in both lists
abbrev pub AreApart : List ℕ → List ℕ → Type 0
AreApart a b = (f : ℕ) → 0 < times_in a f → times_in b f ≡ 0
