-- Grown: the lives that have begun in some events, and which of them is open in each slot.
use Rattle.std.specs.Prelude.{ℕ, ◌≡◌, ◌≢◌, ◌<◌, Bool, true, List, [], ◌∷◌, ◌++◌, length, All, Option, None, Some, slice_index_or, if◌then◌else◌}
use Rattle.kc_types.specs.Limits.{slot_limit}
use Rattle.kc_types.specs.declared.slot.Phase.TheVariants.{Booting}
use Rattle.kc_types.specs.declared.custody.Change.TheVariants as change
use Rattle.kc_types.specs.declared.custody.Event.{Event}
use Rattle.kc_types.specs.declared.custody.Event.TheVariants as event
use Rattle.kc_model.specs.Custody.{same_phase}
use Rattle.kc_custody.specs.Endings.{FrameEndings}
use Rattle.kc_custody.specs.Growing.{Growing, Start, new_life, is_open_since, TakesIn, IsGrowing}
use Rattle.kc_custody.specs.Growing.{HasRoom}
use Rattle.kc_custody.specs.Within.{IsWithin}
use Rattle.kc_custody.specs.declared.register.Register.{Register}
use Rattle.kc_custody.specs.declared.growing.Lives.{Lives}

-- the start of a life that an event begins
abbrev pub start_from : Event → List Event → List Start
start_from (event.Change (change.Phase told)) more = if same_phase told.phase Booting then record { vm = told.vm; line = told.line; more = more } ∷ [] else []
start_from _ more = []

-- the starts of all lives, in the order in which they begin
abbrev pub starts : List Event → List Start
starts [] = []
starts (told ∷ more) = start_from told more ++ starts more

-- what is read past the end of a list of starts
abbrev pub no_start : Start
no_start = record { vm = 0; line = 0; more = [] }

-- what is read past the end of a list of lives
abbrev pub no_life : Growing
no_life = new_life 0 0

-- each start's life
pub record AreGrowing (endings : List FrameEndings) (begun : List Start) (lives : List Growing) : Type 0 where
  pub count : length lives ≡ length begun
  pub each : (i : ℕ) → i < length begun → IsGrowing endings (slice_index_or begun i no_start) (slice_index_or lives i no_life)

-- each slot has the place of the life that is open there
pub record AreOpen (begun : List Start) (places : List (Option ℕ)) : Type 0 where
  pub count : length places ≡ slot_limit
  pub marked : (i : ℕ) → i < length begun → is_open_since (slice_index_or begun i no_start) ≡ true → slice_index_or places (slice_index_or begun i no_start).vm None ≡ Some i
  pub held : (v i : ℕ) → slice_index_or places v None ≡ Some i → (i < length begun) × ((slice_index_or begun i no_start).vm ≡ v) × (is_open_since (slice_index_or begun i no_start) ≡ true)

-- no slot has a place
pub record AreUnset (places : List (Option ℕ)) : Type 0 where
  pub count : length places ≡ slot_limit
  pub each : (v : ℕ) → v < slot_limit → slice_index_or places v None ≡ None

-- no life is open in two slots
abbrev pub HaveOwnPlaces : List (Option ℕ) → Type 0
HaveOwnPlaces places = (v w i : ℕ) → slice_index_or places v None ≡ Some i → slice_index_or places w None ≡ Some i → v ≡ w

-- the open lives of the slots that pass the test take the event in, and no others
pub record GivesTo (passes : ℕ → Bool) (told : Event) (ending : ℕ) (old new : Register) : Type 0 where
  pub places : new.places.items ≡ old.places.items
  pub count : length new.lives.items ≡ length old.lives.items
  pub taken : (v i : ℕ) → passes v ≡ true → i < length old.lives.items → slice_index_or old.places.items v None ≡ Some i → TakesIn told ending (slice_index_or old.lives.items i no_life) (slice_index_or new.lives.items i no_life)
  pub left : (i : ℕ) → ((v : ℕ) → passes v ≡ true → slice_index_or old.places.items v None ≢ Some i) → slice_index_or new.lives.items i no_life ≡ slice_index_or old.lives.items i no_life

-- what these lives have taken in is these events, which name frames below `frames`
pub record AreGrown (frames : ℕ) (told : List Event) (lives : Lives) : Type 0 where
  pub count : length lives.endings ≡ frames
  pub each : AreGrowing lives.endings (starts told) lives.register.lives.items
  pub places : AreOpen (starts told) lives.register.places.items

-- the lives of any events become those of them and this one
abbrev pub Notes : Event → Lives → Lives → Type 0
Notes told old new = (frames : ℕ) (before : List Event) → IsWithin frames told → HasRoom before → AreGrown frames before old → AreGrown frames (before ++ told ∷ []) new

-- and of some events more
abbrev pub NotesAll : List Event → Lives → Lives → Type 0
NotesAll more old new = (frames : ℕ) (told : List Event) → All (IsWithin frames) more → HasRoom (told ++ more) → AreGrown frames told old → AreGrown frames (told ++ more) new
