-- When receipts, in rows, are just those of a history.
use Rattle.std.specs.Prelude.{◌≡◌, ℕ, ◌+◌, ◌<◌, ◌≤◌, ◌==◌, Bool, true, false, Some, List, [], ◌∷◌, ◌++◌, length, All, slice_get, slice_index_or, slice_set, if◌then◌else◌}
use Rattle.kc_types.specs.Configuration.{Configuration}
use Rattle.kc_live.specs.declared.receipt.Receipt.{Receipt}
use Rattle.kc_live.specs.Book.{Recording, VolumeView, entry, volume_in}

-- how often a number is in a list
abbrev pub times : ℕ → List ℕ → ℕ
times n [] = 0
times n (x ∷ xs) = (if x == n then 1 else 0) + times n xs

abbrev pub numbers_of : List Receipt → List ℕ
numbers_of [] = []
numbers_of (r ∷ rs) = r.number ∷ numbers_of rs

-- the numbers of all rows, row after row
abbrev pub all_numbers : List (List Receipt) → List ℕ
all_numbers [] = []
all_numbers (row ∷ rows) = numbers_of row ++ all_numbers rows

-- each number is above the one before, and the first is at least this
abbrev pub RisesFrom : ℕ → List ℕ → Type 0
RisesFrom least [] = Unit {0}
RisesFrom least (x ∷ xs) = (least ≤ x) × RisesFrom (x + 1) xs

-- the receipt is of this volume, and says what the entry of its number says
pub record Matches (v : VolumeView) (r : Receipt) : Type 0 where
  pub volume : r.volume ≡ v.number
  pub says : slice_get v.entries r.number ≡ Some (entry r.call r.reply)

abbrev pub RowMatches : VolumeView → List Receipt → Type 0
RowMatches v [] = Unit {0}
RowMatches v (r ∷ rs) = Matches v r × RowMatches v rs

abbrev pub RowsMatch : VolumeView → List (List Receipt) → Type 0
RowsMatch v [] = Unit {0}
RowsMatch v (row ∷ rows) = (RisesFrom 0 (numbers_of row) × RowMatches v row) × RowsMatch v rows

-- each entry's number is in exactly one receipt, each receipt is of an entry of the volume and says what it says, and numbers rise in each row
pub record IsSettled (v : VolumeView) (rows : List (List Receipt)) : Type 0 where
  pub once : (n : ℕ) → n < length v.entries → times n (all_numbers rows) ≡ 1
  pub match : RowsMatch v rows

-- the history is of a core of the configuration and has one volume, and the receipts are just those of it
abbrev pub IsAnswer : Configuration → Recording → List (List Receipt) → Type 0
IsAnswer config r rows = (r.log.state.config ≡ config) × (r.log.volume ≡ 0) × IsSettled (volume_in r) rows

-- the receipt may come next: no receipt had its number before, and it is not below the least
pub record MayComeNext (v : VolumeView) (seen : List Bool) (least : ℕ) (r : Receipt) : Type 0 where
  pub above : least ≤ r.number
  pub fresh : slice_index_or seen r.number false ≡ false
  pub match : Matches v r

abbrev pub RowFits : VolumeView → List Bool → ℕ → List Receipt → Type 0
RowFits v seen least [] = Unit {0}
RowFits v seen least (r ∷ rs) = MayComeNext v seen least r × RowFits v (slice_set seen r.number true) (r.number + 1) rs

-- the marks after a row
abbrev pub marked : List Bool → List Receipt → List Bool
marked seen [] = seen
marked seen (r ∷ rs) = marked (slice_set seen r.number true) rs

-- all marks are set
abbrev pub AllSeen : List Bool → Type 0
AllSeen seen = All (λ b. b ≡ true) seen

abbrev pub RowsFit : VolumeView → List Bool → List (List Receipt) → Type 0
RowsFit v seen [] = AllSeen seen
RowsFit v seen (row ∷ rows) = RowFits v seen 0 row × RowsFit v (marked seen row) rows
