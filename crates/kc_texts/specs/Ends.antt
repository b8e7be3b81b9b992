-- How a source is left, and how it may fail.
use Rattle.std.specs.Prelude.{◌≡◌, ◌<◌, ◌⊎◌, ℕ, Bool, true, List, [], ◌∷◌, length, Option}
use Rattle.std.specs.Io.KnownBytes.{Consumes}
use Rattle.kc_types.specs.Limits.{byte_limit}

-- a read failed, or there were more bytes than are read
abbrev pub ReadFailed : Bool → Option (List ℕ) → Option (List ℕ) → Type 0
ReadFailed failed old new = (failed ≡ true) ⊎ ((bytes : List ℕ) × Consumes old new bytes × (byte_limit < length bytes))

-- a source as an engine found and left it: whether a read of it failed, and the bytes that were left of it before and
-- are left after, if it reports them
pub record Seen : Type 0 where
  pub failed : Bool
  pub had : Option (List ℕ)
  pub has : Option (List ℕ)

-- of a source, by whether a read of one has failed and what is left of one: as it was found and as it was left
abbrev pub seen : {Source : Type 0} → (Source → Bool) → (Source → Option (List ℕ)) → Source → Source → Seen
seen failed left old new = record { failed = failed new; had = left old; has = left new }

-- reading one of them failed
abbrev pub HasFailedRead : List Seen → Type 0
HasFailedRead [] = ⊥
HasFailedRead (source ∷ sources) = ReadFailed source.failed source.had source.has ⊎ HasFailedRead sources

-- a read of one of them failed
abbrev pub HasFailed : List Seen → Type 0
HasFailed [] = ⊥
HasFailed (source ∷ sources) = (source.failed ≡ true) ⊎ HasFailed sources
