-- Bytes that a call may read or write.
use Rattle.std.specs.Prelude.{ℕ, ◌≤◌, ◌<◌, List, length, All}
use Rattle.kc_types.specs.Limits.{page_size}
use Rattle.kc_types.specs.declared.data.Owned.{Owned}
use Rattle.kc_types.specs.declared.data.Owned.TheVariants.{Short, Alone, Shared}
use Rattle.kc_types.specs.declared.data.TheConstants.{SHORT_SIZE}

-- there is at least one byte, and at most a whole page
pub record IsData (bytes : List ℕ) : Type 0 where
  pub nonempty : 0 < length bytes
  pub within : length bytes ≤ page_size
  pub each_byte : All (λ b. b < 256) bytes

-- the most bytes that need no memory of their own
abbrev pub short_size : ℕ
short_size = SHORT_SIZE

-- the bytes, wherever they are kept and whether one value owns them or several
abbrev pub owned_bytes : Owned → List ℕ
owned_bytes (Short bytes) = bytes.items
owned_bytes (Alone bytes) = bytes
owned_bytes (Shared bytes) = bytes.value
