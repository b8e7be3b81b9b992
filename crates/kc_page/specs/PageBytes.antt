-- What is written over the bytes of a page, and what its memory holds.
use Rattle.std.specs.Prelude.{ℕ, ◌-◌, ◌≡◌, Bool, true, false, List, [], ◌∷◌, ◌++◌, length, take, replicate}
use Rattle.kc_types.specs.Limits.{page_size}
use Rattle.kc_model.specs.State.{zero_page}

-- a page as contracts see it: its bytes, and whether it is reserved, that is whether it always has memory for them; a page
-- that is not has none while its bytes are zero
pub record Content : Type 0 where
  pub bytes : List ℕ
  pub is_reserved : Bool

-- the page with zeros in place of its bytes
abbrev pub zeroed : Content → Content
zeroed page = record page { bytes = zero_page }

-- memory as contracts see it: its bytes, and whether it has room for a page
pub record Room : Type 0 where
  pub bytes : List ℕ
  pub has_room : Bool

-- the bytes with zeros from a place on
abbrev pub zeroed_from : List ℕ → ℕ → List ℕ
zeroed_from bytes n = take n bytes ++ replicate (page_size - n) 0

-- the page that memory with these bytes holds: zeros while it is fresh
abbrev pub filled_from : List ℕ → List ℕ
filled_from [] = zero_page
filled_from (byte ∷ bytes) = byte ∷ bytes

-- memory of a page that is known to be zero is fresh or holds zeros; other memory is filled; and that of a reserved page
-- has room
pub record IsHeld (is_zero is_reserved : Bool) (memory : Room) : Type 0 where
  pub zeros : is_zero ≡ true → filled_from memory.bytes ≡ zero_page
  pub whole : is_zero ≡ false → length memory.bytes ≡ page_size
  pub filled : is_zero ≡ false → memory.has_room ≡ true
  pub room : is_reserved ≡ true → memory.has_room ≡ true
