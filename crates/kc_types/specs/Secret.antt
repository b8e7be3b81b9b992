-- The final value of bytes that are lent for writing.
use Rattle.std.specs.Prelude.{ℕ, List, ◌++◌, length, take, drop}
use Rattle.std.specs.Borrow.{Array, Lends, MutBor, Fml, u8}
use Rattle.kc_types.specs.contracts.secret.SecretBytes.{the_row}
use Rattle.kc_types.specs.contracts.filled.Filled.{the_row as filled_row}

-- the bytes, with their first ones replaced by `new`; their number stays the same
abbrev pub refilled : List ℕ → List ℕ → List ℕ
refilled bytes new = take (length bytes) (new ++ drop (length new) bytes)

-- the bytes end as what the reference finally holds
abbrev pub LendsBytes : MutBor (List ℕ) → MutBor (List ℕ) → Fml
LendsBytes bytes lent = Lends the_row (Array u8 0) bytes lent (refilled bytes.now)

-- the same of the memory that holds them
abbrev pub LendsMemory : MutBor (List ℕ) → MutBor (List ℕ) → Fml
LendsMemory memory lent = Lends filled_row (Array u8 0) memory lent (refilled memory.now)
