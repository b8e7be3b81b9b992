-- How the words of a dump's line are read.
use Rattle.std.specs.Prelude.{ℕ, ◌==◌, nat_lt, Bool, true, false, List, length, codes, Option, Some, None, option_map, option_and_then, if◌then◌else◌}
use Rattle.std.specs.Str.{bytes_eq}
use Rattle.kc_types.specs.Limits.{slot_limit}
use Rattle.kc_types.specs.declared.owner.Owner.{Owner}
use Rattle.kc_types.specs.declared.owner.Owner.TheVariants.{Core, Host, Free, Vm}
use Rattle.kc_types.specs.declared.slot.Phase.{Phase}
use Rattle.kc_types.specs.declared.slot.Phase.TheVariants.{Empty, Booting, Active, Dead}
use Rattle.kc_lines.specs.Words.{number_in}

-- a number that is below the limit
abbrev pub under : ℕ → ℕ → Option ℕ
under limit n = if nat_lt n limit then Some n else None

-- a word that spells such a number
abbrev pub below_of : ℕ → List ℕ → Option ℕ
below_of limit word = option_and_then (under limit) (number_in word)

-- this value for this word, and for any other what the rest reads
abbrev pub choose : {X : Type 0} → List ℕ → X → (List ℕ → Option X) → List ℕ → Option X
choose name x rest word = if bytes_eq word name then Some x else rest word

-- no value, whatever is read
abbrev pub nothing : {W X : Type 0} → W → Option X
nothing any = None

-- a number below the limit, or none for a dash
abbrev pub or_dash_of : ℕ → List ℕ → Option (Option ℕ)
or_dash_of limit = choose (codes "-") None (λ word. option_map (λ n. Some n) (below_of limit word))

-- the words of a bit
abbrev pub bit_of : List ℕ → Option Bool
bit_of = choose (codes "1") true (choose (codes "0") false nothing)

-- the words of a phase
abbrev pub phase_of : List ℕ → Option Phase
phase_of = choose (codes "empty") Empty (choose (codes "booting") Booting (choose (codes "active") Active (choose (codes "dead") Dead nothing)))

-- the words of an owner
abbrev pub owner_of : List ℕ → Option Owner
owner_of = choose (codes "core") Core (choose (codes "host") Host (choose (codes "free") Free (λ word. option_map Vm (below_of slot_limit word))))
