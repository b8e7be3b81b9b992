-- The words of a line.
use Rattle.std.specs.Prelude.{ℕ, true, false, List, codes, Option, Some, None, option_map, if◌then◌else◌}
use Rattle.std.specs.Str.{bytes_eq}
use Rattle.kc_types.specs.Limits.{first_gfn_limit}
use Rattle.kc_model.specs.State.{Vcpu}
use Rattle.kc_dump_text.specs.Words.{below_of}

-- a virtual processor that is registered
abbrev pub waiting : Option ℕ → Vcpu
waiting fault = record { registered = true; fault = fault }

-- a virtual processor's word
unfoldable pub vcpu_in : List ℕ → Option Vcpu
vcpu_in word =
    if bytes_eq word (codes "-") then Some (record { registered = false; fault = None })
    else if bytes_eq word (codes ".") then Some (waiting None)
    else option_map (λ g. waiting (Some g)) (below_of first_gfn_limit word)
