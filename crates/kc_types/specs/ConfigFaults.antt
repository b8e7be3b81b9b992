-- Why a configuration is refused.
use Rattle.std.specs.Prelude.{◌≡◌, ◌+◌, length, nat_lt, ◌||◌, ◌==◌, if◌then◌else◌, Option, Some, None, Result, Ok, Err}
use Rattle.kc_types.specs.Limits.{digest_limit}
use Rattle.kc_types.specs.Configuration.{Configuration, most_frames, most_leaves}
use Rattle.kc_types.specs.declared.config.ConfigFault.{ConfigFault}
use Rattle.kc_types.specs.declared.config.ConfigFault.TheVariants.{Frames, CoreHost, Leaves, TooManyDigests}

-- the first fault of a configuration; sums do not wrap around
abbrev pub fault_of : Configuration → Option ConfigFault
fault_of c =
    if c.frames == 0 || nat_lt (most_frames c.version) c.frames then Some Frames
    else (if nat_lt c.frames (c.core + c.host) then Some CoreHost
    else (if c.leaves == 0 || nat_lt (most_leaves c.version) c.leaves then Some Leaves
    else (if nat_lt digest_limit (length c.approved) then Some TooManyDigests
    else None)))

-- the result is the wanted configuration if it has no fault, and otherwise its first fault
abbrev pub Configures : Result Configuration ConfigFault → Configuration → Type 0
Configures (Ok config) wanted = (fault_of wanted ≡ None) × (config ≡ wanted)
Configures (Err fault) wanted = fault_of wanted ≡ Some fault
