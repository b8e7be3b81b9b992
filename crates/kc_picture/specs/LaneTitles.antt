-- The titles of lives, and of the marks in lanes.
use Rattle.std.specs.Prelude.{ℕ, ◌==◌, if◌then◌else◌, List, ◌++◌, codes, Option, Some, None}
use Rattle.std.specs.Fmt.{decimal}
use Rattle.kc_picture.specs.declared.vms.Measured.{Measured}
use Rattle.kc_picture.specs.declared.vms.Measured.TheVariants.{Not, Active, Dead}
use Rattle.kc_picture.specs.declared.vms.Stay.{Stay}

-- when a life began: what has the header's line is so before the first call
abbrev pub registered_words : ℕ → List ℕ
registered_words n = if n == 1 then codes ": there before the first call" else codes ": registered at line " ++ decimal n

-- how the measuring of a VM's images ended
abbrev pub measured_words : Measured → List ℕ
measured_words Not = codes ", never measured"
measured_words (Active n) = if n == 1 then codes ", active" else codes ", measured and active from line " ++ decimal n
measured_words (Dead n) = if n == 1 then codes ", dead" else codes ", measured and dead from line " ++ decimal n

-- when a life ended
abbrev pub cleared_words : Option ℕ → List ℕ
cleared_words None = codes ", there at the end"
cleared_words (Some n) = codes ", cleared at line " ++ decimal n

-- as "vm 0: registered at line 4, measured and active from line 8, cleared at line 29"
abbrev pub stay_title : ℕ → Stay → List ℕ
stay_title v stay = codes "vm " ++ decimal v ++ registered_words stay.registered ++ measured_words stay.measured ++ cleared_words stay.cleared

-- as "vm 0 registered at line 4"
abbrev pub tick_title : ℕ → List ℕ → ℕ → List ℕ
tick_title v what n = codes "vm " ++ decimal v ++ codes " " ++ what ++ codes " at line " ++ decimal n

-- lives that are drawn as one
abbrev pub lives_title : (v count first last : ℕ) → List ℕ
lives_title v count first last = codes "vm " ++ (decimal v ++ (codes ": " ++ (decimal count ++ (codes " lives, lines " ++ (decimal first ++ (codes " to " ++ decimal last))))))

-- one mark of several dead VMs
abbrev pub deaths_title : (v count first last : ℕ) → List ℕ
deaths_title v count first last = codes "vm " ++ decimal v ++ codes ": " ++ decimal count ++ codes " measured and dead, lines " ++ decimal first ++ codes " to " ++ decimal last
