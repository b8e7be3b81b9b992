-- The launch measurement of boot images, and what is written of it.
use Rattle.std.specs.Prelude.{ℕ, Bool, true, false, List, ◌++◌, codes}
use Rattle.hex.specs.Hex.{encode_lower}
use Rattle.sha2.specs.Hashers.{Holds256}
use Rattle.kc_model.specs.Launches.{Booted, launch_text}
use Rattle.kc_cli.specs.declared.measuring.LaunchMeasure.{LaunchMeasure}

-- these images were added, and no others
abbrev pub HasMeasured : LaunchMeasure → List Booted → Type 0
HasMeasured measure images = Holds256 measure.hasher (launch_text images)

-- the digits of a digest, or the key of a configuration that approves it alone
abbrev pub measured_text : Bool → List ℕ → List ℕ
measured_text false digest = encode_lower digest ++ codes "\n"
measured_text true digest = codes "{\"approved\":[\"" ++ (encode_lower digest ++ codes "\"]}\n")
