-- What a configuration's text says.
use Rattle.std.specs.Prelude.{◌≡◌, ◌^◌, ◌==◌, nat_lt, ℕ, suc, List, [], ◌∷◌, codes, Option, Some, None, option_map, option_and_then, Result, Ok, Err, if◌then◌else◌}
use Rattle.std.specs.Result.{result_ok}
use Rattle.std.specs.Str.{is_utf8}
use Rattle.serde_json.specs.Data.{Data, Items, no_items, item, Members, no_members, member}
use Rattle.serde_json.specs.Find.{get, as_number, as_u64, as_str, as_array, as_object}
use Rattle.serde_json.specs.Read.{read as read_text}
use Rattle.hex.specs.Hex.{decode_sized}
use Rattle.kc_types.specs.declared.version.Version.{Version}
use Rattle.kc_types.specs.declared.version.Version.TheVariants.{One, Two, Three}
use Rattle.kc_types.specs.Configuration.{Configuration}
use Rattle.kc_types.specs.ConfigFaults.{fault_of}
use Rattle.kc_types.specs.declared.config.ConfigFault.{ConfigFault}
use Rattle.kc_config_text.specs.declared.config_text.ConfigTextFault.{ConfigTextFault}
use Rattle.kc_config_text.specs.declared.config_text.ConfigTextFault.TheVariants as faults

-- the JSON value that bytes are; bytes that are not UTF-8 are not a value
abbrev pub value_in : List ℕ → Option Data
value_in bytes = if is_utf8 bytes then read_text bytes else None

abbrev pub small : ℕ → Option ℕ
small n = if nat_lt n (2 ^ 32) then Some n else None

-- the whole number of 32 bits under a key
abbrev pub number_under : List ℕ → Data → Option ℕ
number_under key value = option_and_then small (option_and_then as_u64 (option_and_then as_number (get key value)))

-- the 32 bytes that a text of 64 digits spells
abbrev pub digest_of_value : Data → Option (List ℕ)
digest_of_value value = option_and_then (λ text. result_ok (decode_sized text 32)) (as_str value)

-- the digests of an array, if each item is one
abbrev pub digests_in : Items → Option (List (List ℕ))
digests_in no_items = Some []
digests_in (item value values) = option_and_then (λ digest. option_map (λ digests. digest ∷ digests) (digests_in values)) (digest_of_value value)

abbrev pub approved_in : Data → Option (List (List ℕ))
approved_in value = option_and_then digests_in (option_and_then as_array (get (codes "approved") value))

-- the configuration of this version under the five keys, if each holds what it should
abbrev pub fields_in : Version → Data → Option Configuration
fields_in version value =
    option_and_then (λ frames. option_and_then (λ core. option_and_then (λ host. option_and_then (λ leaves.
    option_map (λ approved. record { version = version; frames = frames; core = core; host = host; leaves = leaves; approved = approved })
    (approved_in value))
    (number_under (codes "leaves") value)) (number_under (codes "host") value)) (number_under (codes "core") value)) (number_under (codes "frames") value)

-- how many members an object has; no key appears twice
abbrev pub member_count : Members → ℕ
member_count no_members = 0
member_count (member key value members) = suc (member_count members)

abbrev pub version_numbered : Option ℕ → Option Version
version_numbered None = None
version_numbered (Some n) = if n == 1 then Some One else if n == 2 then Some Two else if n == 3 then Some Three else None

-- the version of an object with this many members: with five the first, with six the one under `version`
abbrev pub version_in : Data → Option ℕ → Option Version
version_in value None = None
version_in value (Some count) = if count == 5 then Some One else if count == 6 then version_numbered (number_under (codes "version") value) else None

-- the configuration that a value is: an object of exactly the five keys, or of these and `version`
abbrev pub shape_in : Data → Option Configuration
shape_in value = option_and_then (λ version. fields_in version value) (version_in value (option_map member_count (as_object value)))

abbrev pub unless_fault : Option ConfigFault → Configuration → Result Configuration ConfigTextFault
unless_fault None config = Ok config
unless_fault (Some fault) config = Err (faults.Config fault)

-- a configuration of the right shape, or its first fault
abbrev pub configured : Configuration → Result Configuration ConfigTextFault
configured config = unless_fault (fault_of config) config

abbrev pub of_shape : Option Configuration → Result Configuration ConfigTextFault
of_shape None = Err faults.BadShape
of_shape (Some config) = configured config

abbrev pub of_value : Option Data → Result Configuration ConfigTextFault
of_value None = Err faults.NotJson
of_value (Some value) = of_shape (shape_in value)

-- the configuration that bytes spell, or why they spell none
unfoldable pub config_in : List ℕ → Result Configuration ConfigTextFault
config_in bytes = of_value (value_in bytes)

abbrev pub ConfigFails : ConfigTextFault → Result Configuration ConfigTextFault → Type 0
ConfigFails faults.Memory said = Unit {0}
ConfigFails faults.NotJson said = said ≡ Err faults.NotJson
ConfigFails faults.BadShape said = said ≡ Err faults.BadShape
ConfigFails (faults.Config fault) said = said ≡ Err (faults.Config fault)

-- a result is what the text says, unless memory ran out
abbrev pub ConfigGives : Result Configuration ConfigTextFault → Result Configuration ConfigTextFault → Type 0
ConfigGives (Ok config) said = said ≡ Ok config
ConfigGives (Err fault) said = ConfigFails fault said
