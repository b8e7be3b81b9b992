-- What is kept of a JSON value that a configuration is read from.
use Rattle.std.specs.Prelude.{◌≡◌, ◌⊎◌, ◌<◌, ⊤, ℕ, List, [], ◌∷◌, ◌++◌, Bool, true, false, Option, None, is_some, option_and_then}
use Rattle.serde_json.specs.Data.{Num, unsigned, negative, float, Data, null, number, Members, no_members, member}
use Rattle.serde_json.specs.Find.{as_number, as_u64, as_str, as_array}
use Rattle.serde_json.specs.View.{view}
use Rattle.serde_json.specs.declared.value.Value.{Value}
use Rattle.kc_config_text.specs.ConfigText.{small, digest_of_value, digests_in, member_count, shape_in}
use Rattle.kc_config_text.specs.declared.config_text.ConfigTextFault.{ConfigTextFault}
use Rattle.kc_config_text.specs.declared.config_text.ConfigTextFault.TheVariants as faults

-- the whole number of 32 bits that a value is
abbrev pub number_in : Data → Option ℕ
number_in value = option_and_then small (option_and_then as_u64 (as_number value))

-- the digests of a value that is an array of digests alone
abbrev pub digests_of : Data → Option (List (List ℕ))
digests_of value = option_and_then digests_in (as_array value)

-- under a key or in an array, what is kept gives the same for a configuration as the value
pub record IsAlike (kept value : Data) : Type 0 where
  pub number : number_in kept ≡ number_in value
  pub digest : digest_of_value kept ≡ digest_of_value value
  pub digests : digests_of kept ≡ digests_of value

-- and it gives the same if the value is a whole text
pub record Keeps (kept value : Data) : Type 0 where
  pub alike : IsAlike kept value
  pub shape : shape_in kept ≡ shape_in value

-- an item is kept only after digests, and it is known whether it is a text too
abbrev pub KeepsItem : Bool → List Value → Data → Bool → List Value → Type 0
KeepsItem true old value is_digest new = (kept : Value) × (new ≡ old ++ kept ∷ []) × (digest_of_value (view kept) ≡ digest_of_value value) × (is_digest ≡ is_some (as_str value))
KeepsItem false old value is_digest new = (new ≡ old) × (is_digest ≡ false)

-- each member is kept, under its key
abbrev pub AreAlike : Members → Members → Type 0
AreAlike no_members no_members = ⊤
AreAlike no_members (member key value values) = ⊥
AreAlike (member key kept more) no_members = ⊥
AreAlike (member key kept more) (member name value values) = (key ≡ name) × IsAlike kept value × AreAlike more values

-- each member is kept, or both have more members than a configuration
abbrev pub KeepsMembers : Members → Members → Type 0
KeepsMembers kept members = AreAlike kept members ⊎ ((6 < member_count kept) × (6 < member_count members))

-- a whole number of 64 bits is kept, and nothing of any other number
abbrev pub kept_number : Num → Data
kept_number (unsigned n) = number (unsigned n)
kept_number (negative z) = null
kept_number (float x) = null

-- nothing was read, since memory ran out or, if that is the fault, since it is not JSON
abbrev pub NotRead : {A : Type 0} → ConfigTextFault → Option A → Type 0
NotRead faults.Memory said = ⊤
NotRead faults.NotJson said = said ≡ None
NotRead faults.BadShape said = ⊥
NotRead (faults.Config fault) said = ⊥
