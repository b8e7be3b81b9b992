-- What a line of words is read as.
use Rattle.std.specs.Prelude.{◌==◌, ℕ, List, [], ◌∷◌, codes, Option, Some, None, option_map, option_and_then, if◌then◌else◌}
use Rattle.std.specs.List.{slice_split}
use Rattle.std.specs.Str.{bytes_eq}
use Rattle.kc_types.specs.declared.call.Call.{Call}
use Rattle.kc_types.specs.declared.call.Call.TheVariants.{Take, Give, HostFault, HostRead, HostWrite, RegisterVm, RegisterVcpu, SetBoot, Remap, Verify, Map, GuestRead, GuestWrite, Grant, Revoke, GrantRange, RevokeRange, Drop, Clear}
use Rattle.kc_lines.specs.Words.{number_in, data_of}

-- ---- a name and its numbers

abbrev pub one_word : List ℕ → Option Call
one_word name = if bytes_eq name (codes "take") then Some Take else None

abbrev pub with_one_number : List ℕ → ℕ → Option Call
with_one_number name number =
    if bytes_eq name (codes "give") then Some (Give number)
    else if bytes_eq name (codes "hfault") then Some (HostFault number)
    else if bytes_eq name (codes "regvm") then Some (RegisterVm number)
    else if bytes_eq name (codes "verify") then Some (Verify number)
    else if bytes_eq name (codes "clear") then Some (Clear number)
    else None

abbrev pub with_two_numbers : List ℕ → ℕ → ℕ → Option Call
with_two_numbers name first second = if bytes_eq name (codes "regvcpu") then Some (RegisterVcpu first second) else None

abbrev pub with_three_numbers : List ℕ → ℕ → ℕ → ℕ → Option Call
with_three_numbers name first second third =
    if bytes_eq name (codes "hread") then Some (HostRead first second third)
    else if bytes_eq name (codes "setboot") then Some (SetBoot first second third)
    else if bytes_eq name (codes "remap") then Some (Remap first second third)
    else if bytes_eq name (codes "map") then Some (Map first second third)
    else if bytes_eq name (codes "grant") then Some (Grant first second third)
    else if bytes_eq name (codes "revoke") then Some (Revoke first second third)
    else if bytes_eq name (codes "drop") then Some (Drop first second third)
    else None

abbrev pub with_four_numbers : List ℕ → ℕ → ℕ → ℕ → ℕ → Option Call
with_four_numbers name first second third fourth =
    if bytes_eq name (codes "grantr") then Some (GrantRange first second third fourth)
    else if bytes_eq name (codes "revoker") then Some (RevokeRange first second third fourth)
    else None

-- two numbers, and a number or bytes
abbrev pub host_access : List ℕ → ℕ → ℕ → List ℕ → Option Call
host_access name first second last =
    if bytes_eq name (codes "hwrite") then option_map (HostWrite first second) (data_of last)
    else option_and_then (with_three_numbers name first second) (number_in last)

-- four numbers, and a number or bytes
abbrev pub read_guest_access : List ℕ → ℕ → ℕ → ℕ → ℕ → List ℕ → Option Call
read_guest_access name vm vcpu gfn offset last =
    if bytes_eq name (codes "gwrite") then option_map (GuestWrite vm vcpu gfn offset) (data_of last)
    else if bytes_eq name (codes "gread") then option_map (GuestRead vm vcpu gfn offset) (number_in last)
    else None

-- ---- a name and its words

abbrev pub two_words : List ℕ → List ℕ → Option Call
two_words name first = option_and_then (with_one_number name) (number_in first)

abbrev pub three_words : List ℕ → List ℕ → List ℕ → Option Call
three_words name first second =
    option_and_then (λ a. option_and_then (with_two_numbers name a) (number_in second)) (number_in first)

abbrev pub four_words : List ℕ → List ℕ → List ℕ → List ℕ → Option Call
four_words name first second third =
    option_and_then (λ a. option_and_then (λ b. host_access name a b third) (number_in second)) (number_in first)

abbrev pub five_words : List ℕ → List ℕ → List ℕ → List ℕ → List ℕ → Option Call
five_words name first second third fourth =
    option_and_then (λ a. option_and_then (λ b. option_and_then (λ c. option_and_then (with_four_numbers name a b c) (number_in fourth)) (number_in third)) (number_in second)) (number_in first)

abbrev pub six_words : List ℕ → List ℕ → List ℕ → List ℕ → List ℕ → List ℕ → Option Call
six_words name first second third fourth fifth =
    option_and_then (λ a. option_and_then (λ b. option_and_then (λ c. option_and_then (λ d. read_guest_access name a b c d fifth) (number_in fourth)) (number_in third)) (number_in second)) (number_in first)

-- by the number of words, and then by the name
unfoldable pub call_of_words : List (List ℕ) → Option Call
call_of_words (name ∷ []) = one_word name
call_of_words (name ∷ first ∷ []) = two_words name first
call_of_words (name ∷ first ∷ second ∷ []) = three_words name first second
call_of_words (name ∷ first ∷ second ∷ third ∷ []) = four_words name first second third
call_of_words (name ∷ first ∷ second ∷ third ∷ fourth ∷ []) = five_words name first second third fourth
call_of_words (name ∷ first ∷ second ∷ third ∷ fourth ∷ fifth ∷ []) = six_words name first second third fourth fifth
call_of_words _ = None

-- the call that a line is, without its newline
abbrev pub call_of : List ℕ → Option Call
call_of line = call_of_words (slice_split (λ b. b == 32) line)
