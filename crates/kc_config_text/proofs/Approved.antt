-- The digests that a configuration's text approves have 32 bytes each.
use Rattle.std.proofs.Common.{ℕ, ◌≡◌, ◌<◌, ◌*◌, List, [], ◌∷◌, length, All, Option, Some, None, refl, ap, sym, subst, ◌∙◌, arith}
use Rattle.std.specs.Prelude.{codes, option_map, option_and_then, Result, Ok, Err}
use Rattle.std.specs.List.{AllByRecursion}
use Rattle.std.specs.Result.{result_ok}
use Rattle.std.proofs.lemmas.Option.{option_and_then_some}
use Rattle.std.proofs.lemmas.List.{get_or_default}
use Rattle.hex.specs.Hex.{decode_sized}
use Rattle.hex.specs.declared.FromHexError.{FromHexError}
use Rattle.hex.proofs.HexLemmas.{decode_of-ok, decode_sized-ok, decode_sized-twice}
use Rattle.serde_json.specs.Data.{Data, Items, no_items, item}
use Rattle.serde_json.specs.Find.{get, as_str, as_array}
use Rattle.kc_types.specs.declared.version.Version.{Version}
use Rattle.kc_types.specs.Configuration.{Configuration}
use Rattle.kc_types.specs.ConfigFaults.{fault_of}
use Rattle.kc_types.specs.declared.config.ConfigFault.{ConfigFault}
use Rattle.kc_config_text.specs.ConfigText.{value_in, digest_of_value, number_under, digests_in, approved_in, fields_in, shape_in, unless_fault, of_shape, of_value, config_in}

abbrev AreBytes : List ℕ → Type 0
AreBytes digest = (length digest ≡ 32) × All (λ b. b < 256) digest

spelled : (text digest : List ℕ) (decoded : Result (List ℕ) FromHexError) → decode_sized text 32 ≡ decoded → result_ok decoded ≡ Some digest → decode_sized text 32 ≡ Ok digest
spelled text digest (Ok bytes) is some = is ∙ cc some
spelled text digest (Err fault) is some = cc some

digest_is : (value : Data) (digest : List ℕ) → digest_of_value value ≡ Some digest → AreBytes digest
digest_is value digest is =
    option_and_then_some (λ text. result_ok (decode_sized text 32)) (as_str value) digest is (λ text there some.
    let decoded = spelled text digest _ refl some in
    let twice : length text ≡ 2 * 32 = decode_sized-ok text 32 digest decoded in
    let found = decode_of-ok text digest (sym (decode_sized-twice text 32 twice) ∙ decoded) in
    let long = found.2 in
    (omega (arith, twice, long), λ k d lt. rw (get_or_default digest k d 0 lt) (found.3 k)))

mapped : {A B : Type 0} (f : A → B) (found : Option A) (y : B) → option_map f found ≡ Some y → (x : A) × (found ≡ Some x) × (f x ≡ y)
mapped f None y is = cc is
mapped f (Some x) y is = (x, refl, cc is)

items_are : (items : Items) (digests : List (List ℕ)) → digests_in items ≡ Some digests → AllByRecursion AreBytes digests
items_are no_items digests is = let none : [] ≡ digests = cc is in subst (AllByRecursion AreBytes) none tt
items_are (item value values) digests is =
    option_and_then_some (λ digest. option_map (λ digests. digest ∷ digests) (digests_in values)) (digest_of_value value) digests is (λ digest first more.
    let rest = mapped (λ digests. digest ∷ digests) (digests_in values) digests more in
    subst (AllByRecursion AreBytes) rest.2 (digest_is value digest first, items_are values rest.0 rest.1))

fields_are : (version : Version) (frames core host leaves : Option ℕ) (approved : Option (List (List ℕ))) (config : Configuration)
    → option_and_then (λ frames. option_and_then (λ core. option_and_then (λ host. option_and_then (λ leaves.
    option_map (λ approved. record { version = version; frames = frames; core = core; host = host; leaves = leaves; approved = approved }) approved) leaves) host) core) frames ≡ Some config
    → approved ≡ Some config.approved
fields_are version None core host leaves approved config is = cc is
fields_are version (Some f) None host leaves approved config is = cc is
fields_are version (Some f) (Some c) None leaves approved config is = cc is
fields_are version (Some f) (Some c) (Some h) None approved config is = cc is
fields_are version (Some f) (Some c) (Some h) (Some l) None config is = cc is
fields_are version (Some f) (Some c) (Some h) (Some l) (Some digests) config is = ap (option_map (λ (made : Configuration). made.approved)) is

without_fault : (fault : Option ConfigFault) (config made : Configuration) → unless_fault fault config ≡ Ok made → config ≡ made
without_fault None config made is = cc is
without_fault (Some fault) config made is = cc is

of_shape_is : (shape : Option Configuration) (config : Configuration) → of_shape shape ≡ Ok config → shape ≡ Some config
of_shape_is None config is = cc is
of_shape_is (Some shape) config is = ap Some (without_fault (fault_of shape) shape config is)

of_value_is : (value : Option Data) (config : Configuration) → of_value value ≡ Ok config → AllByRecursion AreBytes config.approved
of_value_is None config is = cc is
of_value_is (Some value) config is = option_and_then_some (λ version. fields_in version value) _ config (of_shape_is (shape_in value) config is) (λ version there is.
    option_and_then_some digests_in (option_and_then as_array (get (codes "approved") value)) config.approved
    (fields_are version (number_under (codes "frames") value) (number_under (codes "core") value) (number_under (codes "host") value) (number_under (codes "leaves") value) (approved_in value) config is)
    (λ items there is. items_are items config.approved is))

-- each has 32 bytes
pub approved_are : (bytes : List ℕ) (config : Configuration) → config_in bytes ≡ Ok config → AllByRecursion (λ digest. (length digest ≡ 32) × All (λ b. b < 256) digest) config.approved
unfolding config_in
approved_are bytes config is = of_value_is (value_in bytes) config is
