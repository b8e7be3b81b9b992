-- Members, digests and values of JSON, counted and gathered.
use Rattle.std.proofs.Common.{◌≡◌, refl, ap, suc, List, [], ◌∷◌, ◌++◌, length, ℕ, Option, None, Bool, true, false, cond}
use Rattle.std.specs.Prelude.{String, option_map}
use Rattle.std.specs.declared.alloc.Global.{Global}
use Rattle.std.specs.Str.{IsUtf8, is_utf8}
use Rattle.std.proofs.lemmas.Str.{IsUtf8-from_is_utf8, is_utf8-from_IsUtf8}
use Rattle.serde_json.specs.declared.value.Value.{Value}
use Rattle.serde_json.specs.View.{members_view}
use Rattle.serde_json.specs.Read.{read as read_text}
use Rattle.kc_config_text.specs.ConfigText.{member_count, value_in}

-- digests that follow those found before
abbrev pub with_front : List (List ℕ) → Option (List (List ℕ)) → Option (List (List ℕ))
with_front front found = option_map (λ digests. front ++ digests) found

pub member_count-view : (entries : List (String Global × Value)) → member_count (members_view entries) ≡ length entries
member_count-view [] = refl
member_count-view (e ∷ entries) = ap suc (member_count-view entries)

pub value_of_text : (bytes : List ℕ) → IsUtf8 bytes → value_in bytes ≡ read_text bytes
value_of_text bytes text = rw (is_utf8-from_IsUtf8 bytes text)

none_of_test : (bytes : List ℕ) (b : Bool) → (b ≡ true → ⊥) → cond b (read_text bytes) None ≡ None
none_of_test bytes true h = absurd (h refl)
none_of_test bytes false h = refl

pub value_of_no_text : (bytes : List ℕ) → (IsUtf8 bytes → ⊥) → value_in bytes ≡ None
value_of_no_text bytes h = none_of_test bytes (is_utf8 bytes) (λ e. h (IsUtf8-from_is_utf8 bytes e))
