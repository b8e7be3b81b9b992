-- The loops of JSON's grammar, one turn at a time, if each value that is read is data.
use Rattle.std.proofs.Common.{◌≡◌, ℕ, zero, suc, ◌-◌, ◌<◌, ◌≤◌, List, [], ◌∷◌, length, Option, Bool, Some, None, refl, ap, ap₂, ◌∙◌}
use Rattle.std.specs.Prelude.{option_map, option_and_then}
use Rattle.json.specs.Token.{Token}
use Rattle.json.specs.Json as json
use Rattle.json.specs.Json.{Json, Parse, parse_map, after_end_array, read_key, items_step, items, members, value}
use Rattle.json.proofs.Grammar.{value_is, value-begin_array, value-begin_object, items_end, items_more, members_end, members_no_key, members_more}
use Rattle.serde_json.specs.Data.{Num, Data, null, boolean, string, number, array, object, no_items, item, Members, no_members, put}
use Rattle.serde_json.specs.Read.{of_json, of_items, of_members, converted, number_of}

-- what is data was read, and if it is none after reading, it is none
abbrev given : {A : Type 0} → A → Option A → A
given a None = a
given a (Some b) = b

paired : {B : Type 0} (s r : List Token) (x : Option B) (b : B) → option_map {U = B × List Token} (λ y. (y, s)) x ≡ Some (b, r) → (s ≡ r) × (x ≡ Some b)
paired s r None b e = absurd (cc)
paired s r (Some y) b e = let same = ap (given (y, s)) e in (ap (λ p. p.1) same, ap (λ p. Some p.0) same)

was_read : {A B : Type 0} (f : A → Option B) (o : Option (A × List Token)) (b : B) (r : List Token) → converted f o ≡ Some (b, r) → (a : A) × (o ≡ Some (a, r)) × (f a ≡ Some b)
was_read f None b r e = absurd (cc)
was_read f (Some p) b r e = let both = paired p.1 r (f p.0) b e in (p.0, ap (λ s. Some (p.0, s)) both.0, both.1)

is_none : {B : Type 0} (s : List Token) (x : Option B) → option_map {U = B × List Token} (λ y. (y, s)) x ≡ None → x ≡ None
is_none s None e = refl
is_none s (Some y) e = absurd (cc)

renamed : {A B : Type 0} (g : A → B) (s : List Token) (x : Option A) → option_map (λ b. (b, s)) (option_map g x) ≡ parse_map g (option_map (λ a. (a, s)) x)
renamed g s None = refl
renamed g s (Some a) = refl

converted-array : (o : Option (json.Items × List Token)) → converted of_json (parse_map json.array o) ≡ parse_map array (converted of_items o)
converted-array None = refl
converted-array (Some p) = renamed array p.1 (of_items p.0)

converted-object : (o : Option (json.Members × List Token)) → converted of_json (parse_map json.object o) ≡ parse_map object (converted (λ ms. of_members ms no_members) o)
converted-object None = refl
converted-object (Some p) = renamed object p.1 (of_members p.0 no_members)

-- ---- the first token

of_number : (r : List Token) (o : Option Num) → option_map {U = Data × List Token} (λ d. (d, r)) (option_map number o) ≡ option_map {U = Data × List Token} (λ n. (number n, r)) o
of_number r None = refl
of_number r (Some n) = refl

module _ (depth : ℕ) (ts r : List Token) where
  pub string_read : (s : List ℕ) → ts ≡ Token.string s ∷ r → converted of_json (value depth ts) ≡ Some (string s, r)
  string_read s e = ap (converted of_json) (ap (value depth) e ∙ value_is depth (Token.string s ∷ r))

  pub boolean_read : (b : Bool) → ts ≡ Token.boolean b ∷ r → converted of_json (value depth ts) ≡ Some (boolean b, r)
  boolean_read b e = ap (converted of_json) (ap (value depth) e ∙ value_is depth (Token.boolean b ∷ r))

  pub null_read : ts ≡ Token.null ∷ r → converted of_json (value depth ts) ≡ Some (null, r)
  null_read e = ap (converted of_json) (ap (value depth) e ∙ value_is depth (Token.null ∷ r))

  pub number_read : (s : List ℕ) → ts ≡ Token.number s ∷ r → converted of_json (value depth ts) ≡ option_map (λ n. (number n, r)) (number_of s)
  number_read s e = ap (converted of_json) (ap (value depth) e ∙ value_is depth (Token.number s ∷ r)) ∙ of_number r (number_of s)

  pub array_read : 0 < depth → ts ≡ Token.begin_array ∷ r → converted of_json (value depth ts) ≡ parse_map array (converted of_items (items (value (depth - 1)) (length r) r))
  array_read some e = ap (converted of_json) (ap (value depth) e ∙ value-begin_array depth r some) ∙ converted-array (items (value (depth - 1)) (length r) r)

  pub object_read : 0 < depth → ts ≡ Token.begin_object ∷ r → converted of_json (value depth ts) ≡ parse_map object (converted (λ ms. of_members ms no_members) (members (value (depth - 1)) (length r) r))
  object_read some e = ap (converted of_json) (ap (value depth) e ∙ value-begin_object depth r some) ∙ converted-object (members (value (depth - 1)) (length r) r)

module _ (depth : ℕ) (ts r : List Token) (none : depth ≡ 0) where
  pub array_too_deep : ts ≡ Token.begin_array ∷ r → converted of_json (value depth ts) ≡ None
  unfolding value
  array_too_deep e = ap (converted of_json) (ap₂ value none e)

  pub object_too_deep : ts ≡ Token.begin_object ∷ r → converted of_json (value depth ts) ≡ None
  unfolding value
  object_too_deep e = ap (converted of_json) (ap₂ value none e)

pub none_first : (depth : ℕ) → converted of_json (value depth []) ≡ None
none_first depth = ap (converted of_json) (value_is depth [])

-- ---- one value before the others, as an item or a member

module _ {A B : Type 0} (before : Json → A → A) (f : A → Option B) (then_with : Data → A → Option B) (is : (j : Json) (a : A) → f (before j a) ≡ option_and_then (λ d. then_with d a) (of_json j)) where
  one_data : (j : Json) (d : Data) (o : Option (A × List Token)) → of_json j ≡ Some d → converted f (parse_map (before j) o) ≡ converted (then_with d) o
  one_data j d None e = refl
  one_data j d (Some p) e = ap (option_map (λ b. (b, p.1))) (is j p.0 ∙ ap (option_and_then (λ x. then_with x p.0)) e)

  one_none : (j : Json) (o : Option (A × List Token)) → of_json j ≡ None → converted f (parse_map (before j) o) ≡ None
  one_none j None e = refl
  one_none j (Some p) e = ap (option_map (λ b. (b, p.1))) (is j p.0 ∙ ap (option_and_then (λ x. then_with x p.0)) e)

  none_read : (more : Parse A) (o : Option (Json × List Token)) → converted of_json o ≡ None → converted f (option_and_then (λ q. parse_map (before q.0) (more q.1)) o) ≡ None
  none_read more None e = refl
  none_read more (Some q) e = one_none q.0 (more q.1) (is_none q.1 (of_json q.0) e)

item_of : (d : Data) (o : Option (json.Items × List Token)) → converted (λ js. option_map (item d) (of_items js)) o ≡ parse_map (item d) (converted of_items o)
item_of d None = refl
item_of d (Some p) = renamed (item d) p.1 (of_items p.0)

module _ (p : Parse Json) where
  pub item_read : (n : ℕ) (ts r : List Token) (d : Data) → 0 < n → after_end_array ts ≡ None → converted of_json (p ts) ≡ Some (d, r) → converted of_items (items p n ts) ≡ parse_map (item d) (converted of_items (items p (n - 1) r))
  item_read n ts r d some going e =
      let j = was_read of_json (p ts) d r e in
      ap (converted of_items) (items_more p n ts r j.0 some going j.1)
      ∙ one_data json.item of_items (λ d js. option_map (item d) (of_items js)) (λ j js. refl) j.0 d (items p (n - 1) r) j.2 ∙ item_of d (items p (n - 1) r)

  pub item_refused : (n : ℕ) (ts : List Token) → after_end_array ts ≡ None → converted of_json (p ts) ≡ None → converted of_items (items p n ts) ≡ None
  unfolding items
  item_refused zero ts going e = refl
  item_refused (suc n) ts going e =
      ap (λ o. converted of_items (items_step p (items p n) ts o)) going
      ∙ none_read json.item of_items (λ d js. option_map (item d) (of_items js)) (λ j js. refl) (items p n) (p ts) e

  pub items_over : (n : ℕ) (ts r : List Token) → length ts ≤ n → after_end_array ts ≡ Some r → converted of_items (items p n ts) ≡ Some (no_items, r)
  items_over n ts r enough e = ap (converted of_items) (items_end p n ts r enough e)

  module _ (old : Members) where
    pub member_read : (n : ℕ) (k : List ℕ) (ts s r : List Token) (d : Data) → 0 < n → read_key ts ≡ Some (Some k, s) → converted of_json (p s) ≡ Some (d, r)
        → converted (λ ms. of_members ms old) (members p n ts) ≡ converted (λ ms. of_members ms (put k d old)) (members p (n - 1) r)
    member_read n k ts s r d some key e =
        let j = was_read of_json (p s) d r e in
        ap (converted (λ ms. of_members ms old)) (members_more p n k ts s r j.0 some key j.1)
        ∙ one_data (json.member k) (λ ms. of_members ms old) (λ d ms. of_members ms (put k d old)) (λ j ms. refl) j.0 d (members p (n - 1) r) j.2

    pub member_refused : (n : ℕ) (k : List ℕ) (ts s : List Token) → read_key ts ≡ Some (Some k, s) → converted of_json (p s) ≡ None → converted (λ ms. of_members ms old) (members p n ts) ≡ None
    unfolding members
    member_refused zero k ts s key e = refl
    member_refused (suc n) k ts s key e = rw key (none_read (json.member k) (λ ms. of_members ms old) (λ d ms. of_members ms (put k d old)) (λ j ms. refl) (members p n) (p s) e)

    pub key_refused : (n : ℕ) (ts : List Token) → read_key ts ≡ None → converted (λ ms. of_members ms old) (members p n ts) ≡ None
    key_refused n ts e = ap (converted (λ ms. of_members ms old)) (members_no_key p n ts e)

    pub members_over : (n : ℕ) (ts r : List Token) → length ts ≤ n → read_key ts ≡ Some (None, r) → converted (λ ms. of_members ms old) (members p n ts) ≡ Some (old, r)
    members_over n ts r enough e = ap (converted (λ ms. of_members ms old)) (members_end p n ts r enough e)
