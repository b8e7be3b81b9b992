-- What is kept of a value gives the same configuration as the value.
use Rattle.std.proofs.Common.{◌≡◌, ℕ, ◌<◌, ◌≤◌, List, [], ◌∷◌, ◌++◌, Option, Some, None, Ordering, Less, Equal, Greater, Bool, true, false, nat_cmp, refl, sym, ap, ◌∙◌, subst, inl, inr, arith}
use Rattle.std.proofs.lemmas.Bool.Decides.{nat_tests}
use Rattle.std.specs.Prelude.{codes, option_map, option_and_then, is_some, if◌then◌else◌, ◌==◌}
use Rattle.std.specs.Cmp.Lexicographic.{slice_cmp}
use Rattle.std.specs.Ordering.{match_ordering}
use Rattle.json.specs.Token.{Token}
use Rattle.json.specs.Json.{parse_map}
use Rattle.serde_json.specs.Data.{Data, null, boolean, string, number, Num, unsigned, negative, float, array, object, Items, no_items, item, Members, no_members, member, put}
use Rattle.serde_json.specs.Find.{get_member, as_number, as_u64, as_str, as_array}
use Rattle.serde_json.specs.View.{view, items_view}
use Rattle.serde_json.specs.declared.value.Value.{Value}
use Rattle.kc_types.specs.declared.version.Version.{Version}
use Rattle.kc_types.specs.declared.version.Version.TheVariants.{One}
use Rattle.kc_config_text.specs.ConfigText.{small, number_under, digest_of_value, digests_in, approved_in, fields_in, member_count, version_numbered, shape_in}
use Rattle.kc_config_text.specs.ConfigValue.{number_in, digests_of, kept_number, IsAlike, Keeps, KeepsItem, AreAlike, KeepsMembers, NotRead}
use Rattle.kc_config_text.specs.declared.config_text.ConfigTextFault.{ConfigTextFault}
use Rattle.kc_config_text.specs.declared.config_text.ConfigTextFault.TheVariants as faults

-- ---- what was not read

pub not_read : {A B : Type 0} (fault : ConfigTextFault) (a : Option A) (b : Option B) → (a ≡ None → b ≡ None) → NotRead fault a → NotRead fault b
not_read faults.Memory a b h said = tt
not_read faults.NotJson a b h said = h said
not_read faults.BadShape a b h said = said
not_read (faults.Config fault) a b h said = said

-- ---- members

pub alike_through : (u v d : Data) → IsAlike u v → IsAlike v d → IsAlike u d
alike_through u v d first second = record { number = first.number ∙ second.number; digest = first.digest ∙ second.digest; digests = first.digests ∙ second.digests }

put_alike_at : (o : Ordering) (k l : List ℕ) (v d w e : Data) (vs ds : Members) → IsAlike v d → IsAlike w e → AreAlike vs ds → AreAlike (put k v vs) (put k d ds)
    → AreAlike (match_ordering o (member k v (member l w vs)) (member l v vs) (member l w (put k v vs))) (match_ordering o (member k d (member l e ds)) (member l d ds) (member l e (put k d ds)))
put_alike_at Less k l v d w e vs ds first second rest later = (refl, first, (refl, second, rest))
put_alike_at Equal k l v d w e vs ds first second rest later = (refl, first, rest)
put_alike_at Greater k l v d w e vs ds first second rest later = (refl, second, later)

put_alike : (k : List ℕ) (v d : Data) (vs ds : Members) → IsAlike v d → AreAlike vs ds → AreAlike (put k v vs) (put k d ds)
put_alike k v d no_members no_members one all = (refl, one, tt)
put_alike k v d no_members (member m e ds) one all = absurd all
put_alike k v d (member l w vs) no_members one all = absurd all
put_alike k v d (member l w vs) (member m e ds) one all =
    subst (λ n. AreAlike (put k v (member l w vs)) (put k d (member n e ds))) all.0 (put_alike_at (slice_cmp nat_cmp k l) k l v d w e vs ds one all.1 all.2 (put_alike k v d vs ds one all.2))

count_alike : (vs ds : Members) → AreAlike vs ds → member_count vs ≡ member_count ds
count_alike no_members no_members all = refl
count_alike no_members (member m e ds) all = absurd all
count_alike (member l w vs) no_members all = absurd all
count_alike (member l w vs) (member m e ds) all = omega (arith, count_alike vs ds all.2)

-- what is found under a key
found_at : {R : Type 0} (f : Option Data → R) (o : Ordering) (a b : Option Data) (v d : Data) → f a ≡ f b → f (Some v) ≡ f (Some d) → f (match_ordering o a (Some v) a) ≡ f (match_ordering o b (Some d) b)
found_at f Less a b v d others here = others
found_at f Equal a b v d others here = here
found_at f Greater a b v d others here = others

found_alike : {R : Type 0} (f : Option Data → R) → ((v d : Data) → IsAlike v d → f (Some v) ≡ f (Some d)) → (k : List ℕ) (vs ds : Members) → AreAlike vs ds → f (get_member k vs) ≡ f (get_member k ds)
found_alike f same k no_members no_members all = refl
found_alike f same k no_members (member m e ds) all = absurd all
found_alike f same k (member l w vs) no_members all = absurd all
found_alike f same k (member l w vs) (member m e ds) all =
    subst (λ n. f (get_member k (member l w vs)) ≡ f (get_member k (member n e ds))) all.0 (found_at f (slice_cmp nat_cmp k l) _ _ w e (found_alike f same k vs ds all.2) (same w e all.1))

number_alike : (k : List ℕ) (vs ds : Members) → AreAlike vs ds → number_under k (object vs) ≡ number_under k (object ds)
number_alike k vs ds all = found_alike (λ o. option_and_then small (option_and_then as_u64 (option_and_then as_number o))) (λ v d same. same.number) k vs ds all

approved_alike : (vs ds : Members) → AreAlike vs ds → approved_in (object vs) ≡ approved_in (object ds)
approved_alike vs ds all = found_alike (λ o. option_and_then digests_in (option_and_then as_array o)) (λ v d same. same.digests) (codes "approved") vs ds all

abbrev versioned : Option ℕ → ℕ → Option Version
versioned said count = if count == 5 then Some One else if count == 6 then version_numbered said else None

too_many : (said : Option ℕ) (n : ℕ) → 6 < n → versioned said n ≡ None
too_many said n h = grind (arith, nat_tests)

shape_of_many : (ms : Members) → 6 < member_count ms → shape_in (object ms) ≡ None
shape_of_many ms h = ap (option_and_then (λ version. fields_in version (object ms))) (too_many (number_under (codes "version") (object ms)) (member_count ms) h)

-- an object gives the same as what is kept of it
pub shape_kept : (vs ds : Members) → KeepsMembers vs ds → shape_in (object vs) ≡ shape_in (object ds)
shape_kept vs ds (inl all) =
    let under = λ (key : List ℕ). number_alike key vs ds all in
    simp (count_alike vs ds all, under (codes "version"), under (codes "frames"), under (codes "core"), under (codes "host"), under (codes "leaves"), approved_alike vs ds all)
shape_kept vs ds (inr many) = shape_of_many vs many.0 ∙ sym (shape_of_many ds many.1)

put_more_at : (o : Ordering) (k l : List ℕ) (d e : Data) (ms : Members) → member_count ms ≤ member_count (put k d ms)
    → member_count (member l e ms) ≤ member_count (match_ordering o (member k d (member l e ms)) (member l d ms) (member l e (put k d ms)))
put_more_at Less k l d e ms later = omega arith
put_more_at Equal k l d e ms later = omega arith
put_more_at Greater k l d e ms later = omega (arith, later)

put_more : (k : List ℕ) (d : Data) (ms : Members) → member_count ms ≤ member_count (put k d ms)
put_more k d no_members = omega arith
put_more k d (member l e ms) = put_more_at (slice_cmp nat_cmp k l) k l d e ms (put_more k d ms)

-- if few are kept, one more is kept
pub one_more_kept : (k : List ℕ) (v d : Data) (vs ds : Members) → member_count vs ≤ 6 → IsAlike v d → KeepsMembers vs ds → KeepsMembers (put k v vs) (put k d ds)
one_more_kept k v d vs ds few one (inl all) = inl (put_alike k v d vs ds one all)
one_more_kept k v d vs ds few one (inr many) = absurd (omega (arith, many.0))

-- if many are kept, no more need to be
pub enough_kept : (k : List ℕ) (d : Data) (vs ds : Members) → 6 < member_count vs → KeepsMembers vs ds → KeepsMembers vs (put k d ds)
enough_kept k d vs ds many (inl all) = inr (many, omega (arith, put_more k d ds, count_alike vs ds all))
enough_kept k d vs ds many (inr both) = inr (many, omega (arith, put_more k d ds, both.1))

-- ---- items

-- a digest before others, if each is one
abbrev digest_first : Option (List ℕ) → Option (List (List ℕ)) → Option (List (List ℕ))
digest_first first after = option_and_then (λ digest. option_map (λ digests. digest ∷ digests) after) first

-- the digests of some values, before those of the values that follow
abbrev pub digests_before : List Value → Option (List (List ℕ)) → Option (List (List ℕ))
digests_before [] after = after
digests_before (v ∷ vs) after = digest_first (digest_of_value (view v)) (digests_before vs after)

pub digests_before-items : (vs : List Value) → digests_before vs (Some []) ≡ digests_in (items_view vs)
digests_before-items [] = refl
digests_before-items (v ∷ vs) = ap (digest_first (digest_of_value (view v))) (digests_before-items vs)

pub digests_before-append : (vs ws : List Value) (after : Option (List (List ℕ))) → digests_before (vs ++ ws) after ≡ digests_before vs (digests_before ws after)
digests_before-append [] ws after = refl
digests_before-append (v ∷ vs) ws after = ap (digest_first (digest_of_value (view v))) (digests_before-append vs ws after)

none_first : (o : Option (List ℕ)) → digest_first o None ≡ None
none_first None = refl
none_first (Some digest) = refl

pub digests_before-none : (vs : List Value) → digests_before vs None ≡ None
digests_before-none [] = refl
digests_before-none (v ∷ vs) = ap (digest_first (digest_of_value (view v))) (digests_before-none vs) ∙ none_first (digest_of_value (view v))

abbrev pub FindsNone : List Value → Type 0
FindsNone found = (after : Option (List (List ℕ))) → digests_before found after ≡ None

-- All items are those that were read and then those that are left, and what was found has the digests of those read. If
-- not all of them are digests, nothing that follows matters.
pub record FindsDigests (found : List Value) (are_digests : Bool) (all left : Option (Items × List Token)) : Type 0 where
  pub front : Items → Items
  pub read : all ≡ parse_map front left
  pub digests : (rest : Items) → digests_before found (digests_in rest) ≡ digests_in (front rest)
  pub none : are_digests ≡ false → FindsNone found

with_item : (front : Items → Items) (d : Data) (left : Option (Items × List Token)) → parse_map front (parse_map (item d) left) ≡ parse_map (λ rest. front (item d rest)) left
with_item front d None = refl
with_item front d (Some p) = refl

nothing_before : (all : Option (Items × List Token)) → all ≡ parse_map (λ rest. rest) all
nothing_before None = refl
nothing_before (Some p) = refl

pub no_item_found : (all : Option (Items × List Token)) → FindsDigests [] true all all
no_item_found all = record { front = λ rest. rest; read = nothing_before all; digests = λ rest. refl; none = λ never. absurd (cc) }

module _ (found : List Value) (are_digests : Bool) (all left more : Option (Items × List Token)) (d : Data) (so_far : FindsDigests found are_digests all left) (turn : left ≡ parse_map (item d) more) where
  read_on : all ≡ parse_map (λ rest. so_far.front (item d rest)) more
  read_on = so_far.read ∙ ap (parse_map so_far.front) turn ∙ with_item so_far.front d more

  -- an item is kept after the digests
  item_found : (v : Value) (is_digest : Bool) → digest_of_value (view v) ≡ digest_of_value d → (is_digest ≡ false → digest_of_value d ≡ None) → FindsDigests (found ++ v ∷ []) is_digest all more
  item_found v is_digest same none = record {
    front = λ rest. so_far.front (item d rest);
    read = read_on;
    digests = λ rest. digests_before-append found (v ∷ []) (digests_in rest)
        ∙ ap (λ digest. digests_before found (digest_first digest (digests_in rest))) same ∙ so_far.digests (item d rest);
    none = λ other after. digests_before-append found (v ∷ []) after
        ∙ ap (λ digest. digests_before found (digest_first digest after)) (same ∙ none other) ∙ digests_before-none found;
  }

  -- an item is passed over after one that is not a digest
  item_passed : are_digests ≡ false → FindsDigests found false all more
  item_passed other = record {
    front = λ rest. so_far.front (item d rest);
    read = read_on;
    digests = λ rest. so_far.none other (digests_in rest) ∙ sym (so_far.none other (digests_in (item d rest))) ∙ so_far.digests (item d rest);
    none = λ _. so_far.none other;
  }

pub text_or_none : (d : Data) → false ≡ is_some (as_str d) → digest_of_value d ≡ None
text_or_none null e = refl
text_or_none (boolean b) e = refl
text_or_none (number n) e = refl
text_or_none (string s) e = absurd (cc)
text_or_none (array ds) e = refl
text_or_none (object ms) e = refl

pub next_item : (found new : List Value) (are_digests is_digest : Bool) (all left more : Option (Items × List Token)) (v d : Data) → FindsDigests found are_digests all left → left ≡ parse_map (item d) more
    → IsAlike v d → KeepsItem are_digests found v is_digest new → FindsDigests new is_digest all more
next_item found new true is_digest all left more v d so_far turn alike (kept, appended, as_kept, is) =
    rw appended (item_found found true all left more d so_far turn kept is_digest (as_kept ∙ alike.digest) (λ other. sym alike.digest ∙ text_or_none v (sym other ∙ is)))
next_item found new false is_digest all left more v d so_far turn alike (same, is) = rw (same, is) (item_passed found false all left more d so_far turn refl)

-- at the bracket, the digests of all items are found
pub all_found : (found : List Value) (are_digests : Bool) (all left : Option (Items × List Token)) (r : List Token) → FindsDigests found are_digests all left → left ≡ Some (no_items, r)
    → (ds : Items) × (all ≡ Some (ds, r)) × (digests_in (items_view found) ≡ digests_in ds)
all_found found are_digests all left r so_far over =
    (so_far.front no_items, so_far.read ∙ ap (parse_map so_far.front) over, sym (digests_before-items found) ∙ so_far.digests no_items)

-- ---- a value

pub nothing_kept : (kept d : Data) → kept ≡ null → number_in d ≡ None → digest_of_value d ≡ None → digests_of d ≡ None → shape_in d ≡ None → Keeps kept d
nothing_kept kept d e no_number no_digest no_digests no_shape = record {
  alike = record { number = ap number_in e ∙ sym no_number; digest = ap digest_of_value e ∙ sym no_digest; digests = ap digests_of e ∙ sym no_digests };
  shape = ap shape_in e ∙ sym no_shape;
}

number_keeps : (n : Num) → Keeps (kept_number n) (number n)
number_keeps (unsigned n) = record { alike = record { number = refl; digest = refl; digests = refl }; shape = refl }
number_keeps (negative z) = nothing_kept null _ refl refl refl refl refl
number_keeps (float x) = nothing_kept null _ refl refl refl refl refl

pub number_said : (said : Option Num) (kept : Data) → Some kept ≡ option_map kept_number said → (n : Num) × (said ≡ Some n) × Keeps kept (number n)
number_said None kept e = absurd (cc)
number_said (Some n) kept e = let is : kept ≡ kept_number n = cc in (n, refl, subst (λ d. Keeps d (number n)) (sym is) (number_keeps n))

pub no_number_said : (said : Option Num) → None ≡ option_map kept_number said → said ≡ None
no_number_said None e = refl
no_number_said (Some n) e = absurd (cc)

pub array_keeps : (kept : Data) (vs ds : Items) → kept ≡ array vs → digests_in vs ≡ digests_in ds → Keeps kept (array ds)
array_keeps kept vs ds e same = record { alike = record { number = ap number_in e; digest = ap digest_of_value e; digests = ap digests_of e ∙ same }; shape = ap shape_in e }

pub object_keeps : (kept : Data) (vs ms : Members) → kept ≡ object vs → KeepsMembers vs ms → Keeps kept (object ms)
object_keeps kept vs ms e all = record { alike = record { number = ap number_in e; digest = ap digest_of_value e; digests = ap digests_of e }; shape = ap shape_in e ∙ shape_kept vs ms all }
