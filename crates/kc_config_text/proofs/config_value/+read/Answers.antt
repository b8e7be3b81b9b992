use Rattle.std.proofs.Common.{◌≡◌, ◌-◌, ◌<◌, [], ◌∷◌, length, Some, None, Err, refl, ap, ◌∙◌, inl, arith, rules}
use Rattle.std.specs.Prelude.{option_map}
use Rattle.json.specs.Token.{Token}
use Rattle.json.specs.Json.{parse_map, after_end_array, read_key, value}
use Rattle.json.specs.Reads.{token_of}
use Rattle.json.proofs.Grammar.{value_is, read_key-shorter}
use Rattle.serde_json.specs.Data.{null, boolean, number, string, array, object, no_members, put}
use Rattle.serde_json.specs.Read.{of_json, converted, number_of}
use Rattle.serde_json.specs.View.{view}
use Rattle.serde_json.specs.declared.value.Value.{the_lemmas}
use Rattle.serde_json.proofs.Views.{view-Array, view-Object}
use Rattle.kc_config_text.specs.declared.config_text.ConfigTextFault.TheVariants.{NotJson}
use Rattle.kc_config_text.proofs.Turns.{string_read, boolean_read, null_read, number_read, array_read, object_read, array_too_deep, object_too_deep, none_first, item_read, item_refused, items_over, member_read, member_refused, key_refused, members_over}
use Rattle.kc_config_text.proofs.KeptValues.{not_read, nothing_kept, number_said, no_number_said, array_keeps, object_keeps, no_item_found, next_item, all_found}
use Rattle.kc_config_text.proofs.config_value.+read.Goals as goal

pub read-returns-in_err-token-clause-err : goal.read-returns-in_err-token-clause-err
read-returns-in_err-token-clause-err t c =
    let empty : c.args.reader.now ≡ [] = grind arith in
    let is : c.from_residual.result ≡ Err NotJson = grind arith in
    rw (is, empty) (none_first c.args.depth)

pub read-returns-then-depth-eq0-clause-err : goal.read-returns-then-depth-eq0-clause-err
read-returns-then-depth-eq0-clause-err t c =
    let opens : c.args.reader.now ≡ Token.begin_array ∷ c.next.new.self = grind arith in
    array_too_deep c.args.depth _ _ (omega arith) opens

pub read-returns-then-depth-eq0-2-clause-err : goal.read-returns-then-depth-eq0-2-clause-err
read-returns-then-depth-eq0-2-clause-err t c =
    let opens : c.args.reader.now ≡ Token.begin_object ∷ c.next.new.self = grind arith in
    object_too_deep c.args.depth _ _ (omega arith) opens

pub read-returns-in_err-read_items-in-BeginArray-clause-err : goal.read-returns-in_err-read_items-in-BeginArray-clause-err
read-returns-in_err-read_items-in-BeginArray-clause-err t c =
    let opens : c.args.reader.now ≡ Token.begin_array ∷ c.next.new.self = grind arith in
    let items = c.in_err-read_items-in-BeginArray in
    let is : c.from_residual-in_err-read_items-in-BeginArray.result ≡ Err items.field-0.0 = grind arith in
    rw is (not_read _ _ _ (λ refused. array_read c.args.depth _ _ (omega arith) opens ∙ ap (parse_map array) refused) items.ensures.err)

pub read-returns-in_err-read_members-in-BeginObject-clause-err : goal.read-returns-in_err-read_members-in-BeginObject-clause-err
read-returns-in_err-read_members-in-BeginObject-clause-err t c =
    let opens : c.args.reader.now ≡ Token.begin_object ∷ c.next.new.self = grind arith in
    let members = c.in_err-read_members-in-BeginObject in
    let is : c.from_residual-in_err-read_members-in-BeginObject.result ≡ Err members.field-0.0 = grind arith in
    rw is (not_read _ _ _ (λ refused. object_read c.args.depth _ _ (omega arith) opens ∙ ap (parse_map object) refused) members.ensures.err)

pub read-returns-in_ok-keep_text-in-String-clause-ok : goal.read-returns-in_ok-keep_text-in-String-clause-ok
read-returns-in_ok-keep_text-in-String-clause-ok t c =
    let text = c.in-String.text.now in
    let is : c.args.reader.now ≡ Token.string text ∷ c.next.new.self = grind arith in
    (string text, string_read c.args.depth _ _ text is, c.in_ok-keep_text-in-String.ensures)

pub read-returns-in-Bool-clause-ok : goal.read-returns-in-Bool-clause-ok
read-returns-in-Bool-clause-ok t c =
    let b = c.in-Bool.field-0 in
    let is : c.args.reader.now ≡ Token.boolean b ∷ c.next.new.self = grind arith in
    (boolean b, boolean_read c.args.depth _ _ b is, nothing_kept _ _ (search (rules, the_lemmas)) refl refl refl refl)

pub read-returns-in-Null-clause-ok : goal.read-returns-in-Null-clause-ok
read-returns-in-Null-clause-ok t c =
    let is : c.args.reader.now ≡ Token.null ∷ c.next.new.self = grind arith in
    (null, null_read c.args.depth _ _ is, nothing_kept _ _ (search (rules, the_lemmas)) refl refl refl refl)

pub read-returns-in-Some-clause-ok : goal.read-returns-in-Some-clause-ok
read-returns-in-Some-clause-ok t c =
    let text = c.in-Number.text.now in
    let is : c.args.reader.now ≡ Token.number text ∷ c.next.new.self = grind arith in
    let said = number_said (number_of text) (view c.in-Some.kept) c.in-Some.ensures in
    (number said.0, number_read c.args.depth _ _ text is ∙ ap (option_map (λ n. (number n, c.next.new.self))) said.1, said.2)

pub read-returns-in-None-clause-err : goal.read-returns-in-None-clause-err
read-returns-in-None-clause-err t c =
    let text = c.in-Number.text.now in
    let is : c.args.reader.now ≡ Token.number text ∷ c.next.new.self = grind arith in
    number_read c.args.depth _ _ text is ∙ ap (option_map (λ n. (number n, c.next.new.self))) (no_number_said (number_of text) c.in-None.ensures)

pub read-returns-in-EndObject-clause-err : goal.read-returns-in-EndObject-clause-err
read-returns-in-EndObject-clause-err t c =
    let first : c.args.reader.now ≡ token_of c.in_ok-token.token ∷ c.next.new.self = grind arith in
    let none : value c.args.depth c.args.reader.now ≡ None = rw (value_is c.args.depth c.args.reader.now, first) (grind arith) in
    ap (converted of_json) none

pub read-returns-in_ok-read_items-in-BeginArray-clause-ok : goal.read-returns-in_ok-read_items-in-BeginArray-clause-ok
read-returns-in_ok-read_items-in-BeginArray-clause-ok t c =
    let opens : c.args.reader.now ≡ Token.begin_array ∷ c.next.new.self = grind arith in
    let found = c.in_ok-read_items-in-BeginArray in
    let of = found.ensures.ok in
    (array of.0, array_read c.args.depth _ _ (omega arith) opens ∙ ap (parse_map array) of.1, array_keeps _ _ _ (view-Array found.field-0) of.2)

pub read-returns-in_ok-read_members-in-BeginObject-clause-ok : goal.read-returns-in_ok-read_members-in-BeginObject-clause-ok
read-returns-in_ok-read_members-in-BeginObject-clause-ok t c =
    let opens : c.args.reader.now ≡ Token.begin_object ∷ c.next.new.self = grind arith in
    let found = c.in_ok-read_members-in-BeginObject in
    let of = found.ensures.ok in
    (object of.0, object_read c.args.depth _ _ (omega arith) opens ∙ ap (parse_map object) of.1, object_keeps _ _ _ (view-Object found.field-0) of.2)

pub read_items-items-init : goal.read_items-items-init
read_items-items-init t c = (length c.args.reader.now, omega arith, omega arith, rw c.new-found.ensures.items (no_item_found _))

pub read_items-returns-in_err-item-clause-err : goal.read_items-returns-in_err-item-clause-err
read_items-returns-in_err-item-clause-err t c =
    let p = value c.args.depth in
    let l = c.items in
    let n = l.invariant.0 in
    let so_far = l.invariant.3 in
    let going : (after_end_array l.reader ≡ None) × (c.take_end_array.new.self ≡ l.reader) = grind arith in
    let is : c.from_residual.result ≡ Err c.in_err-item.field-0.0 = grind arith in
    rw is (not_read _ _ _ (λ refused. so_far.read ∙ ap (parse_map so_far.front) (item_refused p n l.reader going.0 (rw (← going.1) refused))) c.in_err-item.ensures.err)

pub read_items-items-preserved : goal.read_items-items-preserved
read_items-items-preserved t c =
    let p = value c.args.depth in
    let l = c.items in
    let n = l.invariant.0 in
    let going : (after_end_array l.reader ≡ None) × (c.take_end_array.new.self ≡ l.reader) = grind arith in
    let read = c.in_ok-item.ensures.ok in
    let r = c.read.new.reader in
    let less : length r < length l.reader = rw (← going.1) c.in_ok-item.ensures.shorter in
    let turn = item_read p n l.reader r read.0 (omega (arith, l.invariant.1)) going.0 (rw (← going.1) read.1) in (
      n - 1,
      omega (arith, l.invariant.1),
      omega (arith, l.invariant.2),
      next_item _ _ _ _ _ _ _ (view c.in_ok-item.item) read.0 l.invariant.3 turn read.2.alike c.in_ok-are_digests.ensures,
    )

pub read_items-returns-clause-ok : goal.read_items-returns-clause-ok
read_items-returns-clause-ok t c =
    let p = value c.args.depth in
    let l = c.items in
    let n = l.invariant.0 in
    let r = c.take_end_array.new.self in
    all_found l.found.items l.are_digests _ _ r l.invariant.3 (items_over p n l.reader r l.invariant.1 (grind arith))

pub read_members-members-init : goal.read_members-members-init
read_members-members-init t c =
    (length c.args.reader.now, omega arith, omega arith, no_members, rw c.new-found.ensures.empty (inl tt), refl)

pub read_members-returns-in_err-name-clause-err : goal.read_members-returns-in_err-name-clause-err
read_members-returns-in_err-name-clause-err t c =
    let p = value c.args.depth in
    let l = c.members in
    let is : c.from_residual.result ≡ Err NotJson = grind arith in
    rw is (l.invariant.5 ∙ key_refused p l.invariant.3 l.invariant.0 l.reader c.in_err-name.ensures.value)

pub read_members-returns-in_err-member-clause-err : goal.read_members-returns-in_err-member-clause-err
read_members-returns-in_err-member-clause-err t c =
    let p = value c.args.depth in
    let l = c.members in
    let k = c.in-Some.name.now in
    let s = c.next_key.new.self in
    let named : read_key l.reader ≡ Some (Some k, s) = grind arith in
    let is : c.from_residual-in_err-member.result ≡ Err c.in_err-member.field-0.0 = grind arith in
    rw is (not_read _ _ _ (λ refused. l.invariant.5 ∙ member_refused p l.invariant.3 l.invariant.0 k l.reader s named refused) c.in_err-member.ensures.err)

pub read_members-members-preserved : goal.read_members-members-preserved
read_members-members-preserved t c =
    let p = value c.args.depth in
    let l = c.members in
    let n = l.invariant.0 in
    let old = l.invariant.3 in
    let k = c.in-Some.name.now in
    let s = c.next_key.new.self in
    let named : read_key l.reader ≡ Some (Some k, s) = grind arith in
    let read = c.in_ok-member.ensures.ok in
    let r = c.read.new.reader in
    let less = read_key-shorter l.reader (Some k) s named in
    let lesser = c.in_ok-member.ensures.shorter in (
      n - 1,
      omega (arith, l.invariant.1),
      omega (arith, l.invariant.2),
      put k read.0 old,
      c.in_ok-keep_member.ensures old read.0 l.invariant.4 read.2.alike,
      l.invariant.5 ∙ member_read p old n k l.reader s r read.0 (omega (arith, l.invariant.1)) named read.1,
    )

pub read_members-returns-clause-ok : goal.read_members-returns-clause-ok
read_members-returns-clause-ok t c =
    let p = value c.args.depth in
    let l = c.members in
    (l.invariant.3, l.invariant.5 ∙ members_over p l.invariant.3 l.invariant.0 l.reader c.next_key.new.self l.invariant.1 (grind arith), l.invariant.4)
