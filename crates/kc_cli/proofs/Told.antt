-- What is reported of calls that come after others, and what the sink takes of it.
use Rattle.std.proofs.Common.{ℕ, ◌≡◌, ◌<◌, ◌+◌, ◌++◌, ◌≤◌, ◌^◌, List, [], Bor, get_or, drop, length, length-append, filter, take, refl, ap, sym, ◌∙◌, Option, Some, None, Result, Ok, Err, Bool, true, false, subst, arith, inl, inr, append_assoc}
use Rattle.std.proofs.lemmas.Bool.{cases_lt}
use Rattle.std.proofs.lemmas.Grind.{flat_map-append}
use Rattle.std.proofs.lemmas.List.{take_all, append-nil, take-append-drop, drop_more}
use Rattle.std.proofs.Math.Seq.{take-append-add, take-append-le}
use Rattle.std.proofs.KnownBytes.{Appends-trans}
use Rattle.std.specs.Prelude.{OnOk, OnErr, is_err}
use Rattle.std.specs.List.{flat_map}
use Rattle.std.specs.Io.KnownBytes.{Appends}
use Rattle.kc_types.specs.declared.call.Call.{Call}
use Rattle.kc_types.specs.declared.reply.Reply.{Reply}
use Rattle.kc_remarks.specs.declared.remark.Note.{Note}
use Rattle.kc_remarks.specs.Remarks.{notes, notes_from}
use Rattle.kc_remarks.specs.declared.denials.Denials.{Denials}
use Rattle.kc_remarks.specs.Denials.{is_denied, Counts}
use Rattle.kc_remarks.proofs.Counted.{denied, both}
use Rattle.kc_remarks.proofs.Runs.{notes-append}
use Rattle.kc_remarks.proofs.Unread.{unread, notes_redacted}
use Rattle.kc_remarks.proofs.Events.{events-of-notes, changes-of-notes}
use Rattle.kc_model.specs.State.{State}
use Rattle.kc_model.specs.Lawful.{IsLawful}
use Rattle.kc_model.specs.Next.{replies_from, state_after}
use Rattle.kc_model.specs.Custody.{first_line}
use Rattle.kc_model.proofs.Promises.{promises_kept}
use Rattle.kc_model.proofs.Blind.Told.{custody_is_blind}
use Rattle.kc_model.proofs.Redaction.Lacking.{accesses_change_nothing}
use Rattle.kc_model.proofs.Custody.Bars.{bars_are}
use Rattle.kc_model.proofs.Custody.Laws.{custody_is}
use Rattle.kc_model.proofs.Summaries.Summed.{summaries_are}
use Rattle.kc_model.proofs.States.Runs.{state_after-append, replies_from-append}
use Rattle.kc_model.proofs.States.Sizes.{config-after}
use Rattle.kc_model.specs.Before.{events_before}
use Rattle.kc_types.specs.declared.custody.Event.{Event}
use Rattle.kc_custody.specs.Growing.{HasRoom}
use Rattle.kc_custody.proofs.Few.{few-of-trace}
use Rattle.kc_remarks.proofs.Lived.{attempts_counted}
use Rattle.kc_custody.proofs.Own.{names_only}
use Rattle.kc_texts.specs.declared.order.CustodyForm.{CustodyForm}
use Rattle.kc_cli.specs.declared.telling.Kept.{Kept}
use Rattle.kc_cli.specs.Custody.{IsCustodyTold, IsCustodyOfAll}
use Rattle.kc_texts.specs.declared.source.Failed.{Failed}
use Rattle.kc_faults.specs.Outcomes.{TellsSink}
use Rattle.kc_cli.specs.Ledgers.{CanCount, Keeps, HasKept, written}

-- the notes on calls after those so far
pub told_more : (m old : State) (xs ys : List Call) (line : ℕ) → old ≡ state_after m xs → line ≡ first_line + length xs → notes m xs ++ notes_from line old ys ≡ notes m (xs ++ ys)
told_more m old xs ys line from at =
    ap (λ k. notes m xs ++ notes_from k old ys) at
    ∙ ap (λ (s : State). notes m xs ++ notes_from (first_line + length xs) s ys) from
    ∙ sym (notes-append first_line m xs ys)

pub left_more : (m old new : State) (xs ys : List Call) → old ≡ state_after m xs → new ≡ state_after old ys → new ≡ state_after m (xs ++ ys)
left_more m old new xs ys from to = to ∙ ap (λ (s : State). state_after s ys) from ∙ sym (state_after-append m xs ys)

-- how many calls are denied, after those so far
pub denied_more : (m old : State) (xs ys : List Call) (line counted now : ℕ) → old ≡ state_after m xs → line ≡ first_line + length xs → counted ≡ length (filter is_denied (notes m xs)) → now ≡ counted + length (filter is_denied (notes_from line old ys)) → now ≡ length (filter is_denied (notes m (xs ++ ys)))
denied_more m old xs ys line counted now from at so_far added =
    let split = both (notes m xs) (notes_from line old ys) in
    let whole = ap (λ (told : List Note). length (filter is_denied told)) (told_more m old xs ys line from at) in
    omega (arith, split, whole, so_far, added)

-- and for what, by the replies
pub counted_more : (m old : State) (xs ys : List Call) (counted now : Denials) → old ≡ state_after m xs → Counts (replies_from m xs) counted → ((replies : List Reply) → Counts replies counted → Counts (replies ++ replies_from old ys) now) → Counts (replies_from m (xs ++ ys)) now
counted_more m old xs ys counted now from so_far added =
    subst (λ (replies : List Reply). Counts replies now) (ap (λ (s : State). replies_from m xs ++ replies_from s ys) from ∙ sym (replies_from-append m xs ys)) (added (replies_from m xs) so_far)

-- what happened beside the calls changes nothing of what is reported
is_of_all : (m : State) (calls : List Call) → IsLawful m → IsCustodyOfAll m calls
is_of_all m calls is = (
  (accesses_change_nothing m calls is).0,
  λ kept n marks happened other_is differ may keeps same lines long. rw same at (((accesses_change_nothing n happened other_is).1 kept m marks is differ may keeps).custody lines long),
)

pub is_told : (m : State) (calls : List Call) (count refused : ℕ) → IsLawful m → count ≡ length calls → refused ≡ length (filter is_denied (notes m calls)) → IsCustodyTold m calls count refused (notes m calls)
is_told m calls count refused is counted denied_so = record {
  counted = counted;
  exact = refl;
  refused_is = denied_so ∙ denied first_line m calls;
  events = events-of-notes m calls;
  changes = changes-of-notes m calls;
  promises = promises_kept m calls is;
  laws = custody_is m calls is;
  blind = custody_is_blind m calls is;
  unread = unread m calls is;
  redacted = notes_redacted m calls is;
  all = is_of_all m calls is;
  summaries = summaries_are m calls is;
  attempts = attempts_counted m calls is;
  bars = bars_are m calls is;
  own = names_only m calls is;
}

-- the events of a trace can be counted
can_count : (m : State) (calls : List Call) → IsLawful m → length calls < 2 ^ 32 → CanCount m (notes m calls)
can_count m calls is short = subst (λ (told : List Event). HasRoom (events_before m ++ told)) (sym (events-of-notes m calls)) (few-of-trace first_line m calls is short)

-- what is kept of calls after those so far
kept_more : (form : CustodyForm) (m : State) (xs ys : List Call) (old new : State) (before after : Kept) → IsLawful m → HasKept form m xs old before
    → ((told : List Note) → old.config ≡ m.config → CanCount m (told ++ notes_from before.line old ys) → Keeps form m told before.ledger → Keeps form m (told ++ notes_from before.line old ys) after.ledger) → new ≡ state_after old ys
    → after.denials.total ≡ before.denials.total + length (filter is_denied (notes_from before.line old ys)) → after.denials.total ≤ before.denials.total + length ys
    → ((replies : List Reply) → Counts replies before.denials → Counts (replies ++ replies_from old ys) after.denials) → after.line ≡ before.line + length ys → after.line < 2 ^ 32 → HasKept form m (xs ++ ys) new after
kept_more form m xs ys old new before after is h grown to added few counted at short =
    let long = length-append xs ys in
    let so_far = h.line in
    let few_before = h.few in
    let all = told_more m old xs ys before.line h.left h.line in
    let room = subst (CanCount m) (sym all) (can_count m (xs ++ ys) is (omega (arith, long, so_far, at, short))) in
    record {
      ledger = subst (λ (told : List Note). Keeps form m told after.ledger) all (grown (notes m xs) (ap (λ (s : State). s.config) h.left ∙ config-after m xs) room h.ledger);
      line = omega (arith, long, so_far, at);
      short = short;
      left = left_more m old new xs ys h.left to;
      denied = denied_more m old xs ys before.line before.denials.total after.denials.total h.left h.line h.denied added;
      few = omega (arith, long, few_before, few);
      counted = counted_more m old xs ys before.denials after.denials h.left h.counted counted;
    }

-- the same after others
pub kept_after : (form : CustodyForm) (m : State) (first xs ys : List Call) (old new : State) (before after : Kept) → IsLawful m → HasKept form m (first ++ xs) old before
    → ((told : List Note) → old.config ≡ m.config → CanCount m (told ++ notes_from before.line old ys) → Keeps form m told before.ledger → Keeps form m (told ++ notes_from before.line old ys) after.ledger) → new ≡ state_after old ys
    → after.denials.total ≡ before.denials.total + length (filter is_denied (notes_from before.line old ys)) → after.denials.total ≤ before.denials.total + length ys
    → ((replies : List Reply) → Counts replies before.denials → Counts (replies ++ replies_from old ys) after.denials) → after.line ≡ before.line + length ys → after.line < 2 ^ 32 → HasKept form m (first ++ (xs ++ ys)) new after
kept_after form m first xs ys old new before after is h grown to added few counted at short =
    subst (λ (all : List Call). HasKept form m all new after) (append_assoc first xs ys) (kept_more form m (first ++ xs) ys old new before after is h grown to added few counted at short)

cut_first : (xs ys : List ℕ) (n : ℕ) → (m : ℕ) × (take n xs ≡ take m (xs ++ ys))
cut_first xs ys n =
    elim (cases_lt (length xs) n) [
      | inl past ↦ (length xs, rw (take_all n xs (omega (arith, past)), take-append-le (length xs) xs ys (omega arith), take_all (length xs) xs (omega arith)) refl)
      | inr le ↦ (n, rw (take-append-le n xs ys le) refl)
    ]

-- a text is given, and then another
pub both_given : (old mid new : Option (List ℕ)) (front lines rest : List ℕ) → Appends old mid (front ++ lines) → Appends mid new rest → Appends old new (front ++ (lines ++ rest))
both_given old mid new front lines rest one more = rw (append_assoc front lines rest) at (Appends-trans old mid new (front ++ lines) rest one more)

-- the first is cut short, or the second
pub first_cut : (old new : Option (List ℕ)) (front lines rest : List ℕ) → ((n : ℕ) × Appends old new (take n (front ++ lines))) → (m : ℕ) × Appends old new (take m (front ++ (lines ++ rest)))
first_cut old new front lines rest cut =
    let begins = cut_first (front ++ lines) rest cut.0 in
    (begins.0, rw (begins.1, append_assoc front lines rest) at cut.1)

pub second_cut : (old mid new : Option (List ℕ)) (front lines rest : List ℕ) → Appends old mid (front ++ lines) → ((n : ℕ) × Appends mid new (take n rest)) → (m : ℕ) × Appends old new (take m (front ++ (lines ++ rest)))
second_cut old mid new front lines rest one cut =
    (length (front ++ lines) + cut.0, rw (sym (take-append-add (front ++ lines) rest cut.0), append_assoc front lines rest) at (Appends-trans old mid new (front ++ lines) (take cut.0 rest) one cut.1))

-- some texts are given, and the next is cut short
pub part_cut : (old mid new : Option (List ℕ)) (parts : List (Bor (List ℕ))) (i : ℕ) (d : Bor (List ℕ)) → i < length parts → Appends old mid (flat_map (λ part. part.now) (take i parts)) → ((n : ℕ) × Appends mid new (take n (get_or parts i d).now)) → (m : ℕ) × Appends old new (take m (flat_map (λ part. part.now) parts))
part_cut old mid new parts i d lt one cut =
    let text = λ (some : List (Bor (List ℕ))). flat_map (λ part. part.now) some in
    let split : text parts ≡ text (take i parts) ++ ((get_or parts i d).now ++ text (drop (i + 1) parts)) =
    ap text (sym (take-append-drop i parts)) ∙ flat_map-append (λ part. part.now) (take i parts) (drop i parts) ∙ ap (λ some. text (take i parts) ++ text some) (drop_more parts i d lt) in
    rw split (first_cut old new (text (take i parts)) (get_or parts i d).now (text (drop (i + 1) parts)) (second_cut old mid new [] (text (take i parts)) (get_or parts i d).now one cut))

pub nothing_given : (old : Option (List ℕ)) → Appends old old []
nothing_given None = tt
nothing_given (Some xs) = sym (append-nil xs)

-- one piece more was given of what is to come
pub piece_given : (old mid new : Option (List ℕ)) (bytes piece come left whole : List ℕ) → Appends old mid bytes → Appends mid new piece → piece ++ left ≡ come → bytes ++ come ≡ whole → Appends old new (bytes ++ piece) × ((bytes ++ piece) ++ left ≡ whole)
piece_given old mid new bytes piece come left whole one more next all =
    (Appends-trans old mid new bytes piece one more, append_assoc bytes piece left ∙ ap (λ (l : List ℕ). bytes ++ l) next ∙ all)

-- the piece was cut short
pub piece_cut : (old mid new : Option (List ℕ)) (bytes piece come left whole : List ℕ) → Appends old mid bytes → ((n : ℕ) × Appends mid new (take n piece)) → piece ++ left ≡ come → bytes ++ come ≡ whole → (m : ℕ) × Appends old new (take m whole)
piece_cut old mid new bytes piece come left whole one cut next all =
    let begins = cut_first piece left cut.0 in
    let same : bytes ++ take cut.0 piece ≡ take (length bytes + begins.0) whole =
    ap (λ (l : List ℕ). bytes ++ l) (begins.1 ∙ ap (take begins.0) next) ∙ sym (take-append-add bytes come begins.0) ∙ ap (take (length bytes + begins.0)) all in
    (length bytes + begins.0, rw same at (Appends-trans old mid new bytes (take cut.0 piece) one cut.1))

-- nothing was left
pub all_given : (old new : Option (List ℕ)) (bytes come whole : List ℕ) → Appends old new bytes → come ≡ [] → bytes ++ come ≡ whole → Appends old new whole
all_given old new bytes come whole one none all = rw (sym (append-nil bytes) ∙ ap (λ (l : List ℕ). bytes ++ l) (sym none) ∙ all) at one

-- what was given to a sink, by the outcome
pub gives : (given : Result (Unit {0}) Failed) (P Q : Type 0) → (P → Q) → OnOk given P → OnOk (written given) Q
gives (Ok done) P Q step h = step h
gives (Err failed) P Q step h = tt

pub gives_to : (given : Result (Unit {0}) Failed) (failed : Bool) (begun more untouched : Type 0) → (begun → more) → OnErr given begun → failed ≡ is_err given → TellsSink failed more untouched (written given)
gives_to (Ok done) failed begun more untouched step h mark = record { write = λ e. absurd cc; failed_is = λ bad. absurd (let never : false ≡ true = sym mark ∙ bad in cc); kept = tt }
gives_to (Err error) failed begun more untouched step h mark = record { write = λ e. (mark, step h); failed_is = λ e. refl; kept = inr refl }
