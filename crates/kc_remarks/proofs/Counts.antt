-- What is counted of replies, after one more.
use Rattle.std.proofs.Common.{ℕ, suc, ◌≡◌, ◌≤◌, ◌<◌, ◌+◌, Bool, true, false, not, cond, List, [], ◌∷◌, ◌++◌, filter, length, get_or, refl, sym, ap, ◌∙◌, arith, inl, inr}
use Rattle.std.specs.Prelude.{◌==◌, ◌^◌, slice_set}
use Rattle.std.proofs.lemmas.Bool.{cases_eq, eq-eqb, ne_eqb}
use Rattle.std.proofs.lemmas.List.Filters.{length-filter_both}
use Rattle.std.proofs.lemmas.Grind.{get_or-set_at}
use Rattle.std.proofs.lemmas.List.{length-append, get_or-set_other}
use Rattle.std.proofs.lemmas.List.Elements.{filter-append}
use Rattle.kc_types.specs.Refusals.{number_of}
use Rattle.kc_types.specs.declared.refusal.Refusal.{Refusal}
use Rattle.kc_types.specs.declared.refusal.Refusal.TheVariants.{BadVm, BadVcpu, BadFrame, BadGfn, BadRange, SlotUsed, NoVm, WrongPhase, VcpuUsed, NoVcpu, ImagesFull, Overlap, NoImage, ImageFull, ImageShort, NoFault, Mapped, NotMapped, NotHost, Protected, NotPresent, TablesFull, ShareFull, NotShared, Shared, NoFree}
use Rattle.kc_types.specs.declared.reply.Reply.{Reply}
use Rattle.kc_types.specs.declared.reply.Reply.TheVariants as reply
use Rattle.kc_remarks.specs.declared.denials.Denials.{Denials}
use Rattle.kc_remarks.specs.declared.denials.Answered.{Answered}
use Rattle.kc_remarks.specs.Denials.{is_denial, denies_for, is_outside, is_frame, is_no_free, is_to_take, is_to_naming, count_for, outside_in, takes_in, naming_in, AreCounts, Counts}

-- there is a count for each reason
pub number_low : (refusal : Refusal) → number_of refusal < 27
number_low BadVm = omega arith
number_low BadVcpu = omega arith
number_low BadFrame = omega arith
number_low BadGfn = omega arith
number_low BadRange = omega arith
number_low SlotUsed = omega arith
number_low NoVm = omega arith
number_low WrongPhase = omega arith
number_low VcpuUsed = omega arith
number_low NoVcpu = omega arith
number_low ImagesFull = omega arith
number_low Overlap = omega arith
number_low NoImage = omega arith
number_low ImageFull = omega arith
number_low ImageShort = omega arith
number_low NoFault = omega arith
number_low Mapped = omega arith
number_low NotMapped = omega arith
number_low NotHost = omega arith
number_low Protected = omega arith
number_low NotPresent = omega arith
number_low TablesFull = omega arith
number_low ShareFull = omega arith
number_low NotShared = omega arith
number_low Shared = omega arith
number_low NoFree = omega arith

abbrev pub one_if : Bool → ℕ
one_if b = cond b 1 0

-- the first of some elements passes a test, or does not
pub first : {X : Type 0} (p : X → Bool) (x : X) (more : List X) → length (filter p (x ∷ more)) ≡ one_if (p x) + length (filter p more)
first {X} p x more = by_test (p x) (filter p more)
  where
    by_test : (b : Bool) (rest : List X) → length (cond b (x ∷ rest) rest) ≡ one_if b + length rest
    by_test true rest = let e : suc (length rest) ≡ 1 + length rest = omega arith in e
    by_test false rest = let e : length rest ≡ 0 + length rest = omega arith in e

-- the last of some does
pub last : {X : Type 0} (p : X → Bool) (xs : List X) (x : X) → length (filter p (xs ++ x ∷ [])) ≡ length (filter p xs) + one_if (p x)
last p xs x =
    let split = ap length (filter-append p xs (x ∷ [])) ∙ length-append (filter p xs) (filter p (x ∷ [])) in
    let end = first p x [] in
    let none : length (filter p []) ≡ 0 = refl in
    omega (arith, split, end, none)

one_at_most : (b : Bool) → one_if b ≤ 1
one_at_most true = omega arith
one_at_most false = omega arith

is_among : (reason : ℕ) (answer : Reply) → one_if (denies_for reason answer) ≤ one_if (is_denial answer)
is_among reason (reply.Refused refusal) = one_at_most (number_of refusal == reason)
is_among reason (reply.Rejected image) = one_at_most (0 == reason)
is_among reason _ = omega arith

-- those that are denied for one reason are among all that are denied
are_among : (reason : ℕ) (replies : List Reply) → length (filter (denies_for reason) replies) ≤ length (filter is_denial replies)
are_among reason [] = omega arith
are_among reason (answer ∷ more) =
    let rest = are_among reason more in
    let here = first (denies_for reason) answer more in
    let all = first is_denial answer more in
    let one = is_among reason answer in
    omega (arith, rest, here, all, one)

few : {X : Type 0} (p : X → Bool) (xs : List X) → length (filter p xs) ≤ length xs
few p xs = let all = length-filter_both p (λ x. not (p x)) (λ x. refl) xs in omega (arith, all)

-- after a reply that denies no call and gives no frame
pub after_other : (replies : List Reply) (answer : Reply) (denials : Denials) → is_denial answer ≡ false → is_frame answer ≡ false → Counts replies denials → Counts (replies ++ answer ∷ []) denials
after_other replies answer denials other none counts room =
    let long = length-append replies (answer ∷ []) in
    let h = counts (omega (arith, room, long)) in
    let no : one_if (is_denial answer) ≡ 0 = ap one_if other in
    let neither : one_if (is_frame answer) ≡ 0 = ap one_if none in
    record {
      total = let all = last is_denial replies answer in omega (arith, no, all, h.total);
      each = λ reason. let all = last (denies_for reason) replies answer in let one = is_among reason answer in let before = h.each reason in omega (arith, no, all, one, before);
      frames = let all = last is_frame replies answer in omega (arith, neither, all, h.frames);
    }

-- after one that gives a frame
pub after_frame : (replies : List Reply) (f : ℕ) (old new : Denials) → new.total ≡ old.total → new.reasons ≡ old.reasons → (old.frames + 1 < 2 ^ 32 → new.frames ≡ old.frames + 1) → Counts replies old → Counts (replies ++ reply.Frame f ∷ []) new
after_frame replies f old new same alike counted counts room =
    let answer = reply.Frame f in
    let long = length-append replies (answer ∷ []) in
    let h = counts (omega (arith, room, long)) in
    let some = few is_frame replies in
    let is = counted (omega (arith, room, long, some, h.frames)) in
    record {
      total = let all = last is_denial replies answer in omega (arith, all, h.total, same);
      each = λ reason.
          let all = last (denies_for reason) replies answer in
          let before = h.each reason in
          let read : count_for reason new ≡ count_for reason old = ap (λ (xs : List ℕ). get_or xs reason 0) alike in
          omega (arith, all, before, read);
      frames = let all = last is_frame replies answer in omega (arith, all, h.frames, is);
    }

count_after : (replies : List Reply) (answer : Reply) (reason k : ℕ) (old new : Denials) → ((i : ℕ) → denies_for i answer ≡ (reason == i)) → reason < length old.reasons → new.reasons ≡ slice_set old.reasons reason (count_for reason old + 1) → AreCounts replies old
    → count_for k new ≡ length (filter (denies_for k) (replies ++ answer ∷ []))
count_after replies answer reason k old new denies inside is h =
    let grown = last (denies_for k) replies answer in
    let read : count_for k new ≡ get_or (slice_set old.reasons reason (count_for reason old + 1)) k 0 = ap (λ (xs : List ℕ). get_or xs k 0) is in
    let before = h.each k in
    elim (cases_eq k reason) [
      | inl same ↦
          let wrote = get_or-set_at old.reasons reason k (count_for reason old + 1) 0 same inside in
          let hit : one_if (denies_for k answer) ≡ 1 = ap one_if (denies k ∙ eq-eqb reason k (sym same)) in
          let here : count_for k old ≡ count_for reason old = ap (λ i. count_for i old) same in
          omega (arith, grown, read, wrote, hit, before, here)
      | inr other ↦
          let wrote = get_or-set_other old.reasons reason k (count_for reason old + 1) 0 other in
          let miss : one_if (denies_for k answer) ≡ 0 = ap one_if (denies k ∙ ne_eqb reason k (λ e. other (sym e))) in
          omega (arith, grown, read, wrote, miss, before)
    ]

-- after one that denies a call for this reason
pub after_denial : (replies : List Reply) (answer : Reply) (reason : ℕ) (old new : Denials) → ((i : ℕ) → denies_for i answer ≡ (reason == i)) → is_denial answer ≡ true → is_frame answer ≡ false → reason < length old.reasons
    → (old.total + 1 < 2 ^ 32 → new.total ≡ old.total + 1) → (count_for reason old + 1 < 2 ^ 32 → new.reasons ≡ slice_set old.reasons reason (count_for reason old + 1)) → new.frames ≡ old.frames → Counts replies old → Counts (replies ++ answer ∷ []) new
after_denial replies answer reason old new denies one none inside added counted same counts room =
    let long = length-append replies (answer ∷ []) in
    let h = counts (omega (arith, room, long)) in
    let here = h.each reason in
    let among = are_among reason replies in
    let some = few is_denial replies in
    let more = added (omega (arith, room, long, some, h.total)) in
    let is = counted (omega (arith, here, among, some, room, long)) in
    let yes : one_if (is_denial answer) ≡ 1 = ap one_if one in
    let neither : one_if (is_frame answer) ≡ 0 = ap one_if none in
    record {
      total = let all = last is_denial replies answer in omega (arith, yes, all, h.total, more);
      each = λ k. count_after replies answer reason k old new denies inside is h;
      frames = let all = last is_frame replies answer in omega (arith, neither, all, h.frames, same);
    }

of_refusal : (refusal : Refusal) → one_if (number_of refusal == number_of BadFrame) + one_if (number_of refusal == number_of BadVm) ≡ one_if (is_outside (reply.Refused refusal))
of_refusal BadVm = refl
of_refusal BadFrame = refl
of_refusal _ = refl

of_reply : (answer : Reply) → one_if (denies_for (number_of BadFrame) answer) + one_if (denies_for (number_of BadVm) answer) ≡ one_if (is_outside answer)
of_reply (reply.Refused refusal) = of_refusal refusal
of_reply (reply.Rejected image) = refl
of_reply _ = refl

of_replies : (replies : List Reply) → length (filter (denies_for (number_of BadFrame)) replies) + length (filter (denies_for (number_of BadVm)) replies) ≡ length (filter is_outside replies)
of_replies [] = refl
of_replies (answer ∷ more) =
    let rest = of_replies more in
    let frames = first (denies_for (number_of BadFrame)) answer more in
    let slots = first (denies_for (number_of BadVm)) answer more in
    let outside = first is_outside answer more in
    let one = of_reply answer in
    omega (arith, rest, frames, slots, outside, one)

-- the replies that refuse a call for what the machine does not have
pub outside_is : (replies : List Reply) (denials : Denials) → AreCounts replies denials → outside_in denials ≡ length (filter is_outside replies)
outside_is replies denials h =
    let frames = h.each (number_of BadFrame) in
    let slots = h.each (number_of BadVm) in
    let all = of_replies replies in
    omega (arith, frames, slots, all)

-- ---- calls that name nothing

for_none : (refusal : Refusal) → one_if (number_of refusal == number_of NoFree) ≡ one_if (is_no_free refusal)
for_none NoFree = refl
for_none _ = refl

take_reply : (answer : Reply) → one_if (is_frame answer) + one_if (denies_for (number_of NoFree) answer) ≡ one_if (is_to_take answer)
take_reply (reply.Refused refusal) =
    let one = for_none refusal in
    let none : one_if (is_frame (reply.Refused refusal)) ≡ 0 = refl in
    let here : one_if (denies_for (number_of NoFree) (reply.Refused refusal)) ≡ one_if (is_to_take (reply.Refused refusal)) = one in
    omega (arith, none, here)
take_reply (reply.Frame f) = refl
take_reply (reply.Rejected image) = refl
take_reply _ = refl

take_replies : (replies : List Reply) → length (filter is_frame replies) + length (filter (denies_for (number_of NoFree)) replies) ≡ length (filter is_to_take replies)
take_replies [] = refl
take_replies (answer ∷ more) =
    let rest = take_replies more in
    let frames = first is_frame answer more in
    let none = first (denies_for (number_of NoFree)) answer more in
    let all = first is_to_take answer more in
    let one = take_reply answer in
    omega (arith, rest, frames, none, all, one)

-- the replies to `take`
pub takes_are : (replies : List Reply) (denials : Denials) → AreCounts replies denials → takes_in denials ≡ length (filter is_to_take replies)
takes_are replies denials h =
    let frames = h.frames in
    let none = h.each (number_of NoFree) in
    let all = take_replies replies in
    omega (arith, frames, none, all)

-- the replies to calls that name a frame or a slot
pub naming_is : (replies : List Reply) (answered : Answered) → answered.calls ≡ length replies → AreCounts replies answered.denials → naming_in answered ≡ length (filter is_to_naming replies)
naming_is replies answered count h =
    let takes = takes_are replies answered.denials h in
    let all = length-filter_both is_to_take is_to_naming (λ x. refl) replies in
    omega (arith, count, takes, all)
