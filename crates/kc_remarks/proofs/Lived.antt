-- The attempts of a life, call by call: those between the call that registers its VM and the one that clears it.
use Rattle.std.proofs.Common.{ℕ, zero, suc, ◌≡◌, ◌≢◌, ◌<◌, ◌≤◌, ◌+◌, ◌-◌, Bool, true, false, cond, ◌&&◌, List, [], ◌∷◌, ◌++◌, drop, filter, length, length-append, get_or, All, inl, inr, Option, Some, None, refl, sym, ap, ap₂, subst, ◌∙◌, arith, rules}
use Rattle.std.specs.Prelude.{nat_lt, ◌==◌}
use Rattle.std.specs.Option.{option_map, option_to_list}
use Rattle.std.proofs.Math.Seq.{drop-length}
use Rattle.std.proofs.lemmas.Bool.{cases_lt}
use Rattle.std.proofs.lemmas.List.{drop_more}
use Rattle.std.proofs.lemmas.List.Elements.{filter-append, All-append, All-weaker}
use Rattle.kc_types.specs.Refusals.{number_of}
use Rattle.kc_types.specs.Slots.{vm_of}
use Rattle.kc_types.specs.declared.call.Call.{Call}
use Rattle.kc_types.specs.declared.call.Call.TheVariants.{Take, Clear}
use Rattle.kc_types.specs.declared.custody.Life.{Life}
use Rattle.kc_types.specs.declared.owner.Owner.{Owner}
use Rattle.kc_types.specs.declared.owner.Owner.TheVariants.{Vm}
use Rattle.kc_types.specs.declared.refusal.Refusal.{Refusal}
use Rattle.kc_types.specs.declared.reply.Reply.{Reply}
use Rattle.kc_types.specs.declared.reply.Reply.TheVariants as reply
use Rattle.kc_types.specs.declared.slot.Phase.TheVariants.{Empty}
use Rattle.kc_model.specs.State.{State, slot_at}
use Rattle.kc_model.specs.Lawful.{IsLawful}
use Rattle.kc_model.specs.Next.{next}
use Rattle.kc_model.specs.Custody.{first_line}
use Rattle.kc_model.specs.Footprints.{state_at, call_at, reply_at}
use Rattle.kc_model.specs.Lives.{is_owned_by, lives}
use Rattle.kc_model.specs.Events.{events}
use Rattle.kc_model.specs.Before.{lives_from}
use Rattle.kc_model.specs.Safety.{Clears}
use Rattle.kc_model.specs.Summaries.{calls_that, phase_at, place_after, last_place, IsFirstIn, IsLived, IsSummary, IsUnderWay}
use Rattle.kc_model.proofs.States.Counts.{one_if}
use Rattle.kc_model.proofs.Lawful.LawfulTraces.{lawful-at}
use Rattle.kc_model.proofs.Summaries.Counts.{count, count-append, sum-none, sum-more}
use Rattle.kc_model.proofs.Summaries.Turns.{Turns, turns, stays, registers, activates, rejects, clears}
use Rattle.kc_model.proofs.Summaries.Summed.{summaries_are}
use Rattle.kc_remarks.specs.declared.attempt.Attempt.{Attempt}
use Rattle.kc_remarks.specs.declared.remark.NamedFrame.{NamedFrame}
use Rattle.kc_remarks.specs.Remarks.{named_by, notes_by, notes_from, notes}
use Rattle.kc_remarks.specs.Attempts.{attempt_at, attempt_on, attempt_told, attempts_in, is_before, is_in_life, attempts_in_life, is_for, count_attempts, is_owner_of, is_refused_at, AttemptsAreCounted, AllAttemptsAreCounted}
use Rattle.kc_remarks.proofs.Attempts.{of-call, both}

none : (a : Bool) → one_if (a && false) ≡ 0
none true = refl
none false = refl

none-of-both : (a b : Bool) → one_if (a && (b && false)) ≡ 0
none-of-both true true = refl
none-of-both true false = refl
none-of-both false b = refl

-- the four tests of an attempt, in another order
reordered : (a b c d : Bool) → (((a && b) && c) && d) ≡ ((b && c) && (d && a))
reordered true true true true = refl
reordered true true true false = refl
reordered true true false d = refl
reordered true false c d = refl
reordered false true true true = refl
reordered false true true false = refl
reordered false true false d = refl
reordered false false c d = refl

-- a call that clears a slot is not refused
not-refused : (v : ℕ) (reason : Refusal) (m : State) (call : Call) (answer : Reply) → Clears v call answer → is_refused_at v reason m call answer ≡ false
not-refused v reason m (Clear w) reply.Done h = refl
not-refused v reason m (Clear w) _ h = absurd h
not-refused v reason m _ _ h = absurd h

and-none : (a : Bool) → (a && false) ≡ false
and-none true = refl
and-none false = refl

after : (registered line : ℕ) → registered < line → nat_lt registered line ≡ true
after registered line lt = search rules

too-late : (later : Bool) (line end : ℕ) → end ≤ line → (later && nat_lt line end) ≡ false
too-late true line end le = search rules
too-late false line end le = refl

too-early : (registered line : ℕ) (rest : Bool) → line ≤ registered → (nat_lt registered line && rest) ≡ false
too-early registered line rest le = search rules

module _ (m : State) (calls : List Call) (life : Life) (reason : Refusal) where
  -- whether a call on this line is of the life
  abbrev inside : ℕ → Bool
  inside line = nat_lt life.registered line && is_before line life.cleared

  abbrev refuses : State → Call → Reply → Bool
  refuses s call answer = is_refused_at life.vm reason s call answer

  abbrev counted : List Attempt → ℕ
  counted attempts = count_attempts (attempts_in_life life attempts) reason

  -- ---- one call

  of-one : (a : Attempt) → counted (a ∷ []) ≡ one_if (is_in_life life a && is_for reason a)
  of-one a = by_life (is_in_life life a)
    where
      by_reason : (b : Bool) → length (cond b (a ∷ []) []) ≡ one_if b
      by_reason true = refl
      by_reason false = refl

      by_life : (b : Bool) → count_attempts (cond b (a ∷ []) []) reason ≡ one_if (b && is_for reason a)
      by_life true = by_reason (is_for reason a)
      by_life false = refl

  of-owner : (line : ℕ) (refusal : Refusal) (owner : Owner)
      → counted (option_to_list (option_map (attempt_at line refusal) (vm_of owner))) ≡ one_if (inside line && ((number_of refusal == number_of reason) && is_owned_by life.vm owner))
  of-owner line refusal (Vm w) =
      of-one (attempt_at line refusal w) ∙ ap one_if (reordered (w == life.vm) (nat_lt life.registered line) (is_before line life.cleared) (number_of refusal == number_of reason))
  of-owner line refusal _ = sym (none-of-both (inside line) (number_of refusal == number_of reason))

  of-named : (line : ℕ) (refusal : Refusal) (named : Option NamedFrame)
      → counted (option_to_list (attempt_on line named refusal)) ≡ one_if (inside line && ((number_of refusal == number_of reason) && is_owner_of life.vm named))
  of-named line refusal None = sym (none-of-both (inside line) (number_of refusal == number_of reason))
  of-named line refusal (Some named) = of-owner line refusal named.owner

  of-answer : (line : ℕ) (s : State) (call : Call) (answer : Reply) → counted (option_to_list (attempt_told line (named_by s call) answer)) ≡ one_if (inside line && refuses s call answer)
  of-answer line s call (reply.Refused refusal) = of-named line refusal (named_by s call)
  of-answer line s call _ = sym (none (inside line))

  counted-append : (xs ys : List Attempt) → counted (xs ++ ys) ≡ counted xs + counted ys
  counted-append xs ys = ap (λ attempts. count_attempts attempts reason) (filter-append (is_in_life life) xs ys) ∙ count-append (is_for reason) (attempts_in_life life xs) (attempts_in_life life ys)

  -- ---- the calls from a place on

  abbrev left : ℕ → ℕ
  left i = counted (attempts_in (notes_from (first_line + i) (state_at m calls i) (drop i calls)))

  abbrev does : ℕ → Bool
  does k = refuses (state_at m calls k) (call_at calls k) (reply_at m calls k)

  left-more : (i : ℕ) → i < length calls → left i ≡ one_if (inside (first_line + i) && does i) + left (suc i)
  left-more i lt =
      let line = first_line + i in
      let s = state_at m calls i in
      let call = call_at calls i in
      let there : line + 1 ≡ first_line + suc i = omega arith in
      let next_one : i + 1 ≡ suc i = omega arith in
      ap (λ (rest : List Call). counted (attempts_in (notes_from line s rest))) (drop_more calls i Take lt)
      ∙ ap counted (both (notes_by line s call) (notes_from (line + 1) (next s call).1 (drop (i + 1) calls)))
      ∙ counted-append (attempts_in (notes_by line s call)) (attempts_in (notes_from (line + 1) (next s call).1 (drop (i + 1) calls)))
      ∙ ap₂ ◌+◌ (ap counted (of-call line s call) ∙ of-answer line s call (next s call).0) (ap₂ (λ n k. counted (attempts_in (notes_from n (next s call).1 (drop k calls)))) there next_one)

  left-none : (i : ℕ) → i ≡ length calls → left i ≡ 0
  left-none i whole = ap (λ (rest : List Call). counted (attempts_in (notes_from (first_line + i) (state_at m calls i) rest))) (ap (λ k. drop k calls) whole ∙ drop-length calls)

  -- the life has the calls from place `a` up to but not including place `b`; of these, one on a line outside is not refused
  record HasCalls (a b : ℕ) : Type 0 where
    order : a ≤ b
    ends : b ≤ length calls
    early : (k : ℕ) → k < a → inside (first_line + k) ≡ false
    within : (k : ℕ) → a ≤ k → k < b → (inside (first_line + k) && does k) ≡ does k
    late : (k : ℕ) → b ≤ k → k < length calls → inside (first_line + k) ≡ false

  after-life : (a b : ℕ) → HasCalls a b → (d i : ℕ) → i + d ≡ length calls → b ≤ i → left i ≡ 0
  after-life a b h zero i whole past = left-none i (omega (arith, whole))
  after-life a b h (suc d) i whole past =
      let here = left-more i (omega (arith, whole)) ∙ ap (λ t. one_if (t && does i) + left (suc i)) (h.late i past (omega (arith, whole))) in
      let rest = after-life a b h d (suc i) (omega (arith, whole)) (omega (arith, past)) in
      omega (arith, here, rest)

  in-life : (a b : ℕ) → HasCalls a b → (d i : ℕ) → i + d ≡ b → a ≤ i → left i ≡ calls_that refuses m calls i b
  in-life a b h zero i whole from =
      let ends = h.ends in
      let last : i ≡ b = omega (arith, whole) in
      after-life a b h (length calls - i) i (omega (arith, ends, last)) (omega (arith, last))
      ∙ sym (subst (λ j. calls_that refuses m calls i j ≡ 0) last (sum-none (λ k. one_if (does k)) i))
  in-life a b h (suc d) i whole from =
      let ends = h.ends in
      let below : suc i ≤ b = omega (arith, whole) in
      left-more i (omega (arith, ends, below))
      ∙ ap₂ (λ t n. one_if t + n) (h.within i from (omega (arith, below))) (in-life a b h d (suc i) (omega (arith, whole)) (omega (arith, from)))
      ∙ sym (sum-more (λ k. one_if (does k)) i b below)

  before-life : (a b : ℕ) → HasCalls a b → (d i : ℕ) → i + d ≡ a → left i ≡ calls_that refuses m calls a b
  before-life a b h zero i whole =
      let order = h.order in
      let first : i ≡ a = omega (arith, whole) in
      subst (λ k. left k ≡ calls_that refuses m calls a b) (sym first) (in-life a b h (b - a) a (omega (arith, order)) (omega arith))
  before-life a b h (suc d) i whole =
      let order = h.order in
      let ends = h.ends in
      let here = left-more i (omega (arith, whole, order, ends)) ∙ ap (λ t. one_if (t && does i) + left (suc i)) (h.early i (omega (arith, whole))) in
      let rest = before-life a b h d (suc i) (omega (arith, whole)) in
      omega (arith, here, rest)

  -- ---- a life

  -- a call that empties the slot is not refused
  not-refused-at : IsLawful m → (k : ℕ) → k < length calls → phase_at m calls life.vm (suc k) ≡ Empty → phase_at m calls life.vm k ≢ Empty → does k ≡ false
  not-refused-at is k lt empty some = by_turn (turns life.vm (state_at m calls k) (call_at calls k) (lawful-at m calls is k (omega (arith, lt))))
    where
      by_turn : Turns life.vm (state_at m calls k) (call_at calls k) (reply_at m calls k) (state_at m calls (suc k)) → does k ≡ false
      by_turn (stays same) = absurd (some (sym same ∙ empty))
      by_turn (registers by was booting list) = cc
      by_turn (activates was active) = cc
      by_turn (rejects was dead) = cc
      by_turn (clears by now) = not-refused life.vm reason (state_at m calls k) (call_at calls k) (reply_at m calls k) by

  has-calls : IsLawful m → 1 ≤ life.registered → (cleared : Option ℕ) → life.cleared ≡ cleared → IsLived m calls life (place_after life.registered) (last_place calls cleared) → HasCalls (place_after life.registered) (last_place calls cleared)
  has-calls is some None end lived = record {
    order = lived.stretch.begins;
    ends = lived.stretch.ends;
    early = λ k lt. too-early life.registered (first_line + k) (is_before (first_line + k) life.cleared) (omega (arith, some, lt));
    within = λ k from to. let later = after life.registered (first_line + k) (omega (arith, some, from)) in rw (later, end) refl;
    late = λ k past lt. absurd (omega (arith, past, lt));
  }
  has-calls is some (Some line) end lived =
      let first = subst (λ c. IsFirstIn m calls life.vm Empty (place_after life.registered) (length calls) c) end lived.cleared in
      record {
        order = lived.stretch.begins;
        ends = lived.stretch.ends;
        early = λ k lt. too-early life.registered (first_line + k) (is_before (first_line + k) life.cleared) (omega (arith, some, lt));
        within = λ k from to.
            let later = after life.registered (first_line + k) (omega (arith, some, from)) in
            let ends = lived.stretch.ends in
            elim (cases_lt (first_line + k) line) [
              | inl lt ↦ let sooner = after (first_line + k) line lt in rw (later, end, sooner) refl
              | inr here ↦
                  let last : place_after line ≡ suc k = omega (arith, here, to) in
                  let empty = subst (λ n. phase_at m calls life.vm n ≡ Empty) last first.2 in
                  let not = not-refused-at is k (omega (arith, ends, to)) empty (first.3 k from to) in
                  rw not (and-none (inside (first_line + k)))
            ];
        late = λ k past lt. let from = first.0 in ap (λ (c : Option ℕ). nat_lt life.registered (first_line + k) && is_before (first_line + k) c) end ∙ too-late (nat_lt life.registered (first_line + k)) (first_line + k) line (omega (arith, past, from));
      }

  pub counted-in : IsLawful m → 1 ≤ life.registered → IsLived m calls life (place_after life.registered) (last_place calls life.cleared)
      → counted (attempts_in (notes m calls)) ≡ calls_that refuses m calls (place_after life.registered) (last_place calls life.cleared)
  counted-in is some lived = before-life (place_after life.registered) (last_place calls life.cleared) (has-calls is some life.cleared refl lived) (place_after life.registered) 0 (omega arith)

pub attempts_counted : (m : State) (calls : List Call) → IsLawful m → AllAttemptsAreCounted m calls
attempts_counted m calls is =
    let all = summaries_are m calls is in
    let before = all.before in
    subst (All (AttemptsAreCounted m calls)) (sym before.1)
    (All-append (AttemptsAreCounted m calls) before.0 (lives (events m calls))
    (All-weaker (λ life. IsUnderWay m calls life (last_place calls life.cleared)) (AttemptsAreCounted m calls) (λ life way reason. by-header life way reason) before.0 before.3)
    (All-weaker (λ life. IsSummary m calls life (place_after life.registered) (last_place calls life.cleared)) (AttemptsAreCounted m calls)
    (λ life sum reason. let within = sum.within in counted-in m calls life reason is (omega (arith, within)) sum.lived) (lives (events m calls)) all.each))
  where
    by-header : (life : Life) → IsUnderWay m calls life (last_place calls life.cleared) → AttemptsAreCounted m calls life
    by-header life way reason =
        let header = way.registered in
        let first : 0 ≡ place_after life.registered = ap place_after (sym header) in
        counted-in m calls life reason is (omega (arith, header)) (subst (λ n. IsLived m calls life n (last_place calls life.cleared)) first way.lived)
