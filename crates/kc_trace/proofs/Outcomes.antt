-- What is read of the lines of calls, after the header.
use Rattle.std.proofs.Common.{◌≡◌, ◌≤◌, ◌<◌, ◌+◌, ℕ, Bool, true, false, cond, List, [], ◌∷◌, ◌++◌, length, Option, Some, None, Result, Ok, Err, refl, sym, ap, subst, ◌∙◌, append_assoc, arith, inl, inr, length-append}
use Rattle.std.specs.Prelude.{◌==◌, not, nat_le}
use Rattle.std.proofs.lemmas.Bool.{eqb-true, le-leb, lt-leb, cases_lt, cases_Bool}
use Rattle.std.proofs.lemmas.List.{append-nil}
use Rattle.std.proofs.lemmas.List.Concat.{flat_map-cons}
use Rattle.std.proofs.lemmas.List.Folds.{list_all-append}
use Rattle.kc_trace.specs.declared.header.Header.{Header}
use Rattle.kc_trace.specs.declared.head_reader.HeadSoFar.TheVariants.{Nothing}
use Rattle.kc_trace.specs.Header.{first_call_line}
use Rattle.kc_types.specs.declared.call.Call.{Call}
use Rattle.kc_types.specs.Limits.{line_limit}
use Rattle.kc_trace.specs.declared.fault.TraceFault.{TraceFault}
use Rattle.kc_trace.specs.declared.fault.TraceFault.TheVariants.{BadLine, NoNewline, TooManyCalls}
use Rattle.kc_trace.specs.Spelling.{line_of, lines_of, is_allowed_in}
use Rattle.kc_trace.specs.Machine.{◌>>=◌, Progress, kept, longer, standing, call_of_kept, call_in, after_line, line_ended, with_front, feed, nothing_begun, ended}
use Rattle.kc_lines.specs.Lines.{IsOneLine}
use Rattle.kc_trace.specs.Trace.{IsCallOf, AreCalls, StopsAt}
use Rattle.kc_trace.proofs.Lines.{line_fits, call_of-line_of}
use Rattle.kc_trace.proofs.Runs.{feed_nothing, feed_begun, feed_ended}
use Rattle.kc_trace.proofs.Spelled.{line_is_spelled}

-- ---- a line that is kept

stood : (v : Header) (found : Option Call) (call : Call) → standing v found ≡ Some call → (found ≡ Some call) × (is_allowed_in v call ≡ true)
stood v None call e = cc
stood v (Some other) call e = by_test (is_allowed_in v other) refl e
  where
    by_test : (b : Bool) → is_allowed_in v other ≡ b → cond b (Some other) None ≡ Some call → (Some other ≡ Some call) × (is_allowed_in v call ≡ true)
    by_test true h e = (e, let same : other ≡ call = cc in subst (λ c. is_allowed_in v c ≡ true) same h)
    by_test false h e = cc

pub kept_is_call : (v : Header) (line : List ℕ) (call : Call) → call_in v (kept line) ≡ Some call → (line ≡ line_of call) × IsCallOf v call
kept_is_call v line call e =
    let is = stood v (call_of_kept (kept line)) call e in
    elim (cases_lt line_limit (length line)) [
      | inl past ↦ absurd (let none : None ≡ Some call = rw (lt-leb (length line) line_limit past) at is.0 in cc)
      | inr le ↦ let spelled = line_is_spelled line call (rw (le-leb (length line) line_limit le) at is.0) in (spelled.0, (spelled.1, is.1))
    ]

kept_is_none : (v : Header) (line : List ℕ) → call_in v (kept line) ≡ None → (call : Call) → IsCallOf v call → line ≡ line_of call → ⊥
kept_is_none v line e call fits same =
    let short : length line ≤ line_limit = rw same (line_fits call fits.0) in
    let some : call_in v (kept line) ≡ Some call = rw (le-leb (length line) line_limit short, same, call_of-line_of call fits.0, fits.1) refl in
    cc

-- ---- the text after the header

-- after this many calls, at the start of a line
abbrev pub at_line : Header → ℕ → Progress
at_line v calls = record { header = Some v; head = Nothing; calls = calls; line = Some [] }

-- the calls that were read, if the text may end there
abbrev pub finished : Result (Progress × List Call) TraceFault → Result (List Call) TraceFault
finished read = read >>= λ all. ended all.0.header all.0.line >>= λ end. Ok all.1

-- the calls from there on
abbrev pub outcome : Progress → List ℕ → Result (List Call) TraceFault
outcome progress bytes = finished (feed progress bytes)

abbrev pub Answers : Header → ℕ → List ℕ → Result (List Call) TraceFault → Type 0
Answers v before text (Ok calls) = (text ≡ lines_of calls) × AreCalls v calls × (before + length calls ≤ 65536)
Answers v before text (Err fault) = (calls : List Call) × (rest : List ℕ) × (text ≡ lines_of calls ++ rest) × AreCalls v calls × StopsAt v (before + length calls) rest fault

abbrev pub onto : List Call → Result (List Call) TraceFault → Result (List Call) TraceFault
onto new read = read >>= λ calls. Ok (new ++ calls)

through_end : (new calls : List Call) (end : Result Header TraceFault) → (end >>= λ e. Ok (new ++ calls)) ≡ onto new (end >>= λ e. Ok calls)
through_end new calls (Ok e) = refl
through_end new calls (Err f) = refl

through : (new : List Call) (read : Result (Progress × List Call) TraceFault) → (with_front new read >>= λ all. ended all.0.header all.0.line >>= λ end. Ok all.1) ≡ onto new (read >>= λ all. ended all.0.header all.0.line >>= λ end. Ok all.1)
through new (Ok x) = through_end new x.1 (ended x.0.header x.0.line)
through new (Err f) = refl

pub outcome-ended : (p q : Progress) (line rest : List ℕ) (new : List Call) → IsOneLine line → line_ended (longer p line) ≡ Ok (q, new) → outcome p (line ++ 10 ∷ rest) ≡ onto new (outcome q rest)
outcome-ended p q line rest new one h = rw (feed_ended p line rest one, h) (through new (feed q rest))

pub outcome-stuck : (p : Progress) (line rest : List ℕ) (f : TraceFault) → IsOneLine line → line_ended (longer p line) ≡ Err f → outcome p (line ++ 10 ∷ rest) ≡ Err f
outcome-stuck p line rest f one h = rw (feed_ended p line rest one, h) refl

-- ---- each line

too_many : (v : Header) (before : ℕ) (line : List ℕ) → 65536 ≤ before → line_ended (longer (at_line v before) line) ≡ Err TooManyCalls
too_many v before line le = rw (le-leb 65536 before le) refl

pub line_ends : (v : Header) (before : ℕ) (line : List ℕ) → before < 65536 → line_ended (longer (at_line v before) line) ≡ after_line v (longer (at_line v before) line) (call_in v (kept line))
line_ends v before line lt = rw (lt-leb 65536 before lt) refl

lift_call : (v : Header) (before : ℕ) (line : List ℕ) (call : Call) (bytes : List ℕ) (read : Result (List Call) TraceFault) → line ≡ line_of call → IsCallOf v call
    → Answers v (before + 1) bytes read → Answers v before (line ++ 10 ∷ bytes) (onto (call ∷ []) read)
lift_call v before line call bytes (Ok calls) same fits h =
    (rw (same, h.0, flat_map-cons (λ (c : Call). line_of c ++ 10 ∷ []) call calls) (sym (append_assoc (line_of call) (10 ∷ []) (lines_of calls))), (fits, h.1), omega (arith, h.2))
lift_call v before line call bytes (Err f) same fits h =
    let regrouped : line ++ 10 ∷ bytes ≡ lines_of (call ∷ h.0) ++ h.1 = rw (same, h.2, flat_map-cons (λ (c : Call). line_of c ++ 10 ∷ []) call h.0) (simp append_assoc) in
    (call ∷ h.0, h.1, regrouped, (fits, h.3), subst (λ (n : ℕ). StopsAt v n h.1 f) (let e : (before + 1) + length h.0 ≡ before + length (call ∷ h.0) = omega arith in e) h.4)

pub one_line_pushed : (line : List ℕ) (byte : ℕ) → IsOneLine line → (byte == 10) ≡ false → IsOneLine (line ++ byte ∷ [])
one_line_pushed line byte h e = rw (list_all-append (λ b. not (b == 10)) line (byte ∷ []), h, e) refl

ends_open : (byte : ℕ) (line : List ℕ) (b : Bool) → nothing_begun (cond b (Some (byte ∷ line)) None) ≡ Err NoNewline
ends_open byte line true = refl
ends_open byte line false = refl

at_end : (v : Header) (before : ℕ) (line : List ℕ) → before ≤ 65536 → IsOneLine line → Answers v before line (outcome (at_line v before) line)
at_end v before [] few one = rw (feed_nothing (at_line v before)) (refl, tt, omega (arith, few))
at_end v before (byte ∷ line) few one = elim (cases_lt before 65536) [
  | inl lt ↦
      rw (feed_begun (at_line v before) (byte ∷ line) (omega arith) one, lt-leb 65536 before lt, ends_open byte line (nat_le (length (byte ∷ line)) line_limit))
      ([], byte ∷ line, refl, tt, (omega (arith, lt), omega arith, one))
  | inr le ↦
      rw (feed_begun (at_line v before) (byte ∷ line) (omega arith) one, le-leb 65536 before le)
      ([], byte ∷ line, refl, tt, (omega (arith, few, le), omega arith))
]

-- what a newline makes of the line before it
at_newline : (v : Header) (before : ℕ) (line bytes : List ℕ) (found : Option Call) → call_in v (kept line) ≡ found → IsOneLine line → before < 65536
    → ((call : Call) → Answers v (before + 1) bytes (outcome (at_line v (before + 1)) bytes))
    → Answers v before (line ++ 10 ∷ bytes) (outcome (at_line v before) (line ++ 10 ∷ bytes))
at_newline v before line bytes None e one lt later =
    rw (outcome-stuck (at_line v before) line bytes (BadLine (before + first_call_line v)) one (line_ends v before line lt ∙ ap (after_line v (longer (at_line v before) line)) e))
    ([], line ++ 10 ∷ bytes, refl, tt, (omega (arith, lt), omega arith, (line, bytes, refl, one, kept_is_none v line e)))
at_newline v before line bytes (Some call) e one lt later =
    let parts = kept_is_call v line call e in
    rw (outcome-ended (at_line v before) (at_line v (before + 1)) line bytes (call ∷ []) one (line_ends v before line lt ∙ ap (after_line v (longer (at_line v before) line)) e))
    (lift_call v before line call bytes (outcome (at_line v (before + 1)) bytes) parts.0 parts.1 (later call))

pub answers : (v : Header) (bytes : List ℕ) (before : ℕ) (line : List ℕ) → before ≤ 65536 → IsOneLine line → Answers v before (line ++ bytes) (outcome (at_line v before) (line ++ bytes))
answers v [] before line few one = rw (append-nil line) (at_end v before line few one)
answers v (byte ∷ bytes) before line few one = elim (cases_Bool (byte == 10)) [
  | inr other ↦ rw append_assoc at (answers v bytes before (line ++ byte ∷ []) few (one_line_pushed line byte one other))
  | inl newline ↦
      rw (eqb-true byte 10 newline)
      elim (cases_lt before 65536) [
        | inl lt ↦ at_newline v before line bytes (call_in v (kept line)) refl one lt (λ call. answers v bytes (before + 1) [] (omega (arith, lt)) refl)
        | inr le ↦
            rw (outcome-stuck (at_line v before) line bytes TooManyCalls one (too_many v before line le))
            ([], line ++ 10 ∷ bytes, refl, tt, (omega (arith, few, le), omega (arith, length-append line (10 ∷ bytes))))
      ]
]
