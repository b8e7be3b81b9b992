-- What is read line after line is the trace.
use Rattle.std.proofs.Common.{◌≡◌, ◌≤◌, ◌<◌, ◌+◌, ℕ, List, [], ◌∷◌, ◌++◌, length, Some, Result, Ok, Err, refl, sym, ap, subst, ◌∙◌, append_assoc, arith, inl, inr, zero-add}
use Rattle.std.specs.Global.{Vec}
use Rattle.std.specs.Prelude.{MatchResult}
use Rattle.std.proofs.lemmas.Bool.{le-leb}
use Rattle.std.proofs.lemmas.List.Concat.{flat_map-cons}
use Rattle.kc_trace.specs.declared.header.Header.{Header}
use Rattle.kc_trace.specs.declared.head_reader.HeadSoFar.TheVariants.{Nothing}
use Rattle.kc_types.specs.declared.call.Call.{Call}
use Rattle.kc_types.specs.Limits.{line_limit}
use Rattle.kc_trace.specs.declared.fault.TraceFault.{TraceFault}
use Rattle.kc_trace.specs.declared.fault.TraceFault.TheVariants.{NoHeader, BadLine, NoNewline, TooManyCalls, Misplaced, Memory}
use Rattle.kc_trace.specs.Header.{IsHeader, trace_header}
use Rattle.kc_trace.specs.Spelling.{line_of, lines_of}
use Rattle.kc_trace.specs.Machine.{◌>>=◌, Gives, Fails, Progress, start, ended, kept, longer, call_in, after_line, feed, reading}
use Rattle.kc_trace.specs.Trace.{IsCallOf, AreCalls, StopsAt, Stops, LacksHeader, IsTraceUnder, IsTrace, IsRefused}
use Rattle.kc_trace.proofs.Lines.{line_fits, line_is_one, call_of-line_of}
use Rattle.kc_trace.proofs.Runs.{feed_nothing, header_stays}
use Rattle.kc_trace.proofs.Outcomes.{at_line, outcome, finished, onto, Answers, outcome-ended, line_ends, answers}
use Rattle.kc_trace.proofs.Headers.{past_header, stuck_in_header, through_header}

-- ---- the whole text

abbrev pub Reads : List ℕ → Result (List Call) TraceFault → Type 0
Reads text (Ok calls) = IsTrace text calls
Reads text (Err fault) = IsRefused text fault

stops : (v : Header) (text rest : List ℕ) (fault : TraceFault) → IsHeader v → text ≡ trace_header v ++ rest → Answers v 0 rest (Err fault) → Stops text fault
stops v text rest fault is e h = (v, h.0, h.1, is, rw (e, h.2) refl, h.3, subst (λ n. StopsAt v n h.1 fault) (zero-add (length h.0)) h.4)

with_header : (v : Header) (text rest : List ℕ) (read : Result (List Call) TraceFault) → IsHeader v → text ≡ trace_header v ++ rest → Answers v 0 rest read → Reads text read
with_header v text rest (Ok calls) is e h = (v, record { valid = is; whole = rw (e, h.0) refl; each = h.1; few = omega (arith, h.2) })
with_header v text rest (Err NoHeader) is e h = absurd h.4
with_header v text rest (Err (BadLine n)) is e h = inr (stops v text rest (BadLine n) is e h)
with_header v text rest (Err NoNewline) is e h = stops v text rest NoNewline is e h
with_header v text rest (Err TooManyCalls) is e h = stops v text rest TooManyCalls is e h
with_header v text rest (Err (Misplaced wrong)) is e h = absurd h.4
with_header v text rest (Err Memory) is e h = tt

reading_is : (text : List ℕ) → reading text ≡ outcome start text
unfolding reading
reading_is text = refl

after : (v : Header) (rest : List ℕ) → Answers v 0 rest (outcome (at_line v 0) rest)
after v rest = answers v rest 0 [] (omega arith) refl

-- a text that is refused for want of a header has none, and no line that no header has there
lacks : (text : List ℕ) → outcome start text ≡ Err NoHeader → LacksHeader text
lacks text none = record {
  none = λ v rest is whole.
      let wrong : Answers v 0 rest (Err NoHeader) = subst (Answers v 0 rest) (sym (ap finished (past_header v text rest is whole)) ∙ none) (after v rest) in
      wrong.4;
  line = λ number stopped. let other = stuck_in_header text number stopped in absurd cc;
}

-- what reading returns is the trace, or the first reason why there is none
pub reading_reads : (text : List ℕ) → Reads text (reading text)
reading_reads text = elim (through_header text [] Nothing tt refl) [
  | inl (v, rest, is, whole, goes) ↦ subst (Reads text) (sym (reading_is text ∙ ap finished goes)) (with_header v text rest (outcome (at_line v 0) rest) is whole (after v rest))
  | inr (inl none) ↦ subst (Reads text) (sym (reading_is text ∙ none)) (lacks text none)
  | inr (inr (number, stopped, goes)) ↦ subst (Reads text) (sym (reading_is text ∙ goes)) (inl stopped)
]

fails_reads : (text : List ℕ) (fault : TraceFault) (read : Result (List Call) TraceFault) → Reads text read → Fails fault read → IsRefused text fault
fails_reads text NoHeader read h e = let h2 : Reads text (Err NoHeader) = rw e at h in h2
fails_reads text (BadLine n) read h e = let h2 : Reads text (Err (BadLine n)) = rw e at h in h2
fails_reads text NoNewline read h e = let h2 : Reads text (Err NoNewline) = rw e at h in h2
fails_reads text TooManyCalls read h e = let h2 : Reads text (Err TooManyCalls) = rw e at h in h2
fails_reads text (Misplaced wrong) read h e = let h2 : Reads text (Err (Misplaced wrong)) = rw e at h in h2
fails_reads text Memory read h e = tt

pub given_reads : (text : List ℕ) (r : Result (Vec Call) TraceFault) → Gives (λ calls. calls.items) r (reading text) → MatchResult r (λ calls. IsTrace text calls.items) (λ fault. IsRefused text fault)
given_reads text (Ok calls) h = let e : Reads text (Ok calls.items) = rw h at (reading_reads text) in e
given_reads text (Err fault) h = fails_reads text fault (reading text) (reading_reads text) h

-- ---- a trace is read again

call_again : (v : Header) (before : ℕ) (call : Call) (rest : List ℕ) → before < 65536 → IsCallOf v call → outcome (at_line v before) (line_of call ++ 10 ∷ rest) ≡ onto (call ∷ []) (outcome (at_line v (before + 1)) rest)
call_again v before call rest lt fits =
    let short : call_in v (kept (line_of call)) ≡ Some call = rw (le-leb (length (line_of call)) line_limit (line_fits call fits.0), call_of-line_of call fits.0, fits.1) refl in
    outcome-ended (at_line v before) (at_line v (before + 1)) (line_of call) rest (call ∷ []) (line_is_one call fits.0) (line_ends v before (line_of call) lt ∙ ap (after_line v (longer (at_line v before) (line_of call))) short)

lines_again : (v : Header) (calls : List Call) (before : ℕ) → AreCalls v calls → before + length calls ≤ 65536 → outcome (at_line v before) (lines_of calls) ≡ Ok calls
lines_again v [] before fits few = rw (feed_nothing (at_line v before)) refl
lines_again v (call ∷ calls) before fits few =
    let more = lines_again v calls (before + 1) fits.1 (omega (arith, few)) in
    let cut : lines_of (call ∷ calls) ≡ line_of call ++ 10 ∷ lines_of calls = flat_map-cons (λ (c : Call). line_of c ++ 10 ∷ []) call calls ∙ append_assoc (line_of call) (10 ∷ []) (lines_of calls) in
    ap (outcome (at_line v before)) cut ∙ call_again v before call (lines_of calls) (omega (arith, few)) fits.0 ∙ ap (onto (call ∷ [])) more

-- a trace is read as its calls
pub reading-trace : (text : List ℕ) (calls : List Call) → IsTrace text calls → reading text ≡ Ok calls
reading-trace text calls (header, h) = reading_is text ∙ ap finished (past_header header text (lines_of calls) h.valid h.whole) ∙ lines_again header calls 0 h.each (omega (arith, h.few))

-- ---- the header that was read

-- a text that was read with this header is a trace under it
pub read_under : (text : List ℕ) (header : Header) (all : Progress × List Call) → feed start text ≡ Ok all → all.0.header ≡ Some header → ended (Some header) all.0.line ≡ Ok header → IsTraceUnder header text all.1
read_under text header all read is end =
    let done : outcome start text ≡ Ok all.1 = ap finished read ∙ ap (λ h. ended h all.0.line >>= λ end. Ok all.1) is ∙ ap (λ end. end >>= λ e. Ok all.1) end in
    elim (through_header text [] Nothing tt refl) [
      | inl (v, rest, valid, whole, goes) ↦
          let from : feed (at_line v 0) rest ≡ Ok all = sym goes ∙ read in
          let same : Some v ≡ Some header = sym (header_stays rest (at_line v 0) v all refl from) ∙ is in
          let one : v ≡ header = cc in
          let found : Answers v 0 rest (Ok all.1) = subst (Answers v 0 rest) (sym (ap finished goes) ∙ done) (after v rest) in
          subst (λ (h : Header). IsTraceUnder h text all.1) one (record { valid = valid; whole = rw (whole, found.0) refl; each = found.1; few = omega (arith, found.2) })
      | inr (inl none) ↦ absurd cc
      | inr (inr (number, stopped, goes)) ↦ absurd cc
    ]
