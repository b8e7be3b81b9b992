-- The lines of a session are those of a trace.
use Rattle.std.proofs.Common.{◌≡◌, ◌≤◌, List, [], ◌∷◌, ◌++◌, map, ℕ, suc, ◌+◌, length, refl, ap, sym, subst, ◌∙◌, arith}
use Rattle.std.specs.Prelude.{slice_get, option_map}
use Rattle.std.specs.List.{AllByRecursion, concat}
use Rattle.std.proofs.lemmas.Option.{slice_get-map}
use Rattle.kc_types.specs.Limits.{call_limit}
use Rattle.kc_types.specs.declared.call.Call.{Call}
use Rattle.kc_trace.specs.declared.header.Header.{Header}
use Rattle.kc_trace.specs.declared.header.Header.TheVariants.{One, Two, Three}
use Rattle.kc_model.specs.Ranged.{IsRanged}
use Rattle.kc_trace.specs.Header.{IsHeader, trace_header}
use Rattle.kc_trace.specs.Spelling.{line_of, lines_of}
use Rattle.kc_trace.specs.Trace.{AreCalls, IsTraceUnder}
use Rattle.kc_live.specs.declared.receipt.Entry.{Entry}
use Rattle.kc_live.specs.Book.{MayRecord, calls_of}
use Rattle.kc_redact.specs.Redacted.{redacted, redacted_line, IsRedaction}
use Rattle.kc_redact.specs.Witness.{witness_header, witnessed}
use Rattle.kc_redact.proofs.Redacted.{is_redaction}
use Rattle.kc_session.specs.declared.session.Form.{Form}
use Rattle.kc_session.specs.Session.{Kept, trace_lines, redacted_lines, lines_in, line_in}

are_calls : (header : Header) (calls : List Call) → MayRecord header → AllByRecursion IsRanged calls → AreCalls header calls
are_calls header [] may all = tt
are_calls One (call ∷ calls) may all = absurd may
are_calls Two (call ∷ calls) may all = ((all.0, refl), are_calls Two calls may all.1)
are_calls (Three head) (call ∷ calls) may all = ((all.0, refl), are_calls (Three head) calls may all.1)

is_header : (header : Header) → MayRecord header → IsHeader header
is_header One may = absurd may
is_header Two may = tt
is_header (Three head) may = may

own_header : (header : Header) → MayRecord header → witness_header header ≡ header
own_header One may = absurd may
own_header Two may = refl
own_header (Three head) may = refl

joined : (entries : List Entry) → concat (map (λ entry. line_of entry.call ++ 10 ∷ []) entries) ≡ lines_of (calls_of entries)
joined [] = refl
joined (entry ∷ entries) = ap (λ rest. (line_of entry.call ++ 10 ∷ []) ++ rest) (joined entries)

same_length : (entries : List Entry) → length (calls_of entries) ≡ length entries
same_length [] = refl
same_length (entry ∷ entries) = ap (λ n. suc n) (same_length entries)

pub is_trace : (kept : Kept) → MayRecord kept.header → AllByRecursion IsRanged (calls_of kept.log.entries) → length kept.log.entries ≤ call_limit → IsTraceUnder kept.header (concat (trace_lines kept)) (calls_of kept.log.entries)
is_trace kept may ranged short = record {
  valid = is_header kept.header may;
  whole = ap (λ rest. trace_header kept.header ++ rest) (joined kept.log.entries);
  each = are_calls kept.header (calls_of kept.log.entries) may ranged;
  few = subst (λ n. n ≤ call_limit) (sym (same_length kept.log.entries)) short;
}

pub with_one_more : (entries : List Entry) (entry : Entry) → AllByRecursion IsRanged (calls_of entries) → IsRanged entry.call → AllByRecursion IsRanged (calls_of (entries ++ entry ∷ []))
with_one_more [] entry all one = (one, tt)
with_one_more (first ∷ entries) entry all one = (all.0, with_one_more entries entry all.1 one)

pub line_after : (form : Form) (kept : Kept) (number place : ℕ) → number ≡ place + 1 → slice_get (lines_in form kept) number ≡ option_map (λ entry. line_in form entry.call) (slice_get kept.log.entries place)
line_after form kept number place is =
    let next : number ≡ suc place = omega arith in
    rw next (slice_get-map (λ (entry : Entry). line_in form entry.call) kept.log.entries place)

-- ---- the redacted lines, and their digest

joined_redacted : (entries : List Entry) → concat (map (λ entry. redacted_line entry.call) entries) ≡ lines_of (redacted (calls_of entries))
joined_redacted [] = refl
joined_redacted (entry ∷ entries) = ap (λ rest. redacted_line entry.call ++ rest) (joined_redacted entries)

pub lines_are_witnessed : (kept : Kept) → MayRecord kept.header → concat (redacted_lines kept) ≡ witnessed kept.header (calls_of kept.log.entries)
lines_are_witnessed kept may =
    ap (λ rest. trace_header kept.header ++ rest) (joined_redacted kept.log.entries)
    ∙ ap (λ (header : Header). trace_header header ++ lines_of (redacted (calls_of kept.log.entries))) (sym (own_header kept.header may))

pub lines_are_redacted : (kept : Kept) → MayRecord kept.header → AllByRecursion IsRanged (calls_of kept.log.entries) → length kept.log.entries ≤ call_limit
    → IsRedaction (concat (trace_lines kept)) (concat (redacted_lines kept)) (calls_of kept.log.entries)
lines_are_redacted kept may ranged short =
    is_redaction (concat (trace_lines kept)) (concat (redacted_lines kept)) (calls_of kept.log.entries)
    (kept.header, is_trace kept may ranged short) (ap (λ rest. trace_header kept.header ++ rest) (joined_redacted kept.log.entries))
