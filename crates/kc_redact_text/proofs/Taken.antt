-- A trace is read from a source, piece after piece, and redacted.
use Rattle.std.proofs.Common.{◌≡◌, ◌<◌, ◌+◌, ℕ, Bool, List, [], ◌++◌, length, Option, Some, None, refl, sym, ap, subst, ◌∙◌, append_assoc, append-nil, arith}
use Rattle.std.specs.Prelude.{IfSome}
use Rattle.std.specs.Io.KnownBytes.{Consumes, IsAtEnd}
use Rattle.kc_types.specs.Limits.{byte_limit}
use Rattle.kc_types.specs.declared.call.Call.{Call}
use Rattle.kc_trace.specs.declared.header.Header.{Header}
use Rattle.kc_trace.specs.declared.fault.TraceFault.{TraceFault}
use Rattle.kc_trace.specs.declared.fault.TraceFault.TheVariants.{Memory}
use Rattle.kc_trace.specs.Machine.{Fails, fed}
use Rattle.kc_trace.specs.Trace.{IsTraceUnder}
use Rattle.kc_texts.specs.Ends.{ReadFailed}
use Rattle.kc_texts.specs.Streamed.{HasRead}
use Rattle.kc_faults.specs.Faults.{read_fault}
use Rattle.kc_texts.specs.declared.whole.ReadFault.{ReadFault}
use Rattle.kc_texts.specs.declared.whole.ReadFault.TheVariants as reads
use Rattle.kc_faults.specs.declared.fault.TextFault.TheVariants as texts
use Rattle.kc_texts.proofs.Fed.{stays, goes_on_ok, goes_on_err, goes_on_nothing, too_many}
use Rattle.kc_model.specs.State.{State}
use Rattle.kc_types.specs.declared.reply.Reply.{Reply}
use Rattle.kc_remarks.specs.declared.denials.Denials.{Denials}
use Rattle.kc_remarks.specs.Denials.{AreCounts, Counts}
use Rattle.kc_redact_text.specs.Made.{redacted_by, core_after, replies_by, CountsMore}
use Rattle.kc_redact_text.proofs.Made.{by-none, after-none, by-append, after-append, counts-none, counts-append, replies-few}
use Rattle.kc_redact_text.specs.Reading.{AreRead, stream_of, HasGoneOn, HasTaken, IsHeaderAndCalls}
use Rattle.kc_redact_text.specs.declared.reading.Redacting.{Redacting}

-- ---- one piece

pub taken_ok : (core made : Option State) (before after : Redacting) (piece : List ℕ) (calls : List Call) → AreRead core (fed before.reader piece) after.reader.progress calls → after.reader.fault ≡ None
    → after.total ≡ before.total + length piece → after.calls.items ≡ before.calls.items ++ redacted_by core calls → made ≡ core_after core calls → CountsMore (replies_by core calls) before.denials after.denials → HasTaken core made before after piece
taken_ok core made before after piece calls read none total grown done counted left now consumed =
    let more = read.0 in (
      more,
      grown ∙ ap (λ kept. before.calls.items ++ kept) read.2.redacted,
      goes_on_ok (stream_of before) (stream_of before) (stream_of after) piece [] more more (length piece) left left now (stays (stream_of before) left) consumed read.1 none refl total refl,
      done ∙ read.2.made,
      subst (λ (more : List Reply). CountsMore more before.denials after.denials) read.2.replies counted,
    )

-- no more calls are kept
none-kept : (core : Option State) (before after : Redacting) → after.calls ≡ before.calls → after.calls.items ≡ before.calls.items ++ redacted_by core []
none-kept core before after same = rw (same, by-none core) (sym (append-nil before.calls.items))

pub taken_err : (core made : Option State) (before after : Redacting) (piece : List ℕ) (fault : TraceFault) → Fails fault (fed before.reader piece) → (fault ≡ Memory → ⊥) → after.reader.fault ≡ Some fault
    → after.total ≡ before.total + length piece → after.reader.progress ≡ before.reader.progress → after.calls ≡ before.calls → after.denials ≡ before.denials → made ≡ core → HasTaken core made before after piece
taken_err core made before after piece fault told other some total kept same uncounted idle left now consumed =
    ([], none-kept core before after same, goes_on_err (stream_of before) (stream_of before) (stream_of after) piece [] fault (length piece) left left now (stays (stream_of before) left) consumed told other some refl total kept, idle ∙ sym (after-none core), rw uncounted (counts-none core before.denials))

-- ---- going on

pub went_nowhere : (core : Option State) (r : Redacting) (left : Option (List ℕ)) → HasGoneOn core core r r left left
went_nowhere core r left = ([], none-kept core r r refl, stays (stream_of r) left, sym (after-none core), counts-none core r.denials)

pub went_on : (core made last : Option State) (before mid after : Redacting) (left here now : Option (List ℕ)) → HasGoneOn core made before mid left here → HasGoneOn made last mid after here now → HasGoneOn core last before after left now
went_on core made last before mid after left here now one two =
    let all : redacted_by core (one.0 ++ two.0) ≡ redacted_by core one.0 ++ redacted_by made two.0 = by-append core one.0 two.0 ∙ ap (λ c. redacted_by core one.0 ++ redacted_by c two.0) (sym one.3) in
    let grown : after.calls.items ≡ before.calls.items ++ redacted_by core (one.0 ++ two.0) =
    two.1 ∙ ap (λ kept. kept ++ redacted_by made two.0) one.1 ∙ append_assoc before.calls.items (redacted_by core one.0) (redacted_by made two.0) ∙ ap (λ kept. before.calls.items ++ kept) (sym all) in (
      one.0 ++ two.0,
      grown,
      λ bytes calls first h.
          let first_part = one.2 bytes calls first h in
          let second_part = two.2 (bytes ++ first_part.0) (calls ++ one.0) first first_part.1 in
          (first_part.0 ++ second_part.0, rw (← append_assoc bytes first_part.0 second_part.0, ← append_assoc calls one.0 two.0) second_part.1),
      two.3 ∙ ap (λ c. core_after c two.0) one.3 ∙ sym (after-append core one.0 two.0),
      counts-append core made one.0 two.0 before.denials mid.denials after.denials one.3 one.4 two.4,
    )

-- the last read moved no bytes
pub went_to_end : (core made : Option State) (before after : Redacting) (piece : List ℕ) (left mid now : Option (List ℕ)) → HasGoneOn core made before after left mid → Consumes mid now piece → length piece ≡ 0 → HasGoneOn core made before after left now
went_to_end core made before after piece left mid now on consumed none =
    (on.0, on.1, goes_on_nothing (stream_of before) (stream_of after) piece on.0 left mid now on.2 consumed none, on.3, on.4)

pub went_too_far : (core made : Option State) (before mid : Redacting) (piece : List ℕ) (n : ℕ) (failed : Bool) (left here now : Option (List ℕ)) → HasGoneOn core made before mid left here → Consumes here now piece → length piece ≡ n → byte_limit < mid.total + n
    → (bytes : List ℕ) (calls : List Call) (first : Option (List ℕ)) → HasRead (stream_of before) bytes calls first left → ReadFailed failed first now
went_too_far core made before mid piece n failed left here now on consumed len past = too_many (stream_of before) (stream_of mid) piece on.0 n failed left here now on.2 consumed len past

-- ---- the whole trace

-- the trace that a source held
header_and_calls : (core : Option State) (source : Option (List ℕ)) (header : Header) (calls kept : List Call) (denials : Denials) → IfSome source (λ text. IsTraceUnder header text calls) → kept ≡ redacted_by core calls → Counts (replies_by core calls) denials
    → IfSome source (λ text. IsHeaderAndCalls core text header kept denials)
header_and_calls core None header calls kept denials read same counted = tt
header_and_calls core (Some text) header calls kept denials read same counted = record {
  calls = calls;
  read = read;
  redacted = same;
  counted = counted (let few = read.few in let each = replies-few core calls in omega (arith, few, each));
}

pub whole_read : (core made : Option State) (source now : Option (List ℕ)) (header : Header) (start end : Redacting) → ((first : Option (List ℕ)) → HasRead (stream_of start) [] [] first first) → start.calls.items ≡ [] → AreCounts [] start.denials
    → HasGoneOn core made start end source now → IsAtEnd now
    → ((bytes : List ℕ) (calls : List Call) (first last : Option (List ℕ)) → HasRead (stream_of end) bytes calls first last → IsAtEnd last → IfSome first (λ text. IsTraceUnder header text calls))
    → IfSome source (λ text. IsHeaderAndCalls core text header end.calls.items end.denials)
whole_read core made source now header start end fresh none uncounted on ended judge =
    let more = on.2 [] [] source (fresh source) in
    let kept : end.calls.items ≡ redacted_by core on.0 = on.1 ∙ ap (λ front. front ++ redacted_by core on.0) none in
    header_and_calls core source header on.0 end.calls.items end.denials (judge _ on.0 source now more.1 ended) kept (on.4 [] (λ room. uncounted))

-- a read fails only if the source does
pub read_is : (fault : ReadFault) → read_fault fault ≡ texts.Read → fault ≡ reads.Read
read_is reads.Memory e = cc
read_is reads.Read e = refl
