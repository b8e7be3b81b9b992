-- A stream that is fed in pieces.
use Rattle.std.proofs.Common.{◌≡◌, ◌≤◌, ◌<◌, ◌+◌, ℕ, Bool, true, false, List, [], ◌∷◌, ◌++◌, length, Option, Some, None, Result, Ok, Err, refl, sym, ap, ◌∙◌, append_assoc, arith, inr, length-append}
use Rattle.std.specs.Prelude.{MatchOption, IfSome, IfOk, ◌==◌, nat_le, if◌then◌else◌}
use Rattle.std.proofs.lemmas.Bool.{leb-false}
use Rattle.std.proofs.lemmas.List.{append-nil, nil_from_length}
use Rattle.std.proofs.KnownBytes.{Consumes-nil, Consumes-trans}
use Rattle.std.specs.Io.KnownBytes.{Consumes, IsAtEnd}
use Rattle.kc_types.specs.Limits.{byte_limit, call_limit}
use Rattle.kc_trace.specs.declared.header.Header.{Header}
use Rattle.kc_trace.specs.declared.head_reader.NextLine.{NextLine}
use Rattle.kc_trace.specs.declared.head_reader.NextLine.TheVariants.{More, Whole}
use Rattle.kc_types.specs.declared.call.Call.{Call}
use Rattle.kc_texts.specs.Ends.{ReadFailed}
use Rattle.kc_trace.specs.declared.fault.TraceFault.{TraceFault}
use Rattle.kc_trace.specs.declared.fault.TraceFault.TheVariants.{NoHeader, BadLine, NoNewline, TooManyCalls, Misplaced, Memory}
use Rattle.kc_trace.specs.Trace.{IsTraceUnder, IsRefused}
use Rattle.kc_trace.specs.Machine.{◌>>=◌, Progress, Reader, Fails, start, longer, next_of_line, may_begin, call_in, after_line, begun_by, begun, after_header, line_ended_by, line_ended, with_front, fed_byte, feed, fed, fed_after, nothing_begun, ended, reading}
use Rattle.kc_trace.proofs.Runs.{feed_nothing, feed-append, and_then_feed, header_stays, headless as headless_calls}
use Rattle.kc_trace.proofs.Traces.{Reads, reading_reads, read_under}
use Rattle.kc_texts.specs.Streamed.{Streamed, answer, HasRead, GoesOn}

fed_ok : (fault : Option TraceFault) (p q : Progress) (bytes piece : List ℕ) (calls more : List Call) → feed start bytes ≡ answer fault p calls → fed_after fault p piece ≡ Ok (q, more) → feed start (bytes ++ piece) ≡ Ok (q, calls ++ more)
fed_ok None p q bytes piece calls more h e =
    feed-append bytes piece start ∙ ap (and_then_feed piece) h ∙ ap (with_front calls) e
fed_ok (Some f) p q bytes piece calls more h e = absurd cc

fed_err : (fault : Option TraceFault) (p : Progress) (bytes piece : List ℕ) (calls : List Call) (f : TraceFault) → feed start bytes ≡ answer fault p calls → fed_after fault p piece ≡ Err f → feed start (bytes ++ piece) ≡ Err f
fed_err None p bytes piece calls f h e =
    feed-append bytes piece start ∙ ap (and_then_feed piece) h ∙ ap (with_front calls) e
fed_err (Some g) p bytes piece calls f h e = feed-append bytes piece start ∙ ap (and_then_feed piece) h ∙ e

fails_is : (e : TraceFault) (read : Result (Progress × List Call) TraceFault) → (e ≡ Memory → ⊥) → Fails e read → read ≡ Err e
fails_is NoHeader read other h = h
fails_is (BadLine n) read other h = h
fails_is NoNewline read other h = h
fails_is TooManyCalls read other h = h
fails_is (Misplaced wrong) read other h = h
fails_is Memory read other h = absurd (other refl)

-- ---- how many calls came

-- after this many bytes the calls are counted, and there are not too many of them
abbrev Counts : Progress → Progress × List Call → Type 0
Counts p read = (read.0.calls ≡ p.calls + length read.1) × (read.0.calls ≤ call_limit)

line_counts : (header : Header) (p : Progress) (found : Option Call) → p.calls < call_limit → IfOk (after_line header p found) (Counts p)
line_counts header p None lt = tt
line_counts header p (Some call) lt = (refl, omega (arith, lt))

begun_counts : (header : Option Header) (p : Progress) → p.calls ≤ call_limit → IfOk (begun_by header p) (Counts p)
begun_counts None p le = by_test (may_begin p.head p.line)
  where
    by_test : (b : Bool) → IfOk (if b then Ok (p, []) else Err NoHeader) (Counts p)
    by_test true = (omega arith, le)
    by_test false = tt
begun_counts (Some header) p le = by_test (nat_le call_limit p.calls)
  where
    by_test : (b : Bool) → IfOk (if b then Err TooManyCalls else Ok (p, [])) (Counts p)
    by_test true = tt
    by_test false = (omega arith, le)

ended_counts : (header : Option Header) (p : Progress) → p.calls ≤ call_limit → IfOk (line_ended_by header p) (Counts p)
ended_counts None p le = by_next (next_of_line p.head p.line)
  where
    by_next : (found : Option NextLine) → IfOk (after_header p found) (Counts p)
    by_next None = tt
    by_next (Some (More head)) = (omega arith, le)
    by_next (Some (Whole header)) = (omega arith, le)
ended_counts (Some header) p le = by_test (nat_le call_limit p.calls) refl
  where
    by_test : (b : Bool) → nat_le call_limit p.calls ≡ b → IfOk (if b then Err TooManyCalls else after_line header p (call_in header p.line)) (Counts p)
    by_test true h = tt
    by_test false h = line_counts header p (call_in header p.line) (leb-false call_limit p.calls h)

rest_counts : (p p1 : Progress) (new : List Call) (rest : Result (Progress × List Call) TraceFault) → Counts p (p1, new) → IfOk rest (Counts p1) → IfOk (rest >>= λ others. Ok (others.0, new ++ others.1)) (Counts p)
rest_counts p p1 new (Err f) one more = tt
rest_counts p p1 new (Ok (p2, calls)) one more = (omega (arith, one.0, more.0, length-append new calls), more.1)

byte_counts : (byte : ℕ) (p : Progress) → p.calls ≤ call_limit → IfOk (fed_byte p byte) (Counts p)
byte_counts byte p le = by_newline (byte == 10)
  where
    by_newline : (b : Bool) → IfOk (if b then line_ended (longer p []) else begun (longer p (byte ∷ []))) (Counts p)
    by_newline true = ended_counts p.header (longer p []) le
    by_newline false = begun_counts p.header (longer p (byte ∷ [])) le

first_counts : (p : Progress) (bytes : List ℕ) (first : Result (Progress × List Call) TraceFault) → IfOk first (Counts p) → ((p1 : Progress) → p1.calls ≤ call_limit → IfOk (feed p1 bytes) (Counts p1)) → IfOk (and_then_feed bytes first) (Counts p)
first_counts p bytes (Err f) one more = tt
first_counts p bytes (Ok (p1, new)) one more = rest_counts p p1 new (feed p1 bytes) one (more p1 one.1)

feed_counts : (bytes : List ℕ) (p : Progress) → p.calls ≤ call_limit → IfOk (feed p bytes) (Counts p)
unfolding feed
feed_counts [] p le = (omega arith, le)
feed_counts (byte ∷ bytes) p le = first_counts p bytes (fed_byte p byte) (byte_counts byte p le) (λ p1 le1. feed_counts bytes p1 le1)

-- ---- one more piece

has_read_ok : (stream after : Streamed) (bytes piece : List ℕ) (calls more : List Call) (n : ℕ) (first mid now : Option (List ℕ)) → HasRead stream bytes calls first mid → Consumes mid now piece → fed stream.reader piece ≡ Ok (after.reader.progress, more) → after.reader.fault ≡ None → length piece ≡ n → after.total ≡ stream.total + n
    → HasRead after (bytes ++ piece) (calls ++ more) first now
has_read_ok stream after bytes piece calls more n first mid now h more_read told none len total =
    let so_far = fed_ok stream.reader.fault stream.reader.progress after.reader.progress bytes piece calls more h.so_far told in
    let counted : Counts start (after.reader.progress, calls ++ more) = rw so_far at (feed_counts (bytes ++ piece) start (omega arith)) in
    record {
      so_far = rw none so_far;
      consumed = Consumes-trans first mid now bytes piece h.consumed more_read;
      many = omega (arith, length-append bytes piece, h.many, len, total);
      few = omega (arith, counted.0, counted.1);
      headless = λ no. (headless_calls (bytes ++ piece) start (after.reader.progress, calls ++ more) so_far no).1;
    }

has_read_err : (stream after : Streamed) (bytes piece : List ℕ) (calls : List Call) (f : TraceFault) (n : ℕ) (first mid now : Option (List ℕ)) → HasRead stream bytes calls first mid → Consumes mid now piece → Fails f (fed stream.reader piece) → (f ≡ Memory → ⊥) → after.reader.fault ≡ Some f → length piece ≡ n → after.total ≡ stream.total + n → after.reader.progress ≡ stream.reader.progress
    → HasRead after (bytes ++ piece) calls first now
has_read_err stream after bytes piece calls f n first mid now h more_read told other some len total kept = record {
  so_far = rw some (fed_err stream.reader.fault stream.reader.progress bytes piece calls f h.so_far (fails_is f (fed stream.reader piece) other told));
  consumed = Consumes-trans first mid now bytes piece h.consumed more_read;
  many = omega (arith, length-append bytes piece, h.many, len, total);
  few = h.few;
  headless = λ no. h.headless (sym (ap (λ (p : Progress). p.header) kept) ∙ no);
}

-- ---- going on

pub stays : (stream : Streamed) (left : Option (List ℕ)) → GoesOn stream stream left left []
stays stream left bytes calls first h = ([], rw (append-nil bytes, append-nil calls) h)

pub goes_on_ok : (before stream after : Streamed) (piece : List ℕ) (given more all : List Call) (n : ℕ) (left mid now : Option (List ℕ)) → GoesOn before stream left mid given → Consumes mid now piece → fed stream.reader piece ≡ Ok (after.reader.progress, more) → after.reader.fault ≡ None → length piece ≡ n → after.total ≡ stream.total + n → all ≡ given ++ more
    → GoesOn before after left now all
goes_on_ok before stream after piece given more all n left mid now on more_read told none len total grown bytes calls first h =
    let earlier = on bytes calls first h in
    (earlier.0 ++ piece, rw (grown, ← append_assoc bytes earlier.0 piece, ← append_assoc calls given more) (has_read_ok stream after (bytes ++ earlier.0) piece (calls ++ given) more n first mid now earlier.1 more_read told none len total))

pub goes_on_err : (before stream after : Streamed) (piece : List ℕ) (given : List Call) (f : TraceFault) (n : ℕ) (left mid now : Option (List ℕ)) → GoesOn before stream left mid given → Consumes mid now piece → Fails f (fed stream.reader piece) → (f ≡ Memory → ⊥) → after.reader.fault ≡ Some f → length piece ≡ n → after.total ≡ stream.total + n → after.reader.progress ≡ stream.reader.progress
    → GoesOn before after left now given
goes_on_err before stream after piece given f n left mid now on more_read told other some len total kept bytes calls first h =
    let earlier = on bytes calls first h in
    (earlier.0 ++ piece, rw (← append_assoc bytes earlier.0 piece) (has_read_err stream after (bytes ++ earlier.0) piece (calls ++ given) f n first mid now earlier.1 more_read told other some len total kept))

-- the last read moved no bytes
pub goes_on_nothing : (before after : Streamed) (piece : List ℕ) (given : List Call) (left mid now : Option (List ℕ)) → GoesOn before after left mid given → Consumes mid now piece → length piece ≡ 0 → GoesOn before after left now given
goes_on_nothing before after piece given left mid now on more_read none bytes calls first h =
    let earlier = on bytes calls first h in
    let empty : piece ≡ [] = nil_from_length piece none in
    let again : Consumes first now ((bytes ++ earlier.0) ++ []) = rw empty at (Consumes-trans first mid now (bytes ++ earlier.0) piece earlier.1.consumed more_read) in
    (earlier.0, record { so_far = earlier.1.so_far; consumed = rw (append-nil (bytes ++ earlier.0)) at again; many = earlier.1.many; few = earlier.1.few; headless = earlier.1.headless })

-- too many bytes came
pub too_many : (before stream : Streamed) (piece : List ℕ) (given : List Call) (n : ℕ) (failed : Bool) (left mid now : Option (List ℕ)) → GoesOn before stream left mid given → Consumes mid now piece → length piece ≡ n → byte_limit < stream.total + n
    → (bytes : List ℕ) (calls : List Call) (first : Option (List ℕ)) → HasRead before bytes calls first left → ReadFailed failed first now
too_many before stream piece given n failed left mid now on more_read len past bytes calls first h =
    let earlier = on bytes calls first h in
    inr ((bytes ++ earlier.0) ++ piece, Consumes-trans first mid now (bytes ++ earlier.0) piece earlier.1.consumed more_read, omega (arith, length-append (bytes ++ earlier.0) piece, earlier.1.many, len))

-- the header stays while more is read
pub header_kept : (reader : Reader) (p : Progress) (piece : List ℕ) (more : List Call) (header : Header) → reader.progress.header ≡ Some header → fed reader piece ≡ Ok (p, more) → p.header ≡ Some header
header_kept reader p piece more header is e = by_fault reader.fault e
  where
    by_fault : (fault : Option TraceFault) → fed_after fault reader.progress piece ≡ Ok (p, more) → p.header ≡ Some header
    by_fault None e = header_stays piece reader.progress header (p, more) is e
    by_fault (Some f) e = absurd cc

-- ---- at the end

all_read : (first now : Option (List ℕ)) (bytes : List ℕ) → Consumes first now bytes → IsAtEnd now → IfSome first (λ text. text ≡ bytes)
all_read None now bytes p end = tt
all_read (Some a) None bytes p end = absurd p
all_read (Some a) (Some b) bytes p end = p ∙ ap (λ (t : List ℕ). bytes ++ t) end ∙ append-nil bytes

reading_of : (text : List ℕ) (fault : Option TraceFault) (p : Progress) (calls : List Call) (r : Result Header TraceFault) → feed start text ≡ answer fault p calls → MatchOption fault (r ≡ ended p.header p.line) (λ f. r ≡ Err f) → reading text ≡ (r >>= λ e. Ok calls)
unfolding reading
reading_of text None p calls r h e = rw (h, e) refl
reading_of text (Some f) p calls r h e = rw (h, e) refl

-- a reader ends so
abbrev Finishes : Streamed → Result Header TraceFault → Type 0
Finishes stream result = MatchOption stream.reader.fault (result ≡ ended stream.reader.progress.header stream.reader.progress.line) (λ f. result ≡ Err f)

header_is : (found : Option Header) (line : Option (List ℕ)) (header : Header) → Ok header ≡ ended found line → (found ≡ Some header) × (ended (Some header) line ≡ Ok header)
header_is None line header e = absurd cc
header_is (Some other) line header e = by_end (nothing_begun line) e
  where
    by_end : (end : Result (Unit {0}) TraceFault) → Ok header ≡ (end >>= λ u. Ok other) → (Some other ≡ Some header) × ((end >>= λ u. Ok header) ≡ Ok header)
    by_end (Ok u) e = (cc, refl)
    by_end (Err f) e = absurd cc

-- what was read is the trace under the header that was read
under : (text : List ℕ) (fault : Option TraceFault) (p : Progress) (calls : List Call) (header : Header) → feed start text ≡ answer fault p calls → MatchOption fault (Ok header ≡ ended p.header p.line) (λ f. Ok header ≡ Err f) → IsTraceUnder header text calls
under text None p calls header h e = let is = header_is p.header p.line header e in read_under text header (p, calls) h is.0 is.1
under text (Some f) p calls header h e = absurd cc

pub ends_a_trace : (stream : Streamed) (result : Result Header TraceFault) → Finishes stream result
    → IfOk result (λ header. (bytes : List ℕ) (calls : List Call) (first now : Option (List ℕ)) → HasRead stream bytes calls first now → IsAtEnd now → IfSome first (λ text. IsTraceUnder header text calls))
ends_a_trace stream (Ok header) e = λ bytes calls first now h end. by_first bytes calls first now h end
  where
    by_first : (bytes : List ℕ) (calls : List Call) (first now : Option (List ℕ)) → HasRead stream bytes calls first now → IsAtEnd now → IfSome first (λ text. IsTraceUnder header text calls)
    by_first bytes calls None now h end = tt
    by_first bytes calls (Some text) now h end =
        let same : text ≡ bytes = all_read (Some text) now bytes h.consumed end in
        rw same (under bytes stream.reader.fault stream.reader.progress calls header h.so_far e)
ends_a_trace stream (Err f) e = tt

pub ends_with : (stream : Streamed) (result : Result Header TraceFault) → Finishes stream result → IfOk result (λ header. stream.reader.progress.header ≡ Some header)
ends_with stream (Ok header) e = by_fault stream.reader.fault e
  where
    by_fault : (fault : Option TraceFault) → MatchOption fault (Ok header ≡ ended stream.reader.progress.header stream.reader.progress.line) (λ f. Ok header ≡ Err f) → stream.reader.progress.header ≡ Some header
    by_fault None e = (header_is stream.reader.progress.header stream.reader.progress.line header e).0
    by_fault (Some f) e = absurd cc
ends_with stream (Err f) e = tt

pub ends_refused : (stream : Streamed) (result : Result Header TraceFault) (fault : TraceFault) → Finishes stream result → result ≡ Err fault
    → (bytes : List ℕ) (calls : List Call) (first now : Option (List ℕ)) → HasRead stream bytes calls first now → IsAtEnd now → IfSome first (λ text. IsRefused text fault)
ends_refused stream result fault e is bytes calls None now h end = tt
ends_refused stream result fault e is bytes calls (Some text) now h end =
    let same : text ≡ bytes = all_read (Some text) now bytes h.consumed end in
    let read : reading bytes ≡ Err fault = rw is at (reading_of bytes stream.reader.fault stream.reader.progress calls result h.so_far e) in
    let refused : Reads bytes (Err fault) = rw read at (reading_reads bytes) in
    rw same refused

pub in_front : (stream : Streamed) (first : Option (List ℕ)) → stream.reader ≡ record { progress = start; fault = None } → stream.total ≡ 0 → HasRead stream [] [] first first
in_front stream first reader none = record { so_far = rw reader (feed_nothing start); consumed = Consumes-nil first; many = omega (arith, none); few = omega arith; headless = λ no. refl }

pub few_bytes : (stream : Streamed) (bytes : List ℕ) (calls : List Call) (first now : Option (List ℕ)) → HasRead stream bytes calls first now → IsAtEnd now → stream.total ≤ byte_limit → IfSome first (λ text. length text ≤ byte_limit)
few_bytes stream bytes calls None now h end few = tt
few_bytes stream bytes calls (Some text) now h end few =
    let same : text ≡ bytes = all_read (Some text) now bytes h.consumed end in
    rw same (omega (arith, h.many, few))
