-- A trace that has no head is given one.
use Rattle.std.proofs.Common.{ℕ, zero, suc, ◌≡◌, ◌≢◌, ◌<◌, ◌+◌, ◌^◌, Bool, true, false, All, List, [], ◌∷◌, ◌++◌, length, take, get_or, Option, Some, None, Result, Err, inl, inr, refl, sym, ap, subst, ◌∙◌, append_assoc, arith}
use Rattle.std.specs.Prelude.{IfOk, IfErr, IfSome, nat_lt, if◌then◌else◌}
use Rattle.std.specs.List.{AllByRecursion}
use Rattle.std.specs.Io.KnownBytes.{Appends, Consumes, IsAtEnd}
use Rattle.std.specs.Int.{to_be_bytes, w32}
use Rattle.std.proofs.lemmas.Bool.{cases_lt, ltb-true}
use Rattle.std.proofs.lemmas.List.{take_all, take_more, append-nil}
use Rattle.std.proofs.lemmas.Grind.{flat_map-append}
use Rattle.std.proofs.lemmas.List.Concat.{flat_map-cons}
use Rattle.std.proofs.lemmas.List.Elements.{All-nil, All-append}
use Rattle.std.proofs.Math.Seq.{take-append-add, take-append-le}
use Rattle.std.proofs.KnownBytes.{Appends-trans}
use Rattle.sha2.specs.Sha256.{sha256, digest_bytes}
use Rattle.sha2.proofs.Facts256.{length-sha256}
use Rattle.kc_types.specs.Configuration.{Configuration, IsConfiguration}
use Rattle.kc_types.specs.declared.call.Call.{Call}
use Rattle.kc_model.specs.Volumes.{IsDigest}
use Rattle.kc_config_text.proofs.Approved.{approved_are}
use Rattle.kc_remarks.specs.declared.denials.Denials.{Denials}
use Rattle.kc_trace.specs.declared.header.Head.{Head}
use Rattle.kc_trace.specs.declared.header.Header.{Header}
use Rattle.kc_trace.specs.declared.header.Header.TheVariants.{One, Two, Three}
use Rattle.kc_trace.specs.declared.header.Position.{Position}
use Rattle.kc_trace.specs.declared.header.Position.TheVariants.{First, Later}
use Rattle.kc_trace.specs.declared.expected.HeaderFault.{HeaderFault}
use Rattle.kc_trace.specs.declared.fault.TraceFault.{TraceFault}
use Rattle.kc_trace.specs.declared.fault.TraceFault.TheVariants.{NoHeader, BadLine, NoNewline, TooManyCalls, Misplaced, Memory}
use Rattle.kc_trace.specs.Header.{IsHead, IsPosition, trace_header}
use Rattle.kc_trace.specs.declared.expected.Expected.TheVariants.{After, AfterNumber}
use Rattle.kc_trace.specs.Expected.{MayHave, number_of, position_after}
use Rattle.kc_trace.specs.Spelling.{line_of, lines_of, text_of}
use Rattle.kc_trace.specs.Trace.{AreCalls, IsTraceUnder, IsRefused}
use Rattle.kc_texts.specs.Ends.{Seen, ReadFailed, HasFailedRead, HasFailed}
use Rattle.kc_texts.specs.Written.{Writes, Begins}
use Rattle.kc_faults.specs.declared.fault.TextFault.{TextFault}
use Rattle.kc_faults.specs.declared.fault.TextFault.TheVariants as texts
use Rattle.kc_faults.specs.Outcomes.{TellsSink}
use Rattle.kc_faults.specs.Origins.{SpellsMachine}
use Rattle.kc_cli.specs.Traced.{trace_digest_of, position_next}
use Rattle.kc_cli.proofs.Sources.{sink_err}
use Rattle.kc_redact_text.specs.Reading.{IsHeaderAndCalls, IsReadingFault}
use Rattle.kc_redact_text.specs.declared.convert.Converted.{Converted}
use Rattle.kc_redact_text.specs.Converts.{volume_of, IsFirstHead, IsHeadAfter, IsNextOf, IsUnderHead, IsFirstVolume, IsNextVolume, AreLines, TookUnder, BegunUnder, IsRefusedBare, IsRefusedLast, IsLast, why_last, IsConversion, volume_refused, trace_refused, IsSystemFault, IsUnderFault}

-- ---- digests

word_is_bytes : (n : ℕ) → All (λ b. b < 256) (to_be_bytes w32 n)
word_is_bytes n zero d lt = omega arith
word_is_bytes n (suc zero) d lt = omega arith
word_is_bytes n (suc (suc zero)) d lt = omega arith
word_is_bytes n (suc (suc (suc zero))) d lt = omega arith
word_is_bytes n (suc (suc (suc (suc k)))) d lt = absurd (omega (arith, lt))

words_are_bytes : (words : List ℕ) (n : ℕ) → All (λ b. b < 256) (digest_bytes words n)
unfolding digest_bytes
words_are_bytes words zero = All-nil (λ b. b < 256)
words_are_bytes words (suc n) = All-append (λ b. b < 256) (digest_bytes words n) _ (words_are_bytes words n) (word_is_bytes _)

digest_is : (message : List ℕ) → IsDigest (sha256 message)
unfolding sha256
digest_is message = record { long = length-sha256 message; each = words_are_bytes _ 8 }

are_digests : (digests : List (List ℕ)) → AllByRecursion (λ digest. (length digest ≡ 32) × All (λ b. b < 256) digest) digests → AllByRecursion IsDigest digests
are_digests [] are = tt
are_digests (digest ∷ digests) are = (record { long = are.0.0; each = are.0.1 }, are_digests digests are.1)

-- ---- the head of a first volume

spelled_digests : (text : List ℕ) (config : Configuration) → SpellsMachine text config → AllByRecursion IsDigest config.approved
spelled_digests text config (inl is) = are_digests config.approved (approved_are text config is)
spelled_digests text config (inr is) = subst (λ (c : Configuration). AllByRecursion IsDigest c.approved) (sym is.3) is.1.digests

pub first_is : (source : Option (List ℕ)) (config : Configuration) → IfSome source (λ text. SpellsMachine text config) → IsConfiguration config → IfSome source (λ text. IsFirstHead text (record { config = config; position = First; is_host_redacted = false }))
first_is None config said kept = tt
first_is (Some text) config said kept = record { machine = said; first = refl; whole = refl; valid = record { config = kept; digests = spelled_digests text config said; position = tt } }

-- ---- the digest of a redacted trace

-- the line of one call more
pub hashed_more : (bytes : List ℕ) (calls : List Call) (call : Call) (n : ℕ) → n < length calls → call ≡ get_or calls n call → (bytes ++ lines_of (take n calls)) ++ (line_of call ++ 10 ∷ []) ≡ bytes ++ lines_of (take (n + 1) calls)
hashed_more bytes calls call n lt is =
    let line = λ (one : Call). line_of one ++ 10 ∷ [] in
    let more : lines_of (take (n + 1) calls) ≡ lines_of (take n calls) ++ (line_of call ++ 10 ∷ []) =
    ap lines_of (take_more calls n call lt) ∙ flat_map-append line (take n calls) (get_or calls n call ∷ [])
    ∙ ap (λ (t : List ℕ). lines_of (take n calls) ++ t) (flat_map-cons line (get_or calls n call) [] ∙ append-nil (line (get_or calls n call)) ∙ ap line (sym is)) in
    append_assoc bytes (lines_of (take n calls)) (line_of call ++ 10 ∷ []) ∙ ap (λ (t : List ℕ). bytes ++ t) (sym more)

-- ---- the head after a volume

placed_after : (last : Head) (digest : List ℕ) (place : Position) → position_after (Three last) (Some digest) ≡ Some place
    → (place ≡ Later (number_of last.position + 1) digest) × (number_of last.position + 1 < 2 ^ 32) × (last.is_host_redacted ≡ false)
placed_after last digest place e = by_flag last.is_host_redacted _ refl e
  where
    by_flag : (flag fits : Bool) → nat_lt (number_of last.position + 1) (2 ^ 32) ≡ fits → (if flag then None else (if fits then Some (Later (number_of last.position + 1) digest) else None)) ≡ Some place
        → (place ≡ Later (number_of last.position + 1) digest) × (number_of last.position + 1 < 2 ^ 32) × (flag ≡ false)
    by_flag true fits is e = absurd cc
    by_flag false true is e = ((let same : Later (number_of last.position + 1) digest ≡ place = cc in sym same), ltb-true _ _ is, refl)
    by_flag false false is e = absurd cc

place_is : (place : Position) (digest : List ℕ) → IsPosition place → number_of place + 1 < 2 ^ 32 → IsDigest digest → IsPosition (Later (number_of place + 1) digest)
place_is First digest is few whole = (omega arith, omega arith, whole)
place_is (Later number after) digest is few whole = (omega (arith, is.0), few, whole)

valid_after : (last head : Head) (message : List ℕ) → IsHead last → head.config ≡ last.config → (head.position ≡ Later (number_of last.position + 1) (sha256 message)) × (number_of last.position + 1 < 2 ^ 32) → IsHead head
valid_after last head message is machine place = record {
  config = subst IsConfiguration (sym machine) is.config;
  digests = subst (λ (c : Configuration). AllByRecursion IsDigest c.approved) (sym machine) is.digests;
  position = subst IsPosition (sym place.0) (place_is last.position (sha256 message) is.position place.1 (digest_is message));
}

digest_named : (text : List ℕ) (last : Head) (kept : List Call) (denials : Denials) (digest : List ℕ) (read : IsHeaderAndCalls None text (Three last) kept denials) → digest ≡ sha256 (text_of (Three last) kept) → digest ≡ trace_digest_of (volume_of last read.calls)
digest_named text last kept denials digest read is = is ∙ ap (λ (calls : List Call). sha256 (text_of (Three last) calls)) read.redacted

-- it is the one that is expected there
may_follow : (config : Configuration) (number : ℕ) (digest : List ℕ) (head : Head) (flag : Bool) → flag ≡ false → config ≡ head.config → head.position ≡ Later (number + 1) digest → MayHave config (if flag then AfterNumber number else After number digest) (Three head)
may_follow config number digest head false is machine place = (machine, place)
may_follow config number digest head true is machine place = absurd cc

after_is : (text : List ℕ) (header : Header) (kept : List Call) (denials : Denials) (digest : List ℕ) (head : Head) → IsHeaderAndCalls None text header kept denials → digest ≡ sha256 (text_of header kept) → IsNextOf header digest head → IsHeadAfter text head
after_is text One kept denials digest head read is next = absurd next
after_is text Two kept denials digest head read is next = absurd next
after_is text (Three last) kept denials digest head read is next =
    let named = digest_named text last kept denials digest read is in
    let place : position_next (volume_of last read.calls) ≡ Some head.position = ap (λ (d : List ℕ). position_after (Three last) (Some d)) (sym named) ∙ next.1 in
    let there = placed_after last (trace_digest_of (volume_of last read.calls)) head.position place in
    record {
      last = last;
      calls = read.calls;
      read = read.read;
      machine = next.0;
      place = place;
      whole = next.2;
      valid = valid_after last head _ read.read.valid next.0 (there.0, there.1);
      follows = may_follow last.config (number_of last.position) (trace_digest_of (volume_of last read.calls)) head last.is_host_redacted there.2 (sym next.0) there.0;
    }

pub next_is : (source : Option (List ℕ)) (header : Header) (kept : List Call) (denials : Denials) (digest : List ℕ) (head : Head) → IfSome source (λ text. IsHeaderAndCalls None text header kept denials) → digest ≡ sha256 (text_of header kept) → IsNextOf header digest head
    → IfSome source (λ text. IsHeadAfter text head)
next_is None header kept denials digest head read is next = tt
next_is (Some text) header kept denials digest head read is next = after_is text header kept denials digest head read is next

none_after : (text : List ℕ) (header : Header) (kept : List Call) (denials : Denials) (digest : List ℕ) (read : IsHeaderAndCalls None text header kept denials) → digest ≡ sha256 (text_of header kept) → position_after header (Some digest) ≡ None → position_next (record { header = header; calls = read.calls }) ≡ None
none_after text One kept denials digest read is none = refl
none_after text Two kept denials digest read is none = refl
none_after text (Three last) kept denials digest read is none = ap (λ (d : List ℕ). position_after (Three last) (Some d)) (sym (digest_named text last kept denials digest read is)) ∙ none

pub last_is : (source : Option (List ℕ)) (header : Header) (kept : List Call) (denials : Denials) (digest : List ℕ) (wrong : HeaderFault) → IfSome source (λ text. IsHeaderAndCalls None text header kept denials) → digest ≡ sha256 (text_of header kept) → position_after header (Some digest) ≡ None → wrong ≡ why_last header
    → IfSome source (λ text. IsLast text wrong)
last_is None header kept denials digest wrong read is none why = tt
last_is (Some text) header kept denials digest wrong read is none why = (header, read.calls, read.read, none_after text header kept denials digest read is none, why)

refused_last : (text : List ℕ) (fault : TraceFault) → IsRefused text fault → IsRefusedLast text fault
refused_last text NoHeader h = h
refused_last text (BadLine n) h = h
refused_last text NoNewline h = h
refused_last text TooManyCalls h = h
refused_last text (Misplaced wrong) h = absurd h
refused_last text Memory h = h

pub all_refused_last : (source : Option (List ℕ)) (fault : TraceFault) → IfSome source (λ text. IsRefused text fault) → IfSome source (λ text. IsRefusedLast text fault)
all_refused_last None fault h = tt
all_refused_last (Some text) fault h = refused_last text fault h

-- ---- the lines after a header

-- the digit in the first line of a header
abbrev digit_of : Header → ℕ
digit_of One = 49
digit_of Two = 50
digit_of (Three head) = 51

digit_is : (header : Header) (rest : List ℕ) → get_or (trace_header header ++ rest) 12 0 ≡ digit_of header
digit_is One rest = refl
digit_is Two rest = refl
digit_is (Three head) rest = refl

same_digit : (text : List ℕ) (one other : Header) (rest more : List ℕ) → text ≡ trace_header one ++ rest → text ≡ trace_header other ++ more → digit_of one ≡ digit_of other
same_digit text one other rest more a b = sym (digit_is one rest) ∙ ap (λ (t : List ℕ). get_or t 12 0) (sym a ∙ b) ∙ digit_is other more

headed : (head : Head) (header : Header) (text lines : List ℕ) (calls : List Call) → text ≡ trace_header (Three head) ++ lines → IsTraceUnder header text calls → (h : Head) × (c : List Call) × IsTraceUnder (Three h) text c
headed head (Three other) text lines calls e read = (other, calls, read)
headed head One text lines calls e read = absurd (let never = same_digit text (Three head) One lines (lines_of calls) e read.whole in omega (arith, never))
headed head Two text lines calls e read = absurd (let never = same_digit text (Three head) Two lines (lines_of calls) e read.whole in omega (arith, never))

refused_bare : (text : List ℕ) (fault : TraceFault) → IsRefused text fault → IsRefusedBare text fault
refused_bare text NoHeader h = h
refused_bare text (BadLine n) h = h
refused_bare text NoNewline h = h
refused_bare text TooManyCalls h = h
refused_bare text (Misplaced wrong) h = absurd h
refused_bare text Memory h = h

pub judged_bare : (text : List ℕ) (fault : TraceFault) → IsRefused text fault → IsRefusedBare text fault
judged_bare text fault h = refused_bare text fault h

-- ---- two texts, one after the other

pub first_cut : (first second : List ℕ) (old new : Option (List ℕ)) → ((n : ℕ) × Appends old new (take n first)) → (m : ℕ) × Appends old new (take m (first ++ second))
first_cut first second old new cut =
    elim (cases_lt (length first) cut.0) [
      | inl past ↦ (length first, (let whole : take cut.0 first ≡ take (length first) (first ++ second) = rw (take_all cut.0 first (omega arith), take-append-le (length first) first second (omega arith), take_all (length first) first (omega arith)) refl in rw (← whole) cut.1))
      | inr le ↦ (cut.0, rw (take-append-le cut.0 first second le) cut.1)
    ]

pub second_cut : (first second : List ℕ) (old mid new : Option (List ℕ)) → Appends old mid first → ((n : ℕ) × Appends mid new (take n second)) → (m : ℕ) × Appends old new (take m (first ++ second))
second_cut first second old mid new whole cut = (length first + cut.0, rw (take-append-add first second cut.0) (Appends-trans old mid new first (take cut.0 second) whole cut.1))

-- ---- what is written

pub took_under : (head : Head) (source now : Option (List ℕ)) (bytes lines : List ℕ) (old new : Option (List ℕ)) → Consumes source now bytes → IsAtEnd now → AreLines bytes lines → Appends old new (trace_header (Three head) ++ lines) → TookUnder head source old new
took_under head None now bytes lines old new read end are given = tt
took_under head (Some text) None bytes lines old new read end are given = absurd read
took_under head (Some text) (Some rest) bytes lines old new read end are given =
    let same : text ≡ bytes = read ∙ ap (λ (more : List ℕ). bytes ++ more) end ∙ append-nil bytes in
    (lines, subst (λ (t : List ℕ). AreLines t lines) (sym same) are, given)

pub begun_under : (head : Head) (source now : Option (List ℕ)) (bytes lines : List ℕ) (old new : Option (List ℕ)) → Consumes source now bytes → IsAtEnd now → AreLines bytes lines → ((n : ℕ) × Appends old new (take n (trace_header (Three head) ++ lines))) → BegunUnder head source old new
begun_under head None now bytes lines old new read end are cut = tt
begun_under head (Some text) None bytes lines old new read end are cut = absurd read
begun_under head (Some text) (Some rest) bytes lines old new read end are cut =
    let same : text ≡ bytes = read ∙ ap (λ (more : List ℕ). bytes ++ more) end ∙ append-nil bytes in
    (lines, cut.0, subst (λ (t : List ℕ). AreLines t lines) (sym same) are, cut.1)

calls_under : (header : Header) (head : Head) (calls : List Call) → AreCalls header calls → AreCalls (Three head) calls
calls_under header head [] are = tt
calls_under header head (call ∷ calls) are = ((are.0.0, refl), calls_under header head calls are.1)

under : (head : Head) (text lines : List ℕ) → IsHead head → AreLines text lines → IsUnderHead head text (trace_header (Three head) ++ lines)
under head text lines valid are =
    let read = are.1.2 in (
      are.0,
      are.1,
      record {
        valid = valid;
        whole = ap (λ (rest : List ℕ). trace_header (Three head) ++ rest) are.2;
        each = calls_under are.1.0 head are.0 read.each;
        few = read.few;
      },
    )

pub writes_first : (start trace old new : Option (List ℕ)) (head : Head) → IfSome start (λ text. IsFirstHead text head) → TookUnder head trace old new → Writes IsFirstVolume start trace old new
writes_first None trace old new head first took = tt
writes_first (Some config) None old new head first took = tt
writes_first (Some config) (Some text) old new head first took = (_, (head, first, under head text took.0 first.valid took.1), took.2)

pub begins_first : (start trace old new : Option (List ℕ)) (head : Head) → IfSome start (λ text. IsFirstHead text head) → BegunUnder head trace old new → Begins IsFirstVolume start trace old new
begins_first None trace old new head first took = tt
begins_first (Some config) None old new head first took = tt
begins_first (Some config) (Some text) old new head first took = (_, took.1, (head, first, under head text took.0 first.valid took.2), took.3)

pub writes_next : (before trace old new : Option (List ℕ)) (head : Head) → IfSome before (λ text. IsHeadAfter text head) → TookUnder head trace old new → Writes IsNextVolume before trace old new
writes_next None trace old new head next took = tt
writes_next (Some volume) None old new head next took = tt
writes_next (Some volume) (Some text) old new head next took = (_, (head, next, under head text took.0 next.valid took.1), took.2)

pub begins_next : (before trace old new : Option (List ℕ)) (head : Head) → IfSome before (λ text. IsHeadAfter text head) → BegunUnder head trace old new → Begins IsNextVolume before trace old new
begins_next None trace old new head next took = tt
begins_next (Some volume) None old new head next took = tt
begins_next (Some volume) (Some text) old new head next took = (_, took.1, (head, next, under head text took.0 next.valid took.2), took.3)

-- a volume comes after it
pub some_after : (source : Option (List ℕ)) (head : Head) → IfSome source (λ text. IsHeadAfter text head) → IfSome source (λ text. (next : Head) × IsHeadAfter text next)
some_after None head h = tt
some_after (Some text) head h = (head, h)

-- ---- how a conversion after a volume ends

-- the clauses of its contract
pub record Told (before trace : Seen) (old new : Option (List ℕ)) (out : Bool) (unread untouched : Type 0) (r : Result Converted TextFault) : Type 0 where
  pub ok : IfOk r (IsConversion before trace old new unread untouched)
  pub read : r ≡ Err texts.Read → HasFailedRead (before ∷ trace ∷ [])
  pub failed : HasFailed (before ∷ trace ∷ []) → r ≡ Err texts.Read
  pub sink : TellsSink out (Begins IsNextVolume before.had trace.had old new) untouched r
  pub others : IfErr r IsSystemFault

-- a fault of the volume before; nothing was read of the trace, and nothing written
pub record VolumeFails (before trace : Seen) (out : Bool) (unread untouched : Type 0) (f : TextFault) : Type 0 where
  pub trace_is : (said : TraceFault) → f ≡ texts.Trace said → IfSome before.had (λ text. IsRefusedLast text said) × IsAtEnd before.has
  pub read : f ≡ texts.Read → ReadFailed before.failed before.had before.has
  pub failed : before.failed ≡ true → f ≡ texts.Read
  pub whole : trace.failed ≡ false
  pub ready : out ≡ false
  pub unread_is : unread
  pub untouched_is : untouched

volume_failed : (before trace : Seen) (old new : Option (List ℕ)) (out : Bool) (unread untouched : Type 0) (f : TextFault) → VolumeFails before trace out unread untouched f → IsSystemFault f → f ≢ texts.Write → Told before trace old new out unread untouched (Err f)
volume_failed before trace old new out unread untouched f h system other = record {
  ok = tt;
  read = λ e. inl (h.read (let same : f ≡ texts.Read = cc in same));
  failed = λ bad. elim bad [
    | inl is ↦ ap Err (h.failed is)
    | inr (inl is) ↦ absurd (let never : false ≡ true = sym h.whole ∙ is in cc)
    | inr (inr never) ↦ absurd never
  ];
  sink = record {
    write = λ e. absurd (other (let same : f ≡ texts.Write = cc in same));
    failed_is = λ bad. absurd (let never : false ≡ true = sym h.ready ∙ bad in cc);
    kept = inl h.untouched_is;
  };
  others = system;
}

pub volume_told : (before trace : Seen) (old new : Option (List ℕ)) (out : Bool) (unread untouched : Type 0) (f : TextFault) → VolumeFails before trace out unread untouched f → IsReadingFault f → Told before trace old new out unread untouched (volume_refused f)
volume_told before trace old new out unread untouched (texts.Trace said) h is =
    let refused = h.trace_is said refl in
    record {
      ok = (refused.0, refused.1, h.unread_is, h.untouched_is);
      read = λ e. absurd cc;
      failed = λ bad. elim bad [
        | inl failed ↦ (let never = h.failed failed in absurd cc)
        | inr (inl failed) ↦ absurd (let never : false ≡ true = sym h.whole ∙ failed in cc)
        | inr (inr never) ↦ absurd never
      ];
      sink = record { write = λ e. absurd cc; failed_is = λ bad. absurd (let never : false ≡ true = sym h.ready ∙ bad in cc); kept = tt };
      others = tt;
    }
volume_told before trace old new out unread untouched texts.Memory h is = volume_failed before trace old new out unread untouched texts.Memory h tt (λ e. cc)
volume_told before trace old new out unread untouched texts.Read h is = volume_failed before trace old new out unread untouched texts.Read h tt (λ e. cc)
volume_told before trace old new out unread untouched texts.Write h is = absurd is
volume_told before trace old new out unread untouched texts.Start h is = absurd is
volume_told before trace old new out unread untouched texts.Workers h is = absurd is
volume_told before trace old new out unread untouched texts.Unsettled h is = absurd is
volume_told before trace old new out unread untouched (texts.Config said) h is = absurd is
volume_told before trace old new out unread untouched (texts.Dump said) h is = absurd is
volume_told before trace old new out unread untouched (texts.State said) h is = absurd is
volume_told before trace old new out unread untouched (texts.BadActor program) h is = absurd is
volume_told before trace old new out unread untouched (texts.NoSlot slot) h is = absurd is
volume_told before trace old new out unread untouched texts.NoText h is = absurd is

-- a fault of the trace, or of writing it with the head that comes after the volume
pub record TraceFails (before trace : Seen) (old new : Option (List ℕ)) (out : Bool) (untouched : Type 0) (f : TextFault) : Type 0 where
  pub head : Head
  pub next : IfSome before.had (λ text. IsHeadAfter text head)
  pub before_whole : before.failed ≡ true → ⊥
  pub trace_is : (said : TraceFault) → f ≡ texts.Trace said → IfSome trace.had (λ text. IsRefusedBare text said) × IsAtEnd trace.has
  pub read : f ≡ texts.Read → ReadFailed trace.failed trace.had trace.has
  pub failed : trace.failed ≡ true → f ≡ texts.Read
  pub sink : TellsSink {A = Unit {0}} out (BegunUnder head trace.had old new) untouched (Err f)

trace_failed : (before trace : Seen) (old new : Option (List ℕ)) (out : Bool) (unread untouched : Type 0) (f : TextFault) → TraceFails before trace old new out untouched f → IsSystemFault f → Told before trace old new out unread untouched (Err f)
trace_failed before trace old new out unread untouched f h system = record {
  ok = tt;
  read = λ e. inr (inl (h.read (let same : f ≡ texts.Read = cc in same)));
  failed = λ bad. elim bad [
    | inl is ↦ absurd (h.before_whole is)
    | inr (inl is) ↦ ap Err (h.failed is)
    | inr (inr never) ↦ absurd never
  ];
  sink = sink_err _ _ _ _ f (λ begun. begins_next before.had trace.had old new h.head h.next begun) h.sink;
  others = system;
}

pub trace_told : (before trace : Seen) (old new : Option (List ℕ)) (out : Bool) (unread untouched : Type 0) (f : TextFault) → TraceFails before trace old new out untouched f → IsUnderFault f → Told before trace old new out unread untouched (trace_refused f)
trace_told before trace old new out unread untouched (texts.Trace said) h is =
    let refused = h.trace_is said refl in
    let same : untouched = elim h.sink.kept [
      | inl same ↦ same
      | inr e ↦ absurd (let never : texts.Trace said ≡ texts.Write = cc in cc)
    ] in
    record {
      ok = (some_after before.had h.head h.next, refused.0, refused.1, same);
      read = λ e. absurd cc;
      failed = λ bad. elim bad [
        | inl failed ↦ absurd (h.before_whole failed)
        | inr (inl failed) ↦ (let never = h.failed failed in absurd cc)
        | inr (inr never) ↦ absurd never
      ];
      sink = record { write = λ e. absurd cc; failed_is = λ bad. (let e = h.sink.failed_is bad in absurd cc); kept = tt };
      others = tt;
    }
trace_told before trace old new out unread untouched texts.Memory h is = trace_failed before trace old new out unread untouched texts.Memory h tt
trace_told before trace old new out unread untouched texts.Read h is = trace_failed before trace old new out unread untouched texts.Read h tt
trace_told before trace old new out unread untouched texts.Write h is = trace_failed before trace old new out unread untouched texts.Write h tt
trace_told before trace old new out unread untouched texts.Start h is = absurd is
trace_told before trace old new out unread untouched texts.Workers h is = absurd is
trace_told before trace old new out unread untouched texts.Unsettled h is = absurd is
trace_told before trace old new out unread untouched (texts.Config said) h is = absurd is
trace_told before trace old new out unread untouched (texts.Dump said) h is = absurd is
trace_told before trace old new out unread untouched (texts.State said) h is = absurd is
trace_told before trace old new out unread untouched (texts.BadActor program) h is = absurd is
trace_told before trace old new out unread untouched (texts.NoSlot slot) h is = absurd is
trace_told before trace old new out unread untouched texts.NoText h is = absurd is
