-- Reading byte after byte, as a loop does line after line.
use Rattle.std.proofs.Common.{◌≡◌, ◌⊎◌, inl, inr, ℕ, ◌<◌, ◌-◌, ◌+◌, Bool, true, false, cond, List, [], ◌∷◌, ◌++◌, length, take, drop, Option, Some, None, Result, Ok, Err, refl, sym, ap, subst, ◌∙◌, append_assoc, length-append, arith}
use Rattle.std.specs.Prelude.{◌==◌, ◌||◌, not, nat_le, codes}
use Rattle.std.specs.List.{concat, list_all, starts_with}
use Rattle.std.specs.Str.{bytes_eq}
use Rattle.std.proofs.lemmas.Bool.{and_parts, and_from, not-true, le-leb, lt-leb, leb-false, cases_lt, cases_Bool, or_cases, or_right, false_from_ne_true}
use Rattle.std.proofs.lemmas.List.{append-nil, drop_all}
use Rattle.std.proofs.lemmas.Slice.Eq.{bytes_eq-Decides}
use Rattle.kc_trace.specs.declared.header.Header.{Header}
use Rattle.kc_trace.specs.declared.header.Header.TheVariants.{One, Two}
use Rattle.kc_trace.specs.declared.head_reader.HeadSoFar.{HeadSoFar}
use Rattle.kc_trace.specs.declared.head_reader.HeadSoFar.TheVariants.{Nothing, FirstLine, Machine}
use Rattle.kc_trace.specs.declared.head_reader.NextLine.{NextLine}
use Rattle.kc_trace.specs.declared.head_reader.NextLine.TheVariants.{More, Whole}
use Rattle.kc_types.specs.declared.call.Call.{Call}
use Rattle.kc_types.specs.Limits.{line_limit}
use Rattle.kc_trace.specs.declared.fault.TraceFault.{TraceFault}
use Rattle.kc_trace.specs.declared.fault.TraceFault.TheVariants.{NoHeader, BadLine, NoNewline, TooManyCalls, Misplaced, Memory}
use Rattle.kc_trace.specs.HeadReading.{first_line_read}
use Rattle.kc_trace.specs.Machine.{◌>>=◌, Fails, Progress, kept, longer_line, longer, next_of_line, begins_first_line, begun, begun_by, may_begin, call_in, after_line, after_header, line_ended_by, line_ended, with_front, fed_byte, feed, feed_each}
use Rattle.kc_lines.specs.Lines.{IsOneLine}
use Rattle.kc_lines.proofs.Newlines.{tail_is}

-- ---- two pieces

pub front_nothing : (read : Result (Progress × List Call) TraceFault) → with_front [] read ≡ read
front_nothing (Ok x) = refl
front_nothing (Err f) = refl

abbrev pub and_then_feed : List ℕ → Result (Progress × List Call) TraceFault → Result (Progress × List Call) TraceFault
and_then_feed bytes read = read >>= λ a. with_front a.1 (feed a.0 bytes)

pub feed_nothing : (p : Progress) → feed p [] ≡ Ok (p, [])
unfolding feed
feed_nothing p = refl

-- what is read after some calls is read on after them
front_then : (new : List Call) (two : List ℕ) (read : Result (Progress × List Call) TraceFault) → with_front new (and_then_feed two read) ≡ and_then_feed two (with_front new read)
front_then new two (Ok x) = of (feed x.0 two)
  where
    of : (read : Result (Progress × List Call) TraceFault) → with_front new (with_front x.1 read) ≡ with_front (new ++ x.1) read
    of (Ok y) = ap (λ (calls : List Call). Ok (y.0, calls)) (sym (append_assoc new x.1 y.1))
    of (Err f) = refl
front_then new two (Err f) = refl

first_then : (one two : List ℕ) (first : Result (Progress × List Call) TraceFault) → ((p : Progress) → feed p (one ++ two) ≡ and_then_feed two (feed p one))
    → and_then_feed (one ++ two) first ≡ and_then_feed two (and_then_feed one first)
first_then one two (Ok x) rest = ap (with_front x.1) (rest x.0) ∙ front_then x.1 two (feed x.0 one)
first_then one two (Err f) rest = refl

-- reading two pieces in turn is reading them as one
pub feed-append : (one two : List ℕ) (p : Progress) → feed p (one ++ two) ≡ and_then_feed two (feed p one)
unfolding feed
feed-append [] two p = sym (front_nothing (feed p two))
feed-append (byte ∷ one) two p = first_then one two (fed_byte p byte) (λ q. feed-append one two q)

pieces_then : (pieces : List (List ℕ)) (first : Result (Progress × List Call) TraceFault) → ((p : Progress) → feed_each p pieces ≡ feed p (concat pieces))
    → (first >>= λ a. with_front a.1 (feed_each a.0 pieces)) ≡ and_then_feed (concat pieces) first
pieces_then pieces (Ok x) rest = ap (with_front x.1) (rest x.0)
pieces_then pieces (Err f) rest = refl

-- and so it is with any cutting
pub feed_each-concat : (p : Progress) (pieces : List (List ℕ)) → feed_each p pieces ≡ feed p (concat pieces)
unfolding feed_each
feed_each-concat p [] = sym (feed_nothing p)
feed_each-concat p (piece ∷ pieces) = pieces_then pieces (feed p piece) (λ q. feed_each-concat q pieces) ∙ sym (feed-append piece (concat pieces) p)

-- ---- a line that has begun

longer_twice : (p : Progress) (one two : List ℕ) → longer (longer p one) two ≡ longer p (one ++ two)
longer_twice p one two = ap (λ line. record p { line = line }) (twice p.line)
  where
    short : (line : List ℕ) (b : Bool) → nat_le (length (line ++ one)) line_limit ≡ b → longer_line (cond b (Some (line ++ one)) None) two ≡ kept (line ++ (one ++ two))
    short line true h = ap kept (append_assoc line one two)
    short line false h =
        let past = leb-false (length (line ++ one)) line_limit h in
        let sizes = length-append (line ++ one) two in
        let more : line_limit < length (line ++ (one ++ two)) = rw append_assoc at (let more : line_limit < length ((line ++ one) ++ two) = omega (arith, past, sizes) in more) in
        rw (lt-leb (length (line ++ (one ++ two))) line_limit more) refl

    twice : (line : Option (List ℕ)) → longer_line (longer_line line one) two ≡ longer_line line (one ++ two)
    twice None = refl
    twice (Some line) = short line (nat_le (length (line ++ one)) line_limit) refl

starts_back : (header line more : List ℕ) → starts_with ◌==◌ header (line ++ more) ≡ true → starts_with ◌==◌ header line ≡ true
starts_back header [] more h = refl
starts_back [] (x ∷ line) more h = cc
starts_back (b ∷ header) (x ∷ line) more h = let parts = and_parts (x == b) _ h in and_from (x == b) _ parts.0 (starts_back header line more parts.1)

-- a line that the first lines of headers begin with still is one if its end is cut off
begins_back : (line : Option (List ℕ)) (more : List ℕ) → begins_first_line (longer_line line more) ≡ true → begins_first_line line ≡ true
begins_back None more h = h
begins_back (Some line) more h = by_length (nat_le (length (line ++ more)) line_limit) h
  where
    one : List ℕ
    one = codes "kcore-trace 1"

    two : List ℕ
    two = codes "kcore-trace 2"

    three : List ℕ
    three = codes "kcore-trace 3"

    by_length : (b : Bool) → begins_first_line (cond b (Some (line ++ more)) None) ≡ true → begins_first_line (Some line) ≡ true
    by_length false h = absurd cc
    by_length true h = elim (or_cases (starts_with ◌==◌ one (line ++ more) || starts_with ◌==◌ two (line ++ more)) (starts_with ◌==◌ three (line ++ more)) h) [
      | inl first ↦ elim (or_cases (starts_with ◌==◌ one (line ++ more)) (starts_with ◌==◌ two (line ++ more)) first) [
        | inl e ↦ rw (starts_back one line more e) refl
        | inr e ↦ let back = starts_back two line more e in rw (back, or_right (starts_with ◌==◌ one line) true refl) refl
      ]
      | inr e ↦ or_right (starts_with ◌==◌ one line || starts_with ◌==◌ two line) (starts_with ◌==◌ three line) (starts_back three line more e)
    ]

-- a line that is read as the first of a header begins one
first_begins : (line : List ℕ) (next : NextLine) → first_line_read line ≡ Some next → begins_first_line (Some line) ≡ true
first_begins line next = by_tests (bytes_eq line (codes "kcore-trace 1")) (bytes_eq line (codes "kcore-trace 2")) (bytes_eq line (codes "kcore-trace 3")) refl refl refl
  where
    own : (text : List ℕ) → bytes_eq line text ≡ true → begins_first_line (Some text) ≡ true → begins_first_line (Some line) ≡ true
    own text same begins = subst (λ l. begins_first_line (Some l) ≡ true) (sym ((bytes_eq-Decides line text).0 same)) begins

    by_tests : (one two three : Bool) → bytes_eq line (codes "kcore-trace 1") ≡ one → bytes_eq line (codes "kcore-trace 2") ≡ two → bytes_eq line (codes "kcore-trace 3") ≡ three
        → cond one (Some (Whole One)) (cond two (Some (Whole Two)) (cond three (Some (More FirstLine)) None)) ≡ Some next → begins_first_line (Some line) ≡ true
    by_tests true two three h1 h2 h3 e = own (codes "kcore-trace 1") h1 refl
    by_tests false true three h1 h2 h3 e = own (codes "kcore-trace 2") h2 refl
    by_tests false false true h1 h2 h3 e = own (codes "kcore-trace 3") h3 refl
    by_tests false false false h1 h2 h3 e = absurd cc

line_begins : (line : Option (List ℕ)) (next : NextLine) → next_of_line Nothing line ≡ Some next → begins_first_line line ≡ true
line_begins None next e = absurd cc
line_begins (Some line) next e = first_begins line next e

-- a line that has begun like this, or one that no further bytes make valid
abbrev BegunCases : Progress → Type 0
BegunCases p = (begun p ≡ Ok (p, [])) ⊎ ((f : TraceFault) × (begun p ≡ Err f) × ((more : List ℕ) → begun (longer p more) ≡ Err f) × ((more : List ℕ) → line_ended (longer p more) ≡ Err f))

begun_cases : (p : Progress) → BegunCases p
begun_cases p = by_header p.header refl
  where
    not_read : (more : List ℕ) → p.head ≡ Nothing → begins_first_line p.line ≡ false → (found : Option NextLine) → next_of_line Nothing (longer_line p.line more) ≡ found → after_header (longer p more) found ≡ Err NoHeader
    not_read more is refused None e = rw is refl
    not_read more is refused (Some next) e = let yes = begins_back p.line more (line_begins (longer_line p.line more) next e) in absurd cc

    still : (more : List ℕ) → begins_first_line p.line ≡ false → begins_first_line (longer_line p.line more) ≡ false
    still more refused = false_from_ne_true (begins_first_line (longer_line p.line more)) (λ yes. let back = begins_back p.line more yes in cc)

    by_head : (head : HeadSoFar) → p.header ≡ None → p.head ≡ head → BegunCases p
    by_head Nothing none is = elim (cases_Bool (begins_first_line p.line)) [
      | inl begins ↦ inl (rw (none, is, begins) refl)
      | inr refused ↦ inr (
        NoHeader,
        rw (none, is, refused) refl,
        (λ more. rw (none, is, still more refused) refl),
        λ more.
            ap (λ header. line_ended_by header (longer p more)) none ∙ ap (λ head. after_header (longer p more) (next_of_line head (longer_line p.line more))) is
            ∙ not_read more is refused (next_of_line Nothing (longer_line p.line more)) refl,
      )
    ]
    by_head FirstLine none is = inl (rw (none, is) refl)
    by_head (Machine machine) none is = inl (rw (none, is) refl)

    by_header : (header : Option Header) → p.header ≡ header → BegunCases p
    by_header None is = by_head p.head is refl
    by_header (Some v) is = elim (cases_lt p.calls 65536) [
      | inl lt ↦ inl (rw (is, lt-leb 65536 p.calls lt) refl)
      | inr le ↦ inr (TooManyCalls, rw (is, le-leb 65536 p.calls le) refl, (λ more. rw (is, le-leb 65536 p.calls le) refl), λ more. rw (is, le-leb 65536 p.calls le) refl)
    ]

-- ---- lines of a piece

read_alone : (read : Result (Progress × List Call) TraceFault) → and_then_feed [] read ≡ read
read_alone (Ok x) = ap (with_front x.1) (feed_nothing x.0) ∙ ap (λ (calls : List Call). Ok (x.0, calls)) (append-nil x.1)
read_alone (Err f) = refl

-- some bytes of a line that has begun
pub feed_begun : (p : Progress) (bytes : List ℕ) → 0 < length bytes → IsOneLine bytes → feed p bytes ≡ begun (longer p bytes)
unfolding feed
feed_begun p [] some one = absurd (omega arith)
feed_begun p (byte ∷ bytes) some one =
    let parts = and_parts (not (byte == 10)) (list_all (λ b. not (b == 10)) bytes) one in
    rw (not-true (byte == 10) parts.0) (of bytes (begun_cases (longer p (byte ∷ []))) (λ q some. feed_begun q bytes some parts.1))
  where
    of : (more : List ℕ) → BegunCases (longer p (byte ∷ [])) → ((q : Progress) → 0 < length more → feed q more ≡ begun (longer q more))
        → and_then_feed more (begun (longer p (byte ∷ []))) ≡ begun (longer p (byte ∷ more))
    of [] cases rest = read_alone (begun (longer p (byte ∷ [])))
    of (next ∷ more) (inl so) rest =
        rw so (front_nothing (feed (longer p (byte ∷ [])) (next ∷ more)) ∙ rest (longer p (byte ∷ [])) (omega arith) ∙ ap begun (longer_twice p (byte ∷ []) (next ∷ more)))
    of (next ∷ more) (inr stuck) rest = rw stuck.1 (sym (stuck.2 (next ∷ more)) ∙ ap begun (longer_twice p (byte ∷ []) (next ∷ more)))

-- a line that ends
pub feed_ended : (p : Progress) (line rest : List ℕ) → IsOneLine line → feed p (line ++ 10 ∷ rest) ≡ and_then_feed rest (line_ended (longer p line))
unfolding feed
feed_ended p [] rest one = refl
feed_ended p (byte ∷ line) rest one =
    let parts = and_parts (not (byte == 10)) (list_all (λ b. not (b == 10)) line) one in
    rw (not-true (byte == 10) parts.0) (of (begun_cases (longer p (byte ∷ []))) (feed_ended (longer p (byte ∷ [])) line rest parts.1))
  where
    of : BegunCases (longer p (byte ∷ [])) → feed (longer p (byte ∷ [])) (line ++ 10 ∷ rest) ≡ and_then_feed rest (line_ended (longer (longer p (byte ∷ [])) line))
        → and_then_feed (line ++ 10 ∷ rest) (begun (longer p (byte ∷ []))) ≡ and_then_feed rest (line_ended (longer p (byte ∷ line)))
    of (inl so) later = rw so (front_nothing (feed (longer p (byte ∷ [])) (line ++ 10 ∷ rest)) ∙ later ∙ ap (λ q. and_then_feed rest (line_ended q)) (longer_twice p (byte ∷ []) line))
    of (inr stuck) later = rw stuck.1 (ap (and_then_feed rest) (sym (stuck.3 line) ∙ ap line_ended (longer_twice p (byte ∷ []) line)))

-- what fails still fails, whatever follows it
pub fails_then : {A B : Type 0} (fault : TraceFault) (read : Result A TraceFault) (then : A → Result B TraceFault) → Fails fault read → Fails fault (read >>= then)
fails_then NoHeader read then h = rw h refl
fails_then (BadLine n) read then h = rw h refl
fails_then NoNewline read then h = rw h refl
fails_then TooManyCalls read then h = rw h refl
fails_then (Misplaced wrong) read then h = rw h refl
fails_then Memory read then h = tt

pub nothing_after : (xs : List ℕ) → take (length xs - length xs) (drop (length xs) xs) ≡ []
nothing_after xs = tail_is (length xs) xs ∙ drop_all (length xs) xs (omega arith)

-- ---- the header stays

then_header : (rest : List ℕ) (read : Result (Progress × List Call) TraceFault) (v : Header) (all : Progress × List Call)
    → ((p : Progress) (calls : List Call) → read ≡ Ok (p, calls) → p.header ≡ Some v)
    → ((p : Progress) → p.header ≡ Some v → (all : Progress × List Call) → feed p rest ≡ Ok all → all.0.header ≡ Some v)
    → and_then_feed rest read ≡ Ok all → all.0.header ≡ Some v
then_header rest (Err f) v all first later e = absurd cc
then_header rest (Ok x) v all first later e = by_rest (feed x.0 rest) refl e
  where
    by_rest : (read : Result (Progress × List Call) TraceFault) → feed x.0 rest ≡ read → with_front x.1 read ≡ Ok all → all.0.header ≡ Some v
    by_rest (Err f) is e = absurd cc
    by_rest (Ok y) is e =
        let same : (y.0, x.1 ++ y.1) ≡ all = cc in
        subst (λ (a : Progress × List Call). a.0.header ≡ Some v) same (later x.0 (first x.0 x.1 refl) y is)

byte_header : (p q : Progress) (byte : ℕ) (calls : List Call) (v : Header) → p.header ≡ Some v → fed_byte p byte ≡ Ok (q, calls) → q.header ≡ Some v
byte_header p q byte calls v is e = by_test (byte == 10) (nat_le 65536 p.calls) (call_in v (longer p []).line) (ap (λ h. cond (byte == 10) (line_ended_by h (longer p [])) (begun_by h (longer p (byte ∷ [])))) (sym is) ∙ e)
  where
    by_test : (newline full : Bool) (found : Option Call)
        → cond newline (cond full (Err TooManyCalls) (after_line v (longer p []) found)) (cond full (Err TooManyCalls) (Ok (longer p (byte ∷ []), []))) ≡ Ok (q, calls) → q.header ≡ Some v
    by_test true true found e = absurd cc
    by_test true false None e = absurd cc
    by_test true false (Some call) e = let same : ◌≡◌ {A = Progress × List Call} (record (longer p []) { calls = p.calls + 1; line = Some [] }, call ∷ []) (q, calls) = cc in ap (λ (x : Progress × List Call). x.0.header) (sym same) ∙ is
    by_test false true found e = absurd cc
    by_test false false found e = let same : ◌≡◌ {A = Progress × List Call} (longer p (byte ∷ []), []) (q, calls) = cc in ap (λ (x : Progress × List Call). x.0.header) (sym same) ∙ is

-- once it was read, it is that of what is read from there on
pub header_stays : (bytes : List ℕ) (p : Progress) (v : Header) (all : Progress × List Call) → p.header ≡ Some v → feed p bytes ≡ Ok all → all.0.header ≡ Some v
unfolding feed
header_stays [] p v all is e = let same : (p, []) ≡ all = cc in subst (λ (a : Progress × List Call). a.0.header ≡ Some v) same is
header_stays (byte ∷ bytes) p v all is e = then_header bytes (fed_byte p byte) v all (λ q calls h. byte_header p q byte calls v is h) (λ q header all h. header_stays bytes q v all header h) e

-- ---- there are no calls before it

-- nothing was read that is a call, if the header was not read to its end
byte_headless : (p q : Progress) (byte : ℕ) (calls : List Call) → fed_byte p byte ≡ Ok (q, calls) → q.header ≡ None → (p.header ≡ None) × (calls ≡ [])
byte_headless p q byte calls e none = by_header p.header refl
  where
    by_next : (found : Option NextLine) → after_header (longer p []) found ≡ Ok (q, calls) → calls ≡ []
    by_next None e = absurd cc
    by_next (Some (More head)) e = let same : ◌≡◌ {A = Progress × List Call} (record (longer p []) { head = head; line = Some [] }, []) (q, calls) = cc in ap (λ (x : Progress × List Call). x.1) (sym same)
    by_next (Some (Whole header)) e =
        let same : ◌≡◌ {A = Progress × List Call} (record (longer p []) { header = Some header; head = Nothing; line = Some [] }, []) (q, calls) = cc in
        ap (λ (x : Progress × List Call). x.1) (sym same)

    by_test : (newline may : Bool) → cond newline (after_header (longer p []) (next_of_line p.head (longer p []).line)) (cond may (Ok (longer p (byte ∷ []), [])) (Err NoHeader)) ≡ Ok (q, calls) → calls ≡ []
    by_test true may e = by_next (next_of_line p.head (longer p []).line) e
    by_test false true e = let same : ◌≡◌ {A = Progress × List Call} (longer p (byte ∷ []), []) (q, calls) = cc in ap (λ (x : Progress × List Call). x.1) (sym same)
    by_test false false e = absurd cc

    by_header : (header : Option Header) → p.header ≡ header → (p.header ≡ None) × (calls ≡ [])
    by_header (Some v) is = let stays = byte_header p q byte calls v is e in absurd cc
    by_header None is = (is, by_test (byte == 10) (may_begin p.head (longer p (byte ∷ [])).line) (ap (λ h. cond (byte == 10) (line_ended_by h (longer p [])) (begun_by h (longer p (byte ∷ [])))) (sym is) ∙ e))

then_headless : (rest : List ℕ) (p : Progress) (read : Result (Progress × List Call) TraceFault) (all : Progress × List Call)
    → ((q : Progress) (calls : List Call) → read ≡ Ok (q, calls) → q.header ≡ None → (p.header ≡ None) × (calls ≡ []))
    → ((q : Progress) (all : Progress × List Call) → feed q rest ≡ Ok all → all.0.header ≡ None → (q.header ≡ None) × (all.1 ≡ []))
    → and_then_feed rest read ≡ Ok all → all.0.header ≡ None → (p.header ≡ None) × (all.1 ≡ [])
then_headless rest p (Err f) all first later e none = absurd cc
then_headless rest p (Ok x) all first later e none = by_rest (feed x.0 rest) refl e
  where
    by_rest : (read : Result (Progress × List Call) TraceFault) → feed x.0 rest ≡ read → with_front x.1 read ≡ Ok all → (p.header ≡ None) × (all.1 ≡ [])
    by_rest (Err f) is e = absurd cc
    by_rest (Ok y) is e =
        let same : ◌≡◌ {A = Progress × List Call} (y.0, x.1 ++ y.1) all = cc in
        let after = later x.0 y is (ap (λ (a : Progress × List Call). a.0.header) same ∙ none) in
        let before = first x.0 x.1 refl after.0 in
        (before.0, ap (λ (a : Progress × List Call). a.1) (sym same) ∙ ap (λ calls. calls ++ y.1) before.1 ∙ after.1)

pub headless : (bytes : List ℕ) (p : Progress) (all : Progress × List Call) → feed p bytes ≡ Ok all → all.0.header ≡ None → (p.header ≡ None) × (all.1 ≡ [])
unfolding feed
headless [] p all e none = let same : ◌≡◌ {A = Progress × List Call} (p, []) all = cc in (ap (λ (a : Progress × List Call). a.0.header) same ∙ none, ap (λ (a : Progress × List Call). a.1) (sym same))
headless (byte ∷ bytes) p all e none = then_headless bytes p (fed_byte p byte) all (λ q calls h no. byte_headless p q byte calls h no) (λ q all h no. headless bytes q all h no) e none
