-- A line is read as what it spells, and nothing else is; and so is the first line of a text.
use Rattle.std.proofs.Common.{ℕ, zero, suc, ◌≡◌, ◌<◌, ◌≤◌, true, ◌&&◌, nat_lt, nat_le, List, [], ◌∷◌, ◌++◌, length, get_or, Option, Some, refl, sym, ap, ◌∙◌, append_assoc, arith, inl, inr, ◌+◌, length-append, None}
use Rattle.std.proofs.lemmas.List.{append-nil}
use Rattle.std.specs.List.{list_all, slice_split, join_with_byte, flat_map}
use Rattle.std.proofs.lemmas.List.Splits.{join_with_byte-slice_split}
use Rattle.std.specs.Prelude.{◌==◌, not}
use Rattle.std.specs.Fmt.{decimal}
use Rattle.std.proofs.lemmas.Bool.{and_parts, and_from, ltb-true, lt-ltb, leb-true, eqb-true, not-true}
use Rattle.kc_types.specs.Limits.{frame_limit, gfn_limit, share_limit, byte_limit}
use Rattle.kc_types.specs.Configuration.{most_frames, slots_of, gfns_of, roots_of, most_leaves}
use Rattle.kc_types.specs.declared.version.Version.{Version}
use Rattle.kc_types.specs.declared.link.Ends.{Ends}
use Rattle.kc_lines.specs.Words.{number_in}
use Rattle.kc_lines.specs.Lines.{IsOneLine}
use Rattle.kc_lines.proofs.Words.{is_space, is_word, chosen, then_some, name_is, split_join, join_is_one_line}
use Rattle.kc_dump.specs.declared.line.FrameLine.{FrameLine}
use Rattle.kc_dump.specs.Ranges.{is_below, are_ends, is_owner, is_frame}
use Rattle.kc_dump_text.specs.DumpText.{spaced, ends_words, frame_words, name_of, words_of, spell}
use Rattle.kc_dump_text.specs.declared.dump_line.DumpLine.{DumpLine}
use Rattle.kc_dump_text.specs.declared.dump_line.DumpLine.TheVariants.{SizeOf, FreeOf, VmOf, LeafOf, EntryOf, FrameOf}
use Rattle.kc_dump_text.specs.Lines.{then_word, no_more, size_line, ends_of, free_line, vm_line, leaf_line, entry_line, record_of, frame_line, named, line_of_words, line_read}
use Rattle.kc_dump_text.specs.Places.{in_range}
use Rattle.kc_dump_text.specs.Begun.{first_bytes, first_line, newlines}
use Rattle.kc_dump_text.proofs.ReadWords.{Reads, From, mapped-to, mapped-from, nothing-from, number-to, number-spelled, below-to, below-from, dash-to, dash-from, bit-to, bit-from, phase-to, phase-from, owner-to, owner-from, digest-reads, digest-from}
use Rattle.kc_types.proofs.Ranges.{few-frames, few-slots, few-gfns, few-leaves, few-roots}

-- a line without its newline
abbrev pub bare : DumpLine → List ℕ
bare l = join_with_byte 32 (name_of l ∷ words_of l)

joined-spaced : (name : List ℕ) (words : List (List ℕ)) → join_with_byte 32 (name ∷ words) ≡ name ++ spaced words
joined-spaced name [] = sym (append-nil name)
joined-spaced name (word ∷ words) = ap (λ (l : List ℕ). name ++ 32 ∷ l) (joined-spaced word words)

pub spell-bare : (l : DumpLine) → spell l ≡ bare l ++ 10 ∷ []
spell-bare l = sym (append_assoc (name_of l) (spaced (words_of l)) (10 ∷ [])) ∙ ap (λ (l : List ℕ). l ++ 10 ∷ []) (sym (joined-spaced (name_of l) (words_of l)))

-- ---- a line that is spelled is read

end-to : {Y : Type 0} (y : Y) → Reads (list_all is_word) (no_more y) [] y
end-to y = record { passes = refl; found = refl }

word-to : {X Y : Type 0} {read : List ℕ → Option X} {word : List ℕ} {words : List (List ℕ)} {x : X} {y : Y} (next : X → List (List ℕ) → Option Y) → Reads is_word read word x → Reads (list_all is_word) (next x) words y → Reads (list_all is_word) (then_word read next) (word ∷ words) y
word-to next h k = record { passes = rw h.passes k.passes; found = rw h.found k.found }

name-to : {name : List ℕ} {words : List (List ℕ)} {l : DumpLine} (read : List (List ℕ) → Option DumpLine) → is_word name ≡ true → line_of_words (name ∷ words) ≡ read words → Reads (list_all is_word) read words l → Reads (list_all is_word) line_of_words (name ∷ words) l
name-to read is same h = record { passes = rw is h.passes; found = same ∙ h.found }

bytes-of : (xs : List ℕ) → list_all (λ b. nat_lt b 256) xs ≡ true → (k d : ℕ) → k < length xs → get_or xs k d < 256
bytes-of [] e k d lt = absurd (omega (arith, lt))
bytes-of (x ∷ xs) e zero d lt = ltb-true x 256 (and_parts (nat_lt x 256) _ e).0
bytes-of (x ∷ xs) e (suc k) d lt = bytes-of xs (and_parts (nat_lt x 256) _ e).1 k d (omega (arith, lt))

pub all-bytes : (xs : List ℕ) → ((k : ℕ) → get_or xs k 0 < 256) → list_all (λ b. nat_lt b 256) xs ≡ true
all-bytes [] h = refl
all-bytes (x ∷ xs) h = and_from _ _ (lt-ltb x 256 (h 0)) (all-bytes xs (λ k. h (suc k)))

-- each line with numbers in range, in a dump of this many frames
module _ (version : Version) (n : ℕ) (few : n ≤ frame_limit) where
  ends-to : (ends : Ends) → are_ends n ends ≡ true → Reads (list_all is_word) ends_of (ends_words ends) ends
  ends-to ends is =
      let p = and_parts (is_below n ends.head && is_below n ends.tail) (nat_le ends.count n) is in
      let q = and_parts (is_below n ends.head) (is_below n ends.tail) p.0 in
      word-to _ (dash-to frame_limit n ends.head (omega arith) few q.0) (word-to _ (dash-to frame_limit n ends.tail (omega arith) few q.1) (word-to _ (number-to ends.count (omega (arith, leb-true ends.count n p.1, few))) (end-to _)))

  frame-to : (l : FrameLine) → is_frame version n l ≡ true → Reads (list_all is_word) record_of (frame_words l) l
  frame-to l is =
      let bytes = and_parts (is_owner version l.owner && nat_le l.share share_limit && is_below (gfns_of version) l.gfn && is_below n l.prev && is_below n l.next && (length l.digest == 32)) _ is in
      let long = and_parts (is_owner version l.owner && nat_le l.share share_limit && is_below (gfns_of version) l.gfn && is_below n l.prev && is_below n l.next) (length l.digest == 32) bytes.0 in
      let next = and_parts (is_owner version l.owner && nat_le l.share share_limit && is_below (gfns_of version) l.gfn && is_below n l.prev) (is_below n l.next) long.0 in
      let prev = and_parts (is_owner version l.owner && nat_le l.share share_limit && is_below (gfns_of version) l.gfn) (is_below n l.prev) next.0 in
      let gfn = and_parts (is_owner version l.owner && nat_le l.share share_limit) (is_below (gfns_of version) l.gfn) prev.0 in
      let share = and_parts (is_owner version l.owner) (nat_le l.share share_limit) gfn.0 in
      word-to _ (owner-to version l.owner share.0) (word-to _ (number-to l.share (omega (arith, leb-true l.share share_limit share.1))) (word-to _ (dash-to gfn_limit (gfns_of version) l.gfn (omega arith) (few-gfns version) gfn.1) (word-to _ (bit-to l.present)
      (word-to _ (dash-to frame_limit n l.prev (omega arith) few prev.1) (word-to _ (dash-to frame_limit n l.next (omega arith) few next.1) (word-to _ (digest-reads l.digest (record { long = eqb-true (length l.digest) 32 long.1; each = bytes-of l.digest bytes.1 })) (end-to _)))))))

  slot-to : (v : ℕ) → nat_lt v (slots_of version) ≡ true → Reads is_word number_in (decimal v) v
  slot-to v is = number-to v (omega (arith, ltb-true v (slots_of version) is, few-slots version))

  words-to : (l : DumpLine) → in_range version n l ≡ true → Reads (list_all is_word) line_of_words (name_of l ∷ words_of l) l
  unfolding line_of_words
  words-to (SizeOf f c l) is =
      let leaves = and_parts (nat_lt 0 f && nat_le f (most_frames version) && nat_le c f && nat_lt 0 l) (nat_le l (most_leaves version)) is in
      let core = and_parts (nat_lt 0 f && nat_le f (most_frames version)) (nat_le c f) (and_parts (nat_lt 0 f && nat_le f (most_frames version) && nat_le c f) (nat_lt 0 l) leaves.0).0 in
      let frames : f ≤ frame_limit = few-frames version f (leb-true f (most_frames version) (and_parts (nat_lt 0 f) _ core.0).1) in
      name-to size_line refl refl (word-to _ (number-to f (omega (arith, frames))) (word-to _ (number-to c (omega (arith, leb-true c f core.1, frames))) (word-to _ (number-to l (omega (arith, leb-true l (most_leaves version) leaves.1, few-leaves version))) (end-to _))))
  words-to (FreeOf ends) is = name-to free_line refl refl (mapped-to FreeOf (ends-to ends is))
  words-to (VmOf v p ends) is = let q = and_parts (nat_lt v (slots_of version)) _ is in name-to vm_line refl refl (word-to _ (slot-to v q.0) (word-to _ (phase-to p) (mapped-to (VmOf v p) (ends-to ends q.1))))
  words-to (LeafOf v i r) is =
      let p = and_parts (nat_lt v (slots_of version) && nat_lt i byte_limit) (nat_lt r (roots_of version)) is in
      let q = and_parts (nat_lt v (slots_of version)) (nat_lt i byte_limit) p.0 in
      name-to leaf_line refl refl (word-to _ (slot-to v q.0) (word-to _ (number-to i (omega (arith, ltb-true i byte_limit q.1))) (word-to _ (number-to r (omega (arith, ltb-true r (roots_of version) p.1, few-roots version))) (end-to _))))
  words-to (EntryOf v e) is =
      let p = and_parts (nat_lt v (slots_of version) && nat_lt e.0 (gfns_of version)) (nat_lt e.1 n) is in
      let q = and_parts (nat_lt v (slots_of version)) (nat_lt e.0 (gfns_of version)) p.0 in
      name-to entry_line refl refl (word-to _ (slot-to v q.0) (word-to _ (below-to gfn_limit e.0 (omega arith) (omega (arith, ltb-true e.0 (gfns_of version) q.1, few-gfns version))) (word-to _ (below-to frame_limit e.1 (omega arith) (omega (arith, ltb-true e.1 n p.1, few))) (end-to _))))
  words-to (FrameOf f l) is = let q = and_parts (nat_lt f n) _ is in name-to frame_line refl refl (word-to _ (number-to f (omega (arith, ltb-true f n q.0, few))) (mapped-to (FrameOf f) (frame-to l q.1)))

  pub bare-one-line : (l : DumpLine) → in_range version n l ≡ true → IsOneLine (bare l)
  bare-one-line l is = join_is_one_line (name_of l) (words_of l) (words-to l is).passes

  pub line-to : (l : DumpLine) → in_range version n l ≡ true → line_read (bare l) ≡ Some l
  line-to l is = let h = words-to l is in ap line_of_words (split_join (name_of l) (words_of l) h.passes) ∙ h.found

-- ---- what is read was spelled

end-from : {Y : Type 0} {spelled : Y → List (List ℕ)} {before : List (List ℕ) → List (List ℕ)} {y : Y} → before [] ≡ spelled y → From spelled before (no_more y)
end-from {Y} {spelled} {before} {y} is = record { same = elim [ [] ↦ λ z e. let same : y ≡ z = cc in is ∙ ap spelled same | word ∷ words ↦ λ z e. absurd cc ] }

word-from : {X Y : Type 0} {word : X → List ℕ} {read : List ℕ → Option X} {spelled : Y → List (List ℕ)} {before : List (List ℕ) → List (List ℕ)} {next : X → List (List ℕ) → Option Y}
    → From word (λ w. w) read → ((x : X) → From spelled (λ ws. before (word x ∷ ws)) (next x)) → From spelled before (then_word read next)
word-from {X} {Y} {word} {read} {spelled} {before} {next} from then = record {
  same = elim [ [] ↦ λ y e. absurd cc | w ∷ ws ↦ λ y e. let r = then_some (λ x. next x ws) (read w) y e in ap (λ w. before (w ∷ ws)) (from.same w r.0 r.1) ∙ (then r.0).same ws y r.2 ];
}

named-from : {Y : Type 0} {name : List ℕ} {spelled : Y → List (List ℕ)} {read rest : List (List ℕ) → Option Y} → From spelled (λ ws. name ∷ ws) read → From spelled (λ ws. ws) rest → From spelled (λ ws. ws) (named name read rest)
named-from {Y} {name} {spelled} {read} {rest} from others = record {
  same = elim [ [] ↦ λ y e. absurd cc | w ∷ ws ↦ λ y e. elim (chosen _ (read ws) (rest (w ∷ ws)) (Some y) e) [ inl h ↦ ap (λ w. w ∷ ws) (name_is w name h.0) ∙ from.same ws y h.1 | inr h ↦ others.same (w ∷ ws) y h.1 ] ];
}

ends-from : From ends_words (λ ws. ws) ends_of
ends-from = word-from (dash-from frame_limit) (λ head. word-from (dash-from frame_limit) (λ tail. word-from number-spelled (λ count. end-from refl)))

frame-from : From frame_words (λ ws. ws) record_of
frame-from =
    word-from owner-from (λ owner. word-from number-spelled (λ share. word-from (dash-from gfn_limit) (λ gfn. word-from bit-from (λ present.
    word-from (dash-from frame_limit) (λ prev. word-from (dash-from frame_limit) (λ next. word-from (record { same = digest-from }) (λ digest. end-from refl)))))))

words-from : From (λ l. name_of l ∷ words_of l) (λ ws. ws) line_of_words
unfolding line_of_words
words-from =
    named-from (word-from number-spelled (λ f. mapped-from (FrameOf f) (λ l. refl) frame-from))
    (named-from (word-from number-spelled (λ v. word-from (below-from gfn_limit) (λ g. word-from (below-from frame_limit) (λ f. end-from refl))))
    (named-from (word-from number-spelled (λ v. word-from number-spelled (λ n. word-from number-spelled (λ r. end-from refl))))
    (named-from (word-from number-spelled (λ v. word-from phase-from (λ p. mapped-from (VmOf v p) (λ ends. refl) ends-from)))
    (named-from (mapped-from FreeOf (λ ends. refl) ends-from)
    (named-from (word-from number-spelled (λ f. word-from number-spelled (λ c. word-from number-spelled (λ l. end-from refl))))
    nothing-from)))))

pub line-from : (bytes : List ℕ) (l : DumpLine) → line_read bytes ≡ Some l → bytes ≡ bare l
line-from bytes l e = sym (join_with_byte-slice_split 32 bytes) ∙ ap (join_with_byte 32) (words-from.same (slice_split is_space bytes) l e)

-- ---- the first line of a text

pub none-first : (bytes : List ℕ) → IsOneLine bytes → first_bytes bytes ≡ None
none-first [] one = refl
none-first (b ∷ bytes) one = let p = and_parts (not (b == 10)) (list_all (λ b. not (b == 10)) bytes) one in rw (not-true (b == 10) p.0, none-first bytes p.1) refl

pub cut-first : (bytes rest : List ℕ) → IsOneLine bytes → first_bytes (bytes ++ 10 ∷ rest) ≡ Some bytes
cut-first [] rest one = refl
cut-first (b ∷ bytes) rest one = let p = and_parts (not (b == 10)) (list_all (λ b. not (b == 10)) bytes) one in rw (not-true (b == 10) p.0, cut-first bytes rest p.1) refl

pub spelled-cut : (l : DumpLine) (rest : List ℕ) → spell l ++ rest ≡ bare l ++ 10 ∷ rest
spelled-cut l rest = ap (λ (s : List ℕ). s ++ rest) (spell-bare l) ∙ append_assoc (bare l) (10 ∷ []) rest

-- the line that a text begins with is its first
pub first-spelled : (version : Version) (n : ℕ) (l : DumpLine) (rest : List ℕ) → n ≤ frame_limit → in_range version n l ≡ true → first_line (spell l ++ rest) ≡ Some l
first-spelled version n l rest few is = ap first_line (spelled-cut l rest) ∙ rw (cut-first (bare l) rest (bare-one-line version n few l is)) (line-to version n few l is)

pub read-first : (bytes rest : List ℕ) (l : DumpLine) → line_read bytes ≡ Some l → bytes ++ 10 ∷ rest ≡ spell l ++ rest
read-first bytes rest l read = ap (λ (b : List ℕ). b ++ 10 ∷ rest) (line-from bytes l read) ∙ sym (spelled-cut l rest)

-- a line has at least one byte
pub line-bytes : (l : DumpLine) (rest text : List ℕ) → text ≡ spell l ++ rest → length rest < length text
line-bytes l rest text e = let a = ap length (e ∙ spelled-cut l rest) in let b = length-append (bare l) (10 ∷ rest) in omega (arith, a, b)

-- the newlines of a text are those of its lines
one-newline : (bytes rest : List ℕ) → IsOneLine bytes → newlines (bytes ++ 10 ∷ rest) ≡ newlines rest + 1
one-newline [] rest one = omega arith
one-newline (b ∷ bytes) rest one = let p = and_parts (not (b == 10)) (list_all (λ b. not (b == 10)) bytes) one in rw (not-true (b == 10) p.0) (let h = one-newline bytes rest p.1 in omega (arith, h))

pub line-newlines : (version : Version) (n : ℕ) (lines : List DumpLine) → n ≤ frame_limit → list_all (in_range version n) lines ≡ true → newlines (flat_map spell lines) ≡ length lines
line-newlines version n [] few each = refl
line-newlines version n (l ∷ lines) few each =
    let p = and_parts (in_range version n l) _ each in
    let a : newlines (spell l ++ flat_map spell lines) ≡ newlines (flat_map spell lines) + 1 = ap newlines (spelled-cut l (flat_map spell lines)) ∙ one-newline (bare l) (flat_map spell lines) (bare-one-line version n few l p.0) in
    let b = line-newlines version n lines few p.1 in
    omega (arith, a, b)
