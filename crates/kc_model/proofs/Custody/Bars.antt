-- The bars of a frame follow one another from the first line to the end, and each has its custody throughout.
use Rattle.std.proofs.Common.{ℕ, zero, suc, ◌≡◌, ◌<◌, ◌≤◌, ◌+◌, ◌-◌, inl, inr, Bool, true, false, cond, ◌||◌, nat_eq, List, [], ◌∷◌, ◌++◌, map, filter, All, refl, sym, ap, subst, ◌∙◌, arith}
use Rattle.std.specs.List.{range_with_len}
use Rattle.std.proofs.lemmas.Bool.{cases_eq, eq-eqb, ne_eqb, eqb-true, or_from, and_left, and_right, cond-true, cond-false, cond_both}
use Rattle.std.proofs.lemmas.List.Elements.{All-nil, All-cons, All-append, All-map, All-weaker, All-head, All-tail, filter-append}
use Rattle.std.proofs.lemmas.List.Folds.{list_any_none}
use Rattle.kc_types.specs.declared.call.Call.{Call}
use Rattle.kc_types.specs.declared.custody.FrameChange.{FrameChange}
use Rattle.kc_types.specs.declared.custody.PhaseChange.{PhaseChange}
use Rattle.kc_types.specs.declared.custody.Change.{Change}
use Rattle.kc_types.specs.declared.custody.Change.TheVariants as change
use Rattle.kc_types.specs.declared.custody.Bar.{Bar}
use Rattle.kc_model.specs.State.{State}
use Rattle.kc_model.specs.Lawful.{IsLawful}
use Rattle.kc_model.specs.Footprints.{state_at}
use Rattle.kc_model.specs.Custody.{custody, custody_at, first_line}
use Rattle.kc_model.specs.CustodyLaws.{is_of_frame, is_told, IsFrameTold, IsWithin, Precedes, IsInOrder}
use Rattle.kc_model.specs.Bars.{next_line, first_bar, later_bars, end_of_trace, bars_of_trace, is_bar_of, Follow, Tells, AreBars}
use Rattle.kc_model.proofs.Custody.Still.{still}
use Rattle.kc_model.proofs.Custody.Tells.{tells_frames}
use Rattle.kc_model.proofs.Custody.Ordered.{line_of, within, ordered}

-- a change on a line of the trace
abbrev IsOnLine : List Call → Change → Type 0
IsOnLine calls told = (first_line ≤ line_of told) × (line_of told < end_of_trace calls)

on-line : (m : State) (calls : List Call) (told : Change) → IsWithin m calls told → IsOnLine calls told
on-line m calls (change.Frame told) is = (is.0, is.1)
on-line m calls (change.Phase told) is = (is.0, is.1)

on-lines : (m : State) (calls : List Call) → All (IsOnLine calls) (custody m calls)
on-lines m calls = All-weaker (IsWithin m calls) (IsOnLine calls) (on-line m calls) (custody m calls) (within m calls)

-- what holds of the end and of the lines of the frame's changes holds of the line of its first change
abbrev AtFrame : (ℕ → Type 0) → ℕ → Change → Type 0
AtFrame P f (change.Frame told) = told.frame ≡ f → P told.line
AtFrame P f (change.Phase told) = Unit {0}

at-next : (P : ℕ → Type 0) (end f : ℕ) (changes : List Change) → P end → All (AtFrame P f) changes → P (next_line end f changes)
at-next P end f [] last each = last
at-next P end f (change.Frame told ∷ more) last each =
    cond_both (nat_eq told.frame f) told.line (next_line end f more) P
    (λ same. All-head (AtFrame P f) (change.Frame told) more each (eqb-true told.frame f same))
    (λ other. at-next P end f more last (All-tail (AtFrame P f) (change.Frame told) more each))
at-next P end f (change.Phase told ∷ more) last each = at-next P end f more last (All-tail (AtFrame P f) (change.Phase told) more each)

at-frame : (P : ℕ → Type 0) (f : ℕ) (told : Change) → P (line_of told) → AtFrame P f told
at-frame P f (change.Frame told) here = λ same. here
at-frame P f (change.Phase told) here = tt

-- a line of the trace or its end
next-is : (calls : List Call) (f : ℕ) (changes : List Change) → All (IsOnLine calls) changes → (first_line ≤ next_line (end_of_trace calls) f changes) × (next_line (end_of_trace calls) f changes ≤ end_of_trace calls)
next-is calls f changes lines =
    let IsLine = λ (line : ℕ). (first_line ≤ line) × (line ≤ end_of_trace calls) in
    at-next IsLine (end_of_trace calls) f changes (omega arith, omega arith) (All-weaker (IsOnLine calls) (AtFrame IsLine f) (λ told is. at-frame IsLine f told (is.0, omega (arith, is.1))) changes lines)

-- later changes of the frame have later lines, and later changes of any frame or slot do not have earlier ones
later-of-frame : (told : FrameChange) (more : Change) → Precedes (change.Frame told) more → AtFrame (λ line. told.line < line) told.frame more
later-of-frame told (change.Frame more) before = λ same. elim before [
  | inl lt ↦ lt
  | inr here ↦ absurd (omega (arith, same, here.1))
]
later-of-frame told (change.Phase more) before = tt

not-before : (told more : Change) → Precedes told more → line_of told ≤ line_of more
not-before (change.Frame a) (change.Frame b) before = elim before [
  | inl lt ↦ omega (arith, lt)
  | inr here ↦ omega (arith, here.0)
]
not-before (change.Frame a) (change.Phase b) before = before
not-before (change.Phase a) (change.Frame b) before = omega (arith, before)
not-before (change.Phase a) (change.Phase b) before = elim before [
  | inl lt ↦ omega (arith, lt)
  | inr here ↦ omega (arith, here.0)
]

-- from the frame's first change on its bars follow one another to the end
follow-later : (calls : List Call) (f : ℕ) (changes : List Change) → IsInOrder changes → All (IsOnLine calls) changes
    → Follow (next_line (end_of_trace calls) f changes) (end_of_trace calls) (filter (is_bar_of f) (later_bars (end_of_trace calls) changes))
follow-later calls f [] order lines = refl
follow-later calls f (change.Frame told ∷ more) order lines =
    let end = end_of_trace calls in
    let is = All-head (IsOnLine calls) (change.Frame told) more lines in
    by_frame end (nat_eq told.frame f) (filter (is_bar_of f) (later_bars end more)) refl
    (at-next (λ line. told.line < line) end told.frame more is.1
    (All-weaker (Precedes (change.Frame told)) (AtFrame (λ line. told.line < line) told.frame) (later-of-frame told) more order.0))
    (follow-later calls f more order.1 (All-tail (IsOnLine calls) (change.Frame told) more lines))
  where
    by_frame : (end : ℕ) (same : Bool) (rest : List Bar) → nat_eq told.frame f ≡ same → told.line < next_line end told.frame more → Follow (next_line end f more) end rest
        → Follow (cond same told.line (next_line end f more)) end (cond same (record { frame = told.frame; custody = told.after; from = told.line; to = next_line end told.frame more } ∷ rest) rest)
    by_frame end true rest is lt later = (refl, lt, subst (λ g. Follow (next_line end g more) end rest) (sym (eqb-true told.frame f is)) later)
    by_frame end false rest is lt later = later
follow-later calls f (change.Phase told ∷ more) order lines = follow-later calls f more order.1 (All-tail (IsOnLine calls) (change.Phase told) more lines)

-- one of the first bars is the frame's
no-first : (m : State) (end f : ℕ) (changes : List Change) (low n : ℕ) → f < low → filter (is_bar_of f) (map (first_bar m end changes) (range_with_len low n)) ≡ []
no-first m end f changes low zero lt = refl
no-first m end f changes low (suc n) lt = cond-false (nat_eq low f) _ _ (ne_eqb low f (λ same. omega (arith, same, lt))) ∙ no-first m end f changes (low + 1) n (omega (arith, lt))

one-first : (m : State) (end f : ℕ) (changes : List Change) (low n : ℕ) → low ≤ f → f < low + n → filter (is_bar_of f) (map (first_bar m end changes) (range_with_len low n)) ≡ first_bar m end changes f ∷ []
one-first m end f changes low zero from below = absurd (omega (arith, from, below))
one-first m end f changes low (suc n) from below = elim (cases_eq low f) [
  | inl here ↦
      cond-true (nat_eq low f) _ _ (eq-eqb low f here)
      ∙ ap (λ (rest : List Bar). first_bar m end changes low ∷ rest) (no-first m end f changes (low + 1) n (omega (arith, here)))
      ∙ ap (λ g. first_bar m end changes g ∷ []) here
  | inr differs ↦ cond-false (nat_eq low f) _ _ (ne_eqb low f differs) ∙ one-first m end f changes (low + 1) n (omega (arith, from, differs)) (omega (arith, below))
]

follow : (m : State) (calls : List Call) (f : ℕ) → f < m.config.frames → Follow 1 (end_of_trace calls) (filter (is_bar_of f) (bars_of_trace m calls))
follow m calls f lt =
    let end = end_of_trace calls in
    let changes = custody m calls in
    let first = map (first_bar m end changes) (range_with_len 0 m.config.frames) in
    let later = filter (is_bar_of f) (later_bars end changes) in
    let are : filter (is_bar_of f) (bars_of_trace m calls) ≡ first_bar m end changes f ∷ later =
    filter-append (is_bar_of f) first (later_bars end changes) ∙ ap (λ (bars : List Bar). bars ++ later) (one-first m end f changes 0 m.config.frames (omega arith) (omega (arith, lt))) in
    let next = next-is calls f changes (on-lines m calls) in
    subst (Follow 1 end) (sym are) (refl, omega (arith, next.0), follow-later calls f changes (ordered m calls) (on-lines m calls))

-- a change on another line is not on this one
elsewhere : (line f : ℕ) (told : Change) → (line_of told ≡ line → ⊥) → is_of_frame line f told ≡ false
elsewhere line f (change.Frame told) differs = and_left _ _ (ne_eqb told.line line differs)
elsewhere line f (change.Phase told) differs = refl

-- nothing is reported of the frame up to its first change
untold-until : (end line f : ℕ) (changes : List Change) → IsInOrder changes → line < next_line end f changes → is_told changes line f ≡ false
untold-until end line f [] order lt = refl
untold-until end line f (change.Frame told ∷ more) order lt = by_frame (nat_eq told.frame f) refl (untold-until end line f more order.1) lt
  where
    by_frame : (same : Bool) → nat_eq told.frame f ≡ same → (line < next_line end f more → is_told more line f ≡ false) → line < cond same told.line (next_line end f more) → (is_of_frame line f (change.Frame told) || is_told more line f) ≡ false
    by_frame true is rest lt =
        or_from _ _ (elsewhere line f (change.Frame told) (λ same. omega (arith, same, lt)))
        (list_any_none (is_of_frame line f) more (All-weaker (Precedes (change.Frame told)) (λ more. is_of_frame line f more ≡ false) (λ later before. elsewhere line f later (λ same. omega (arith, same, lt, not-before (change.Frame told) later before))) more order.0))
    by_frame false is rest lt = or_from _ _ (and_right (nat_eq told.line line) _ is) (rest lt)
untold-until end line f (change.Phase told ∷ more) order lt = untold-until end line f more order.1 lt

-- these changes are all that is reported of lines after this one
record AreLater (m : State) (calls : List Call) (line : ℕ) (changes : List Change) : Type 0 where
  all : (n f : ℕ) → line < n → is_told (custody m calls) n f ≡ is_told changes n f
  later : All (λ told. line ≤ line_of told) changes
  order : IsInOrder changes
  lines : All (IsOnLine calls) changes
  tell : All (IsFrameTold m calls) changes

-- the changes after a change
after-frame : (m : State) (calls : List Call) (line : ℕ) (told : FrameChange) (more : List Change) → AreLater m calls line (change.Frame told ∷ more) → AreLater m calls told.line more
after-frame m calls line told more are =
    let low : line ≤ told.line = All-head (λ told. line ≤ line_of told) (change.Frame told) more are.later in
    record {
      all = λ n f lt. are.all n f (omega (arith, low, lt)) ∙ ap (λ b. b || is_told more n f) (elsewhere n f (change.Frame told) (λ same. omega (arith, same, lt)));
      later = All-weaker (Precedes (change.Frame told)) (λ more. told.line ≤ line_of more) (not-before (change.Frame told)) more are.order.0;
      order = are.order.1;
      lines = All-tail (IsOnLine calls) (change.Frame told) more are.lines;
      tell = All-tail (IsFrameTold m calls) (change.Frame told) more are.tell;
    }

after-phase : (m : State) (calls : List Call) (line : ℕ) (told : PhaseChange) (more : List Change) → AreLater m calls line (change.Phase told ∷ more) → AreLater m calls line more
after-phase m calls line told more are = record {
  all = are.all;
  later = All-tail (λ told. line ≤ line_of told) (change.Phase told) more are.later;
  order = are.order.1;
  lines = All-tail (IsOnLine calls) (change.Phase told) more are.lines;
  tell = All-tail (IsFrameTold m calls) (change.Phase told) more are.tell;
}

-- from a line up to the frame's next change its custody stays
stays-until : (m : State) (calls : List Call) → IsLawful m → (i f : ℕ) (changes : List Change) → AreLater m calls (i + 1) changes → (k : ℕ) → i ≤ k → k + 1 < next_line (end_of_trace calls) f changes → custody_at (state_at m calls k) f ≡ custody_at (state_at m calls i) f
stays-until m calls is i f changes are k from below =
    let next = next-is calls f changes are.lines in
    still m calls is i k f (record { begins = from; ends = omega (arith, below, next.1) })
    (λ n low high. are.all (first_line + n) f (omega (arith, low)) ∙ untold-until (end_of_trace calls) (first_line + n) f changes are.order (omega (arith, high, below)))
    k from (omega arith)

tell-later : (m : State) (calls : List Call) → IsLawful m → (line : ℕ) (changes : List Change) → AreLater m calls line changes → All (Tells m calls) (later_bars (end_of_trace calls) changes)
tell-later m calls is line [] are = All-nil (Tells m calls)
tell-later m calls is line (change.Frame told ∷ more) are =
    let low = (All-head (IsOnLine calls) (change.Frame told) more are.lines).0 in
    let here : told.line ≡ (told.line - 1) + 1 = omega (arith, low) in
    let there : told.line - 1 ≡ (told.line - first_line) + 1 = omega (arith, low) in
    let later = after-frame m calls line told more are in
    All-cons (Tells m calls) _ (later_bars (end_of_trace calls) more)
    (λ k from below.
    stays-until m calls is (told.line - 1) told.frame more (subst (λ n. AreLater m calls n more) here later) k (omega (arith, from)) below
    ∙ ap (λ n. custody_at (state_at m calls n) told.frame) there
    ∙ (All-head (IsFrameTold m calls) (change.Frame told) more are.tell).after (told.line - first_line) (omega (arith, low)))
    (tell-later m calls is told.line more later)
tell-later m calls is line (change.Phase told ∷ more) are = tell-later m calls is line more (after-phase m calls line told more are)

tell : (m : State) (calls : List Call) → IsLawful m → All (Tells m calls) (bars_of_trace m calls)
tell m calls is =
    let end = end_of_trace calls in
    let changes = custody m calls in
    let are : AreLater m calls 1 changes = record {
      all = λ n f lt. refl;
      later = All-weaker (IsOnLine calls) (λ told. 1 ≤ line_of told) (λ told is. omega (arith, is.0)) changes (on-lines m calls);
      order = ordered m calls;
      lines = on-lines m calls;
      tell = tells_frames m calls;
    } in
    All-append (Tells m calls) (map (first_bar m end changes) (range_with_len 0 m.config.frames)) (later_bars end changes)
    (All-map (Tells m calls) (first_bar m end changes) (range_with_len 0 m.config.frames) (λ i d lt k from below. stays-until m calls is 0 _ changes are k (omega arith) below))
    (tell-later m calls is 1 changes are)

pub bars_are : (m : State) (calls : List Call) → IsLawful m → AreBars m calls
bars_are m calls is = record {
  follow = follow m calls;
  tell = tell m calls is;
}
