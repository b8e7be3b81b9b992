-- Events gone over from the last to the first.
use Rattle.std.proofs.Common.{ℕ, zero, suc, ◌≡◌, ◌<◌, ◌+◌, ◌-◌, map, All, List, [], ◌∷◌, ◌++◌, length, reverse, drop, slice_set, slice_index_or, Some, refl, ap, ◌∙◌, subst, arith, drop-cons, add-one}
use Rattle.std.proofs.lemmas.Grind.{common_steps}
use Rattle.std.proofs.lemmas.List.{reverse-append}
use Rattle.std.proofs.lemmas.List.Elements.{All-tail}
use Rattle.std.proofs.Math.ListN.{length-set}
use Rattle.kc_types.specs.declared.custody.Bar.{Bar}
use Rattle.kc_types.specs.declared.custody.FrameChange.{FrameChange}
use Rattle.kc_types.specs.declared.custody.Change.{Change}
use Rattle.kc_types.specs.declared.custody.Change.TheVariants as change
use Rattle.kc_types.specs.declared.custody.Event.{Event}
use Rattle.kc_types.specs.declared.custody.Event.TheVariants as event
use Rattle.std.specs.List.{range_with_len}
use Rattle.kc_model.specs.State.{State}
use Rattle.kc_model.specs.Events.{changes_in}
use Rattle.kc_model.specs.Bars.{later_bars, next_line, first_bar}
use Rattle.kc_picture.specs.Frames.{IsIn, AreNextLines, told_in}

-- the bar from a change on up to a line
abbrev pub bar_from : FrameChange → ℕ → Bar
bar_from told to = record { frame = told.frame; custody = told.after; from = told.line; to = to }

-- of the events from this one on the bars are made, and the next line of each frame is noted
pub record AreNoted (frames end i : ℕ) (events : List Event) (made : List Bar) (next : List ℕ) : Type 0 where
  pub bars : reverse made ≡ later_bars end (changes_in (drop i events))
  pub lines : AreNextLines frames end (changes_in (drop i events)) next

-- the frames that some events change exist, so those that the later of them change do
in-drop : (frames i : ℕ) (events : List Event) → All (IsIn frames) (changes_in events) → All (IsIn frames) (changes_in (drop i events))
in-drop frames zero events each = each
in-drop frames (suc i) [] each = each
in-drop frames (suc i) (event.Change change ∷ more) each = in-drop frames i more (All-tail (IsIn frames) change (changes_in more) each)
in-drop frames (suc i) (event.Read vm ∷ more) each = in-drop frames i more each
in-drop frames (suc i) (event.Write vm ∷ more) each = in-drop frames i more each

-- an event at a place is the first of those from there on
split-at : (i : ℕ) (events : List Event) (e : Event) → i < length events → e ≡ slice_index_or events i e → drop i events ≡ e ∷ drop (i + 1) events
split-at i events e low at = drop-cons events i e low ∙ rw (← at, add-one) refl

-- a frame that an event changes exists
in-first : (frames : ℕ) (e : Event) (more : List Event) (told : FrameChange) → Some told ≡ told_in e → All (IsIn frames) (changes_in (e ∷ more)) → told.frame < frames
in-first frames (event.Change (change.Frame t)) more told is each = let same : told ≡ t = cc in rw same (each 0 (change.Frame t) (omega arith))
in-first frames (event.Change (change.Phase t)) more told is each = cc
in-first frames (event.Read vm) more told is each = cc
in-first frames (event.Write vm) more told is each = cc

pub in-at : (frames i : ℕ) (events : List Event) (e : Event) (told : FrameChange) → i < length events → e ≡ slice_index_or events i e → Some told ≡ told_in e → All (IsIn frames) (changes_in events) → told.frame < frames
in-at frames i events e told low at is each = in-first frames e (drop (i + 1) events) told is (subst (λ es. All (IsIn frames) (changes_in es)) (split-at i events e low at) (in-drop frames i events each))

-- a change of a frame adds the bar from it on, and its line is the frame's next
noted-first : (frames end : ℕ) (e : Event) (more : List Event) (told : FrameChange) (made : List Bar) (next : List ℕ) → Some told ≡ told_in e → told.frame < frames
    → reverse made ≡ later_bars end (changes_in more) → AreNextLines frames end (changes_in more) next
    → (reverse (made ++ bar_from told (slice_index_or next told.frame 0) ∷ []) ≡ later_bars end (changes_in (e ∷ more))) × AreNextLines frames end (changes_in (e ∷ more)) (slice_set next told.frame told.line)
noted-first frames end (event.Change (change.Frame t)) more told made next is low bars lines =
    let same : told ≡ t = cc in
    let to : slice_index_or next t.frame 0 ≡ next_line end t.frame (changes_in more) = lines.each t.frame (rw same at low) in
    let within : t.frame < length next = rw lines.long (rw same at low) in
    let next_at : (f : ℕ) → f < frames → slice_index_or (slice_set next t.frame t.line) f 0 ≡ next_line end f (change.Frame t ∷ changes_in more) = λ f lt. grind (arith, common_steps, lines.each f lt) in
    rw (same, to) (
      reverse-append made (bar_from t (next_line end t.frame (changes_in more)) ∷ []) ∙ ap (λ bs. bar_from t (next_line end t.frame (changes_in more)) ∷ bs) bars,
      record { long = rw length-set lines.long; each = next_at },
    )
noted-first frames end (event.Change (change.Phase t)) more told made next is low bars lines = cc
noted-first frames end (event.Read vm) more told made next is low bars lines = cc
noted-first frames end (event.Write vm) more told made next is low bars lines = cc

pub noted-frame : (frames end i : ℕ) (events : List Event) (e : Event) (told : FrameChange) (made : List Bar) (next : List ℕ) → i < length events → e ≡ slice_index_or events i e → Some told ≡ told_in e
    → All (IsIn frames) (changes_in events) → AreNoted frames end (i + 1) events made next → AreNoted frames end i events (made ++ bar_from told (slice_index_or next told.frame 0) ∷ []) (slice_set next told.frame told.line)
noted-frame frames end i events e told made next low at is each noted =
    let both = noted-first frames end e (drop (i + 1) events) told made next is (in-at frames i events e told low at is each) noted.bars noted.lines in
    let split = split-at i events e low at in
    record { bars = rw split both.0; lines = rw split both.1 }

-- a first bar before those of the frames above it
pub more-first : (g frames : ℕ) (m : State) (end : ℕ) (changes : List Change) (made later : List Bar) → g < frames
    → reverse made ≡ map (first_bar m end changes) (range_with_len (g + 1) (frames - (g + 1))) ++ later
    → reverse (made ++ first_bar m end changes g ∷ []) ≡ map (first_bar m end changes) (range_with_len g (frames - g)) ++ later
more-first g frames m end changes made later low before =
    let more : frames - g ≡ suc (frames - (g + 1)) = omega arith in
    rw more (reverse-append made (first_bar m end changes g ∷ []) ∙ ap (λ bs. first_bar m end changes g ∷ bs) before)
