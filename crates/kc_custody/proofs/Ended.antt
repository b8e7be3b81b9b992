-- The endings of frames, with a change of one more.
use Rattle.std.proofs.Common.{ℕ, ◌≡◌, ◌<◌, ◌==◌, false, List, [], ◌∷◌, length, get_or, set, None, refl, sym, inl, inr, get_or-set_other, get_or-set_same}
use Rattle.std.proofs.Math.ListN.{length-set}
use Rattle.std.proofs.lemmas.Bool.{cases_eq, ne_eqb}
use Rattle.kc_types.specs.declared.custody.FrameChange.{FrameChange}
use Rattle.kc_types.specs.declared.custody.Change.TheVariants as change
use Rattle.kc_types.specs.declared.custody.Event.{Event}
use Rattle.kc_types.specs.declared.custody.Event.TheVariants as event
use Rattle.kc_model.specs.Lives.{end_of_sharing}
use Rattle.kc_custody.specs.Endings.{FrameEndings, no_endings, line_of_ending, NotesChange, NotesEvent}
use Rattle.kc_custody.proofs.Appended.{or-none}

-- an event that ends no sharing
pub noted-left : (told : Event) (endings : List FrameEndings) → ((f : ℕ) → end_of_sharing f (told ∷ []) ≡ None) → NotesEvent told endings endings
noted-left told endings none = record {
  count = refl;
  each = λ f n has. (has, sym (rw (none f) (or-none (line_of_ending endings f n))));
}

-- the endings of the changed frame take the change in
pub noted-by : (told : FrameChange) (endings : List FrameEndings) (was own : FrameEndings) → told.frame < length endings → was ≡ get_or endings told.frame no_endings → NotesChange told was own
    → NotesEvent (event.Change (change.Frame told)) endings (set endings told.frame own)
noted-by told endings was own here at notes = record {
  count = length-set endings told.frame own;
  each = λ f n has. elim (cases_eq f told.frame) [
    | inl same ↦ rw (same, get_or-set_same endings told.frame own no_endings here, ← at) (notes n (rw (same, ← at) at has))
    | inr other ↦
        let apart : (told.frame == f) ≡ false = ne_eqb told.frame f (λ e. other (sym e)) in
        rw (get_or-set_other endings told.frame f own no_endings other, apart) (has, sym (or-none (line_of_ending endings f n)))
  ];
}
