-- What is reported of the frames that a call may change.
use Rattle.std.proofs.Common.{ℕ, ◌≡◌, ◌<◌, ◌≤◌, inl, inr, Bool, true, false, cond, List, [], ◌∷◌, map, filter, length, refl, sym, ap, subst, ◌∙◌, arith, Option, Some, None}
use Rattle.std.specs.Option.{option_to_list}
use Rattle.std.proofs.lemmas.Bool.{cases_Bool, cases_lt}
use Rattle.std.proofs.lemmas.List.{get_or_past}
use Rattle.kc_types.specs.declared.call.Call.{Call}
use Rattle.kc_types.specs.declared.owner.Owner.TheVariants.{Core}
use Rattle.kc_types.specs.declared.custody.FrameChange.{FrameChange}
use Rattle.kc_model.specs.State.{State, untouched}
use Rattle.kc_model.specs.Lawful.{IsLawful}
use Rattle.kc_model.specs.Next.{next}
use Rattle.kc_model.specs.Resources.{is_in}
use Rattle.kc_model.specs.Custody.{custody_at, custody_of, has_moved, frame_change, frame_changes_by}
use Rattle.kc_model.proofs.States.Sizes.{sized-next}
use Rattle.kc_model.proofs.Custody.Same.{not-moved}
use Rattle.kc_custody.specs.Movable.{movable}
use Rattle.kc_custody.specs.Marks.{mark_of, settled, differs, changed_from}
use Rattle.kc_custody.proofs.Ordered.{IsRisingFrom}
use Rattle.kc_custody.proofs.Moved.{stays}
use Rattle.kc_custody.proofs.Ranges.{filter-range}

-- a frame that does not exist is as one of the core's
pub custody-past : (m : State) (f : ℕ) → IsLawful m → (f < m.config.frames → false ≡ true) → custody_of (untouched Core) ≡ custody_at m f
custody-past m f is none = elim (cases_lt f m.config.frames) [
  | inl low ↦ let h = none low in cc
  | inr past ↦ sym (ap custody_of (get_or_past m.frames f (untouched Core) (rw is.frames past)))
]

-- no frame past the last has a custody of its own
past-still : (m : State) (call : Call) (f : ℕ) → IsLawful m → m.config.frames ≤ f → has_moved m (next m call).1 f ≡ false
past-still m call f is past =
    let before : custody_at m f ≡ custody_of (untouched Core) = ap custody_of (get_or_past m.frames f (untouched Core) (rw is.frames past)) in
    let long : length (next m call).1.frames ≡ m.config.frames = (sized-next m call).frames ∙ is.frames in
    let after : custody_at (next m call).1 f ≡ custody_of (untouched Core) = ap custody_of (get_or_past (next m call).1.frames f (untouched Core) (rw long past)) in
    not-moved m (next m call).1 f (after ∙ sym before)

-- a frame that a call moves exists, and is one that it may move
moved-among : (m : State) (call : Call) (f : ℕ) → IsLawful m → has_moved m (next m call).1 f ≡ true → (f < m.config.frames) × (is_in (movable m call) f ≡ true)
moved-among m call f is moved = (
  elim (cases_lt f m.config.frames) [ inl low ↦ low | inr past ↦ let still = past-still m call f is past in absurd cc ],
  elim (cases_Bool (is_in (movable m call) f)) [ inl held ↦ held | inr absent ↦ let still = not-moved m (next m call).1 f (stays m call f absent) in absurd cc ],
)

-- marks that are settled and differ are the changes of the frames that moved
marks-told : (line : ℕ) (old new : State) (fs : List ℕ) → filter differs (map (settled new) (map (mark_of line old) fs)) ≡ map (frame_change line old new) (filter (has_moved old new) fs)
marks-told line old new [] = refl
marks-told line old new (f ∷ fs) = by_test (has_moved old new f) (filter differs (map (settled new) (map (mark_of line old) fs))) (filter (has_moved old new) fs) (marks-told line old new fs)
  where
    by_test : (b : Bool) (xs : List FrameChange) (gs : List ℕ) → xs ≡ map (frame_change line old new) gs → cond b (frame_change line old new f ∷ xs) xs ≡ map (frame_change line old new) (cond b (f ∷ gs) gs)
    by_test true xs gs same = ap (λ xs. frame_change line old new f ∷ xs) same
    by_test false xs gs same = same

-- what is reported of rising frames that hold all that a call may move is what the call changed
pub told-is : (line : ℕ) (m : State) (call : Call) (fs : List ℕ) → IsLawful m → IsRisingFrom 0 fs → ((f : ℕ) → is_in (movable m call) f ≡ true → is_in fs f ≡ true)
    → filter differs (map (settled (next m call).1) (map (mark_of line m) fs)) ≡ frame_changes_by line m (next m call).1
told-is line m call fs is rising held =
    marks-told line m (next m call).1 fs
    ∙ ap (map (frame_change line m (next m call).1)) (sym (filter-range (has_moved m (next m call).1) 0 m.config.frames fs rising (λ f low moved.
    let at = moved-among m call f is moved in
    let lt = at.0 in
    (omega (arith, lt), held f at.1))))

-- of a call that may change one frame at most
rises : (at : Option ℕ) → IsRisingFrom 0 (option_to_list at)
rises None = tt
rises (Some f) = (omega arith, tt)

pub told-only : (line : ℕ) (m : State) (call : Call) (at : Option ℕ) → IsLawful m → movable m call ≡ option_to_list at
    → changed_from (next m call).1 (map (mark_of line m) (option_to_list at)) ≡ frame_changes_by line m (next m call).1
told-only line m call at is same = told-is line m call (option_to_list at) is (rises at) (λ f has. subst (λ (fs : List ℕ). is_in fs f ≡ true) same has)
