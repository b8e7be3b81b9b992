-- Frames and changes that are appended, one after another.
use Rattle.std.proofs.Common.{ℕ, ◌≡◌, ◌<◌, ◌≤◌, ◌+◌, ◌||◌, nat_lt, nat_le, Bool, true, false, cond, List, [], ◌∷◌, ◌++◌, map, filter, take, length, get_or, Option, Some, None, refl, sym, ap, ◌∙◌, append_assoc, append-nil}
use Rattle.std.specs.List.{range_with_len, filter_map, cons_option}
use Rattle.std.specs.Option.{option_to_list}
use Rattle.std.proofs.lemmas.List.{take_more, map_push, map-append}
use Rattle.std.proofs.lemmas.List.Elements.{filter-append, filter_map-append}
use Rattle.std.proofs.lemmas.Bool.{le-ltb, lt-leb}
use Rattle.kc_types.specs.Limits.{range_limit}
use Rattle.kc_types.specs.Configuration.{gfns_of}
use Rattle.kc_model.specs.State.{State, mapped_at}
use Rattle.kc_custody.specs.Movable.{mapped_in}
use Rattle.kc_types.specs.declared.custody.FrameChange.{FrameChange}
use Rattle.kc_types.specs.declared.custody.Event.{Event}
use Rattle.kc_core.proofs.Measuring.{range-more}
use Rattle.kc_custody.specs.Marks.{settled, differs, changed_from, frame_event}

one-of : (at : Option ℕ) → cons_option at [] ≡ option_to_list at
one-of None = refl
one-of (Some f) = refl

-- one guest frame more of a range
pub ranged-more : (get : ℕ → Option ℕ) (g n : ℕ) → filter_map get (range_with_len g (n + 1)) ≡ filter_map get (range_with_len g n) ++ option_to_list (get (g + n))
ranged-more get g n = ap (filter_map get) (range-more g n) ∙ filter_map-append get (range_with_len g n) ((g + n) ∷ []) ∙ ap (λ xs. filter_map get (range_with_len g n) ++ xs) (one-of (get (g + n)))

-- one mark more is compared
pub changed-more : (new : State) (marks : List FrameChange) (i : ℕ) (mark : FrameChange) → i < length marks → mark ≡ get_or marks i mark
    → changed_from new (take (i + 1) marks) ≡ changed_from new (take i marks) ++ cond (differs (settled new mark)) (settled new mark ∷ []) []
changed-more new marks i mark lt is =
    let last : take (i + 1) marks ≡ take i marks ++ mark ∷ [] = take_more marks i mark lt ∙ ap (λ x. take i marks ++ x ∷ []) (sym is) in
    ap (changed_from new) last
    ∙ ap (filter differs) (map_push (settled new) (take i marks) mark)
    ∙ filter-append differs (map (settled new) (take i marks)) (settled new mark ∷ [])

-- one mark more is compared, as an event
pub settled-more : (new : State) (marks : List FrameChange) (i : ℕ) (mark : FrameChange) → i < length marks → mark ≡ get_or marks i mark
    → map frame_event (changed_from new (take (i + 1) marks)) ≡ map frame_event (changed_from new (take i marks)) ++ cond (differs (settled new mark)) (frame_event (settled new mark) ∷ []) []
settled-more new marks i mark lt is =
    ap (map frame_event) (changed-more new marks i mark lt is)
    ∙ map-append frame_event (changed_from new (take i marks)) (cond (differs (settled new mark)) (settled new mark ∷ []) [])
    ∙ ap (λ (xs : List Event). map frame_event (changed_from new (take i marks)) ++ xs) (one-or-none (differs (settled new mark)) (settled new mark))
  where
    one-or-none : (b : Bool) (told : FrameChange) → map frame_event (cond b (told ∷ []) []) ≡ cond b (frame_event told ∷ []) []
    one-or-none true told = refl
    one-or-none false told = refl

-- it differs, or not
pub told-one : {X : Type 0} (told fn before : List X) (made : X) (b : Bool) → b ≡ true → told ≡ (fn ++ before) ++ made ∷ [] → told ≡ fn ++ (before ++ cond b (made ∷ []) [])
told-one told fn before made true is e = e ∙ append_assoc fn before (made ∷ [])
told-one told fn before made false is e = cc

pub told-none : {X : Type 0} (fn before : List X) (made : X) (b : Bool) → b ≡ false → fn ++ before ≡ fn ++ (before ++ cond b (made ∷ []) [])
told-none fn before made false none = ap (λ xs. fn ++ xs) (sym (append-nil before))
told-none fn before made true none = cc

untested : (a b : Bool) (xs : List ℕ) → a ≡ false → b ≡ false → xs ≡ cond (a || b) [] xs
untested false false xs x y = refl
untested false true xs x y = cc
untested true b xs x y = cc

-- all guest frames of a range
pub mapped-is : (m : State) (v g n i : ℕ) (frames : List ℕ) → n ≤ range_limit → g < gfns_of m.config.version → i ≡ n → frames ≡ filter_map (λ h. mapped_at m v h) (range_with_len g i) → frames ≡ mapped_in m v g n
mapped-is m v g n i frames few low same e =
    e ∙ ap (λ k. filter_map (λ h. mapped_at m v h) (range_with_len g k)) same
    ∙ untested (nat_lt range_limit n) (nat_le (gfns_of m.config.version) g) (filter_map (λ h. mapped_at m v h) (range_with_len g n)) (le-ltb range_limit n few) (lt-leb (gfns_of m.config.version) g low)
