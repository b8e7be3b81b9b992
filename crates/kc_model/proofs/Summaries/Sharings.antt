-- The sharings of a life are those that its calls begin, each up to the next call after which its frame is not shared.
use Rattle.std.proofs.Common.{ℕ, zero, suc, ◌≡◌, ◌<◌, ◌≤◌, ◌+◌, ◌-◌, ◌&&◌, ◌||◌, inl, inr, Bool, true, false, cond, not, nat_eq, nat_lt, List, [], ◌∷◌, ◌++◌, map, filter, length, get_or, All, Option, Some, refl, sym, ap, ap₂, subst, ◌∙◌, arith, append_assoc}
use Rattle.std.specs.List.{list_any, range_with_len, flat_map, find}
use Rattle.std.specs.Option.{option_map}
use Rattle.std.proofs.lemmas.Bool.{cases_Bool, cases_eq, cond-true, cond-false, eq-eqb, eqb-true, ne_eqb, and_left, and_parts, ltb-true, false_from_ne_true}
use Rattle.std.proofs.lemmas.List.Concat.{flat_map-cons}
use Rattle.std.proofs.lemmas.List.Elements.{All-nil, All-cons, All-head, All-tail, All-filter, All-map, filter_passes}
use Rattle.kc_types.specs.Configuration.{slot_count}
use Rattle.kc_types.specs.declared.call.Call.{Call}
use Rattle.kc_types.specs.declared.slot.Phase.TheVariants.{Empty, Booting}
use Rattle.kc_types.specs.declared.custody.Change.TheVariants as change
use Rattle.kc_types.specs.declared.custody.Event.{Event}
use Rattle.kc_types.specs.declared.custody.Event.TheVariants as event
use Rattle.kc_types.specs.declared.custody.Sharing.{Sharing}
use Rattle.kc_model.specs.State.{State, frame_at, slot_at}
use Rattle.kc_model.specs.Lawful.{IsLawful}
use Rattle.kc_model.specs.Next.{next}
use Rattle.kc_model.specs.Footprints.{state_at, call_at}
use Rattle.kc_model.specs.Custody.{has_moved, same_phase, frame_change, first_line}
use Rattle.kc_model.specs.Events.{access_by}
use Rattle.kc_model.specs.Lives.{is_owned_by, is_turn, life_in, line_of_turn, end_of_sharing, sharing_from, sharings}
use Rattle.kc_model.specs.Summaries.{last_place, phase_at, grants_at, shares_first, unshared_by, sharing_at}
use Rattle.kc_model.proofs.Custody.Same.{is-same}
use Rattle.kc_model.proofs.Custody.Told.{moved, turned, among-range, below-range}
use Rattle.kc_model.proofs.Footprints.Reaches.{config-at}
use Rattle.kc_model.proofs.Refusals.Served.{positive}
use Rattle.kc_model.proofs.Custody.Ordered.{in-range}
use Rattle.kc_model.proofs.Summaries.Called.{slot_event, front, rear, access-all, events-parted}
use Rattle.kc_model.proofs.Summaries.Lives.{told, has-turned, differs-itself, exists, turn-untold, continued-parts, slots-within, life-closed, life-from as life-onward}
use Rattle.kc_model.proofs.Summaries.Lived.{IsInLife, phase-is, turn-here, turn-not, line-through, is-turned, others-parts, others-turn-not}

-- the events of frames
abbrev frame_events : ℕ → State → State → List ℕ → List Event
frame_events n old new fs = map event.Change (map change.Frame (map (frame_change n old new) fs))

-- events that end no sharing
abbrev pub EndsNone : ℕ → Event → Type 0
EndsNone f told = (more : List Event) → end_of_sharing f (told ∷ more) ≡ end_of_sharing f more

pub end-through : (f : ℕ) (xs ys : List Event) → All (EndsNone f) xs → end_of_sharing f (xs ++ ys) ≡ end_of_sharing f ys
end-through f [] ys none = refl
end-through f (x ∷ xs) ys none = All-head (EndsNone f) x xs none (xs ++ ys) ∙ end-through f xs ys (All-tail (EndsNone f) x xs none)

slots-end-none : (f n : ℕ) (old new : State) (vs : List ℕ) → All (EndsNone f) (map (slot_event n old new) vs)
slots-end-none f n old new vs = All-map (EndsNone f) (slot_event n old new) vs (λ i d lt more. refl)

-- an event of a frame ends its sharing if the frame is not shared after the call
ends : State → ℕ → ℕ → Bool
ends new f g = nat_eq g f && nat_eq (frame_at new g).share 0

frames-end : (f n : ℕ) (old new : State) (fs : List ℕ) (ys : List Event) → end_of_sharing f (frame_events n old new fs ++ ys) ≡ cond (list_any (ends new f) fs) (Some n) (end_of_sharing f ys)
unfolding ends
frames-end f n old new [] ys = refl
frames-end f n old new (g ∷ gs) ys = by_end (ends new f g) (frames-end f n old new gs ys)
  where
    by_end : (b : Bool) → end_of_sharing f (frame_events n old new gs ++ ys) ≡ cond (list_any (ends new f) gs) (Some n) (end_of_sharing f ys)
        → cond b (Some n) (end_of_sharing f (frame_events n old new gs ++ ys)) ≡ cond (b || list_any (ends new f) gs) (Some n) (end_of_sharing f ys)
    by_end true rest = refl
    by_end false rest = rest

-- no event of frames above it ends its sharing
above-end : (f n : ℕ) (old new : State) (p : ℕ → Bool) (low count : ℕ) (ys : List Event) → f < low → end_of_sharing f (frame_events n old new (filter p (range_with_len low count)) ++ ys) ≡ end_of_sharing f ys
unfolding ends
above-end f n old new p low count ys lt =
    frames-end f n old new (filter p (range_with_len low count)) ys
    ∙ cond-false (list_any (ends new f) (filter p (range_with_len low count))) (Some n) _ (below-range (ends new f) p low count f (λ g differs. and_left (nat_eq g f) (nat_eq (frame_at new g).share 0) (ne_eqb g f differs)) lt)

-- a frame that was shared has moved if it is not shared after the call
share-moved : (old new : State) (f : ℕ) → 0 < (frame_at old f).share → (has_moved old new f && ends new f f) ≡ nat_eq (frame_at new f).share 0
unfolding ends
share-moved old new f shared = by_moved (has_moved old new f) refl
  where
    by_moved : (b : Bool) → has_moved old new f ≡ b → (b && (nat_eq f f && nat_eq (frame_at new f).share 0)) ≡ nat_eq (frame_at new f).share 0
    by_moved true is = ap (λ b. b && nat_eq (frame_at new f).share 0) (eq-eqb f f refl)
    by_moved false still =
        let same = ap (λ custody. custody.share) (is-same old new f still) in
        sym (ne_eqb (frame_at new f).share 0 (λ none. omega (arith, shared, same, none)))

-- the events of a call end the sharing of a frame that was shared if it is not shared after the call
call-ends : (f n : ℕ) (m : State) (call : Call) (more : List Event) → f < m.config.frames → 0 < (frame_at m f).share
    → end_of_sharing f ((front n m call ++ rear n m call) ++ more) ≡ cond (nat_eq (frame_at (next m call).1 f).share 0) (Some n) (end_of_sharing f more)
unfolding ends
call-ends f n m call more low shared =
    let new = (next m call).1 in
    let access = access_by m call (next m call).0 in
    let frames = frame_events n m new (moved m new) in
    let slots = rear n m call in
    let among = among-range (ends new f) (has_moved m new) 0 m.config.frames f (λ g differs. and_left (nat_eq g f) (nat_eq (frame_at new g).share 0) (ne_eqb g f differs)) (omega arith) (omega (arith, low)) ∙ share-moved m new f shared in
    ap (end_of_sharing f) (append_assoc (access ++ frames) slots more ∙ append_assoc access frames (slots ++ more))
    ∙ end-through f access (frames ++ (slots ++ more)) (access-all (EndsNone f) (λ w more. refl) (λ w more. refl) m call (next m call).0)
    ∙ frames-end f n m new (moved m new) (slots ++ more)
    ∙ ap₂ (λ b (later : Option ℕ). cond b (Some n) later) among (end-through f slots more (slots-end-none f n m new (turned m new)))

-- an event that is not a turn of the slot
share-more : (v : ℕ) (told : Event) (more : List Event) → IsInLife v told → sharings v (told ∷ more) ≡ sharing_from v told more ++ sharings v more
share-more v told more is = cond-false (is_turn v Booting told) [] _ is.unregistered ∙ cond-false (is_turn v Empty told) [] _ is.kept

-- what holds of the elements of a map holds of the map's results
pub from-map : {X Y : Type 0} (P : Y → Type 0) (make : X → Y) (xs : List X) → All P (map make xs) → All (λ x. P (make x)) xs
from-map P make [] each = All-nil (λ x. P (make x))
from-map P make (x ∷ xs) each = All-cons (λ x. P (make x)) x xs (All-head P (make x) (map make xs) each) (from-map P make xs (All-tail P (make x) (map make xs) each))

-- events that begin no sharing
pub record BeginsNone (v : ℕ) (told : Event) : Type 0 where
  pub goes_on : IsInLife v told
  pub none : (more : List Event) → sharing_from v told more ≡ []

pub share-through : (v : ℕ) (xs ys : List Event) → All (BeginsNone v) xs → sharings v (xs ++ ys) ≡ sharings v ys
share-through v [] ys none = refl
share-through v (x ∷ xs) ys none =
    let first = All-head (BeginsNone v) x xs none in
    share-more v x (xs ++ ys) first.goes_on ∙ ap (λ (here : List Sharing). here ++ sharings v (xs ++ ys)) (first.none (xs ++ ys)) ∙ share-through v xs ys (All-tail (BeginsNone v) x xs none)

-- if the slot is emptied its sharings end
share-closed : (v n : ℕ) (old new : State) (vs : List ℕ) (more : List Event) → list_any (λ w. nat_eq w v) vs ≡ true → (slot_at new v).phase ≡ Empty → sharings v (map (slot_event n old new) vs ++ more) ≡ []
share-closed v n old new [] more any empty = cc
share-closed v n old new (w ∷ ws) more any empty =
    let told = slot_event n old new w in
    let rest = map (slot_event n old new) ws ++ more in
    elim (cases_eq w v) [
      | inl same ↦
          cond-false (is_turn v Booting told) [] _ (turn-not v n old new w Booting (λ e booting. let h = sym empty ∙ booting in cc))
          ∙ cond-true (is_turn v Empty told) [] _ (turn-here v n old new w Empty same empty)
      | inr other ↦
          share-more v told rest (record { unregistered = turn-not v n old new w Booting (λ same. absurd (other same)); kept = turn-not v n old new w Empty (λ same. absurd (other same)) })
          ∙ share-closed v n old new ws more (rw (ne_eqb w v other) at any) empty
    ]

-- whether the VM shares the frame after a call, and it was not shared before it
abbrev pub starts : ℕ → State → State → ℕ → Bool
starts v old new f = is_owned_by v (frame_at new f).owner && (nat_eq (frame_at old f).share 0 && nat_lt 0 (frame_at new f).share)

abbrev pub started : ℕ → State → Option ℕ → ℕ → Sharing
started n new to f = record { frame = f; gfn = (frame_at new f).gfn; from = n; to = to }

starts-moved : (v : ℕ) (old new : State) (f : ℕ) → has_moved old new f ≡ false → starts v old new f ≡ false
starts-moved v old new f still = false_from_ne_true (starts v old new f) (λ is.
    let same = ap (λ custody. custody.share) (is-same old new f still) in
    let shares = (and_parts (is_owned_by v (frame_at new f).owner) (nat_eq (frame_at old f).share 0 && nat_lt 0 (frame_at new f).share) is).1 in
    let both = and_parts (nat_eq (frame_at old f).share 0) (nat_lt 0 (frame_at new f).share) shares in
    let none = eqb-true (frame_at old f).share 0 both.0 in
    let some = ltb-true 0 (frame_at new f).share both.1 in
    omega (arith, same, none, some))

-- the same, with its end as later events report it
abbrev pub starting : ℕ → State → List Event → ℕ → Sharing
starting n new later f = started n new (end_of_sharing f later) f

-- the sharings that changes of frames begin
pub frames-share : (v n : ℕ) (old new : State) (later : List Event) (low count : ℕ)
    → sharings v (frame_events n old new (filter (has_moved old new) (range_with_len low count)) ++ later) ≡ map (starting n new later) (filter (starts v old new) (range_with_len low count)) ++ sharings v later
frames-share v n old new later low zero = refl
frames-share v n old new later low (suc count) =
    by_moved (has_moved old new low) refl (starts v old new low) refl (above-end low n old new (has_moved old new) (low + 1) count later (omega arith)) (frames-share v n old new later (low + 1) count)
  where
    by_start : (b : Bool) (to : Option ℕ) (rest : List Sharing) (fs : List ℕ) → to ≡ end_of_sharing low later → rest ≡ map (starting n new later) fs ++ sharings v later
        → cond b (started n new to low ∷ []) [] ++ rest ≡ map (starting n new later) (cond b (low ∷ fs) fs) ++ sharings v later
    by_start true to rest fs same is = ap₂ (λ t (r : List Sharing). started n new t low ∷ r) same is
    by_start false to rest fs same is = is

    by_moved : (b : Bool) → has_moved old new low ≡ b → (s : Bool) → starts v old new low ≡ s
        → end_of_sharing low (frame_events n old new (filter (has_moved old new) (range_with_len (low + 1) count)) ++ later) ≡ end_of_sharing low later
        → sharings v (frame_events n old new (filter (has_moved old new) (range_with_len (low + 1) count)) ++ later) ≡ map (starting n new later) (filter (starts v old new) (range_with_len (low + 1) count)) ++ sharings v later
        → sharings v (frame_events n old new (cond b (low ∷ filter (has_moved old new) (range_with_len (low + 1) count)) (filter (has_moved old new) (range_with_len (low + 1) count))) ++ later)
        ≡ map (starting n new later) (cond s (low ∷ filter (starts v old new) (range_with_len (low + 1) count)) (filter (starts v old new) (range_with_len (low + 1) count))) ++ sharings v later
    by_moved true is s begins to rest =
        let more = frame_events n old new (filter (has_moved old new) (range_with_len (low + 1) count)) ++ later in
        ap (λ b. cond b (started n new (end_of_sharing low more) low ∷ []) [] ++ sharings v more) begins
        ∙ by_start s (end_of_sharing low more) (sharings v more) (filter (starts v old new) (range_with_len (low + 1) count)) to rest
    by_moved false still true begins to rest = let not = starts-moved v old new low still in cc
    by_moved false still false begins to rest = rest

module _ (m : State) (calls : List Call) where
  -- the line of the first of `d` calls from a place on after which the frame is not shared, if there is one
  abbrev pub ended_in : ℕ → ℕ → ℕ → Option ℕ
  ended_in f k d = option_map (λ n. first_line + n) (find (λ k. nat_eq (grants_at m calls f (k + 1)) 0) (range_with_len k d))

  -- what is reported of the end of a sharing
  pub ends-at : (f : ℕ) → f < m.config.frames → (d k : ℕ) → k + d ≡ length calls → 0 < grants_at m calls f k → end_of_sharing f (told m calls d k) ≡ ended_in f k d
  ends-at f low zero k whole shared = refl
  ends-at f low (suc d) k whole shared =
      let line = first_line + k in
      let old = state_at m calls k in
      let new = state_at m calls (suc k) in
      let more = told m calls d (suc k) in
      let next : suc k ≡ k + 1 = omega arith in
      let there : f < old.config.frames = rw (config-at m calls k) low in
      ap (λ events. end_of_sharing f (events ++ more)) (events-parted line old (call_at calls k))
      ∙ call-ends f line old (call_at calls k) more there shared
      ∙ by_share (nat_eq (grants_at m calls f (suc k)) 0) refl (ends-at f low d (suc k) (omega (arith, whole)))
      ∙ ap (λ b. option_map (λ n. first_line + n) (cond b (Some k) (find (λ k. nat_eq (grants_at m calls f (k + 1)) 0) (range_with_len (k + 1) d)))) (ap (λ n. nat_eq (grants_at m calls f n) 0) next)
    where
      by_share : (b : Bool) → nat_eq (grants_at m calls f (suc k)) 0 ≡ b → (0 < grants_at m calls f (suc k) → end_of_sharing f (told m calls d (suc k)) ≡ ended_in f (suc k) d)
          → cond b (Some (first_line + k)) (end_of_sharing f (told m calls d (suc k))) ≡ option_map (λ n. first_line + n) (cond b (Some k) (find (λ k. nat_eq (grants_at m calls f (k + 1)) 0) (range_with_len (k + 1) d)))
      by_share true is later = refl
      by_share false is later = let next : suc k ≡ k + 1 = omega arith in later (positive (grants_at m calls f (suc k)) is) ∙ ap (λ n. ended_in f n d) next

  -- the sharings that the call at a place begins
  abbrev begun : ℕ → ℕ → List Sharing
  begun v k = map (sharing_at m calls k) (filter (shares_first m calls v k) (range_with_len 0 m.config.frames))

  pub same-on : {X : Type 0} (g h : ℕ → X) (xs : List ℕ) → All (λ x. g x ≡ h x) xs → map g xs ≡ map h xs
  same-on g h [] same = refl
  same-on g h (x ∷ xs) same = ap₂ (λ y ys. y ∷ ys) (All-head (λ x. g x ≡ h x) x xs same) (same-on g h xs (All-tail (λ x. g x ≡ h x) x xs same))

  call-begins : (v d k : ℕ) → k + suc d ≡ length calls
      → map (starting (first_line + k) (state_at m calls (suc k)) (told m calls d (suc k))) (filter (starts v (state_at m calls k) (state_at m calls (suc k))) (range_with_len 0 m.config.frames)) ≡ begun v k
  call-begins v d k whole =
      let line = first_line + k in
      let old = state_at m calls k in
      let new = state_at m calls (suc k) in
      let more = told m calls d (suc k) in
      let N = m.config.frames in
      let next : suc k ≡ k + 1 = omega arith in
      let left : d ≡ length calls - suc k = omega (arith, whole) in
      let each : All (λ f. starting line new more f ≡ record { frame = f; gfn = (frame_at new f).gfn; from = line; to = option_map (λ n. first_line + n) (unshared_by m calls f (suc k)) }) (filter (starts v old new) (range_with_len 0 N)) = λ i e lt.
      let f = get_or (filter (starts v old new) (range_with_len 0 N)) i e in
      let low = (All-filter (starts v old new) (λ f. (0 ≤ f) × (f < 0 + N)) (range_with_len 0 N) (in-range 0 N)) i e lt in
      let begins = filter_passes (starts v old new) (range_with_len 0 N) i e lt in
      let shares = (and_parts (is_owned_by v (frame_at new f).owner) (nat_eq (frame_at old f).share 0 && nat_lt 0 (frame_at new f).share) begins).1 in
      let some = ltb-true 0 (frame_at new f).share (and_parts (nat_eq (frame_at old f).share 0) (nat_lt 0 (frame_at new f).share) shares).1 in
      ap (λ to. started line new to f) (ends-at f (omega (arith, low.1)) d (suc k) (omega (arith, whole)) some ∙ ap (λ n. ended_in f (suc k) n) left) in
      same-on (starting line new more) (λ f. record { frame = f; gfn = (frame_at new f).gfn; from = line; to = option_map (λ n. first_line + n) (unshared_by m calls f (suc k)) }) (filter (starts v old new) (range_with_len 0 N)) each
      ∙ ap (λ n. map (λ f. record { frame = f; gfn = (frame_at (state_at m calls n) f).gfn; from = line; to = option_map (λ n. first_line + n) (unshared_by m calls f n) }) (filter (starts v old (state_at m calls n)) (range_with_len 0 N))) next

  -- the sharings that the calls of a stretch begin
  abbrev pub begun_from : ℕ → ℕ → ℕ → List Sharing
  begun_from v i j = flat_map (begun v) (range_with_len i (j - i))

  begun-none : (v i : ℕ) → begun_from v i i ≡ []
  begun-none v i = let none : i - i ≡ 0 = omega arith in rw none refl

  begun-more : (v i j : ℕ) → suc i ≤ j → begun_from v i j ≡ begun v i ++ begun_from v (suc i) j
  begun-more v i j lt =
      let some : j - i ≡ suc (j - suc i) = omega (arith, lt) in
      let next : i + 1 ≡ suc i = omega arith in
      ap (λ n. flat_map (begun v) (range_with_len i n)) some
      ∙ flat_map-cons (begun v) i (range_with_len (i + 1) (j - suc i))
      ∙ ap (λ n. begun v i ++ flat_map (begun v) (range_with_len n (j - suc i))) next

  -- a call, and what comes after it
  call-shares : (v d k : ℕ) → k + suc d ≡ length calls → (rest : List Sharing) → sharings v (rear (first_line + k) (state_at m calls k) (call_at calls k) ++ told m calls d (suc k)) ≡ rest
      → sharings v ((front (first_line + k) (state_at m calls k) (call_at calls k) ++ rear (first_line + k) (state_at m calls k) (call_at calls k)) ++ told m calls d (suc k)) ≡ begun v k ++ rest
  call-shares v d k whole rest is =
      let line = first_line + k in
      let old = state_at m calls k in
      let new = state_at m calls (suc k) in
      let more = told m calls d (suc k) in
      let access = access_by old (call_at calls k) (next old (call_at calls k)).0 in
      let frames = frame_events line old new (moved old new) in
      let slots = rear line old (call_at calls k) in
      let fs = filter (starts v old new) (range_with_len 0 old.config.frames) in
      let none = access-all (BeginsNone v) (λ w. record { goes_on = record { unregistered = refl; kept = refl }; none = λ more. refl }) (λ w. record { goes_on = record { unregistered = refl; kept = refl }; none = λ more. refl }) old (call_at calls k) (next old (call_at calls k)).0 in
      ap (sharings v) (append_assoc (access ++ frames) slots more ∙ append_assoc access frames (slots ++ more))
      ∙ share-through v access (frames ++ (slots ++ more)) none
      ∙ frames-share v line old new (slots ++ more) 0 old.config.frames
      ∙ ap₂ ◌++◌
      (same-on (starting line new (slots ++ more)) (starting line new more) fs (λ i e lt. ap (λ to. started line new to (get_or fs i e)) (end-through (get_or fs i e) slots more (slots-end-none (get_or fs i e) line old new (turned old new))))
      ∙ ap (λ config. map (starting line new more) (filter (starts v old new) (range_with_len 0 config.frames))) (config-at m calls k)
      ∙ call-begins v d k whole) is

module _ (m : State) (calls : List Call) (is : IsLawful m) (v : ℕ) (low : v < slot_count m.config) where
  -- the sharings of a life from a place on, as its events give them
  abbrev pub AreShared : ℕ → List Event → Type 0
  AreShared k told = sharings v told ≡ begun_from m calls v k (last_place calls (line_of_turn v Empty (life_in v told)))

  pub shared-from : (d k : ℕ) → k + d ≡ length calls → (phase_at m calls v k ≡ Empty → ⊥) → AreShared k (told m calls d k)
  shared-from zero k whole some = let last : k ≡ length calls = omega (arith, whole) in sym (begun-none m calls v k) ∙ ap (begun_from m calls v k) last
  shared-from (suc d) k whole some =
      let within : k < length calls = omega (arith, whole) in
      let line = first_line + k in
      let old = state_at m calls k in
      let new = state_at m calls (suc k) in
      let first = front line old (call_at calls k) in
      let slots = rear line old (call_at calls k) in
      let more = told m calls d (suc k) in
      subst (λ events. AreShared k (events ++ more)) (sym (events-parted line old (call_at calls k))) (elim (cases_Bool (same_phase (phase_at m calls v (suc k)) Empty)) [
        | inl same ↦
            let empty = phase-is (phase_at m calls v (suc k)) Empty same in
            let among = is-turned old new v (exists m calls is v low k within some more) (has-turned old new v (λ same. some (same ∙ empty))) in
            let ended = (life-closed m calls is v low k within some more empty).ended in
            let here : suc k ≡ (first_line + k) - 1 = omega arith in
            call-shares m calls v d k whole [] (share-closed v line old new (turned old new) more among empty)
            ∙ ap (λ (rest : List Sharing). begun m calls v k ++ rest) (sym (begun-none m calls v (suc k)))
            ∙ sym (begun-more m calls v k (suc k) (omega arith))
            ∙ ap (begun_from m calls v k) here
            ∙ ap (λ line. begun_from m calls v k (last_place calls line)) (sym ended)
        | inr not ↦
            let full : phase_at m calls v (suc k) ≡ Empty → ⊥ = λ empty. (let same = ap (λ p. same_phase p Empty) empty in differs-itself Empty (sym same ∙ not)) in
            let later = shared-from d (suc k) (omega (arith, whole)) full in
            let life = life-onward m calls is v low d (suc k) (omega (arith, whole)) full in
            let j = last_place calls (line_of_turn v Empty (life_in v more)) in
            let after : suc k ≤ j = subst (λ line. suc k ≤ last_place calls line) (sym life.1.ended) life.1.tells.begins in
            let within_life = slots-within m calls is v low k within some more full in
            let none : All (BeginsNone v) slots = All-map (BeginsNone v) (slot_event line old new) (turned old new) (λ i e lt. record { goes_on = from-map (IsInLife v) (slot_event line old new) (turned old new) within_life i e lt; none = λ more. refl }) in
            let ended = ap (line_of_turn v Empty) (continued-parts m calls is v low k within some more full) ∙ turn-untold m calls is v low k within some more Empty (life_in v more) (λ turns empty. full empty) in
            call-shares m calls v d k whole (begun_from m calls v (suc k) j) (share-through v slots more none ∙ later)
            ∙ sym (begun-more m calls v k j after)
            ∙ ap (λ line. begun_from m calls v k (last_place calls line)) (sym ended)
      ])

  -- events of other slots before them change nothing
  pub shared-beside : (n k : ℕ) (old new : State) (ws : List ℕ) (more : List Event) → All (λ w. w ≡ v → ⊥) ws → AreShared k more → AreShared k (map (slot_event n old new) ws ++ more)
  shared-beside n k old new ws more others are =
      let slots = map (slot_event n old new) ws in
      let none : All (BeginsNone v) slots = All-map (BeginsNone v) (slot_event n old new) ws
      (λ i e lt. record { goes_on = record { unregistered = turn-not v n old new _ Booting (λ same. absurd (others i e lt same)); kept = turn-not v n old new _ Empty (λ same. absurd (others i e lt same)) }; none = λ more. refl }) in
      let ended = ap (line_of_turn v Empty) (others-parts v n old new ws more others) ∙ line-through v Empty slots (life_in v more) (others-turn-not v n old new ws others Empty) in
      share-through v slots more none ∙ are ∙ ap (λ line. begun_from m calls v k (last_place calls line)) (sym ended)
