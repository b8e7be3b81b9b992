-- How the lives of some events grow by one event more.
use Rattle.std.proofs.Common.{ℕ, zero, suc, ◌≡◌, ◌≢◌, ◌<◌, ◌≤◌, ◌+◌, ◌==◌, ◌&&◌, Bool, true, false, cond, List, [], ◌∷◌, ◌++◌, length, map, All, get_or, set, Option, Some, None, refl, sym, ap, ◌∙◌, inl, inr, arith, append-nil, append_assoc, length-append, get_or-set_other, get_or-set_same}
use Rattle.std.proofs.Math.ListN.{length-set}
use Rattle.std.proofs.Math.Seq.{get_or-append_seam}
use Rattle.std.proofs.lemmas.List.{map-append, length-map, get_or-map, get_or_append_left, get_or-append-add, get_or_past, ext_get_or}
use Rattle.std.proofs.lemmas.Bool.{cases_eq, cases_lt, eq-eqb, eqb-true, ne_eqb}
use Rattle.kc_types.specs.Limits.{slot_limit}
use Rattle.kc_types.specs.declared.slot.Phase.TheVariants.{Empty, Booting}
use Rattle.kc_types.specs.declared.custody.PhaseChange.{PhaseChange}
use Rattle.kc_types.specs.declared.custody.FrameChange.{FrameChange}
use Rattle.kc_types.specs.declared.custody.Change.TheVariants as change
use Rattle.kc_types.specs.declared.custody.Event.{Event}
use Rattle.kc_types.specs.declared.custody.Event.TheVariants as event
use Rattle.kc_types.specs.declared.custody.Life.{Life}
use Rattle.kc_model.specs.Custody.{same_phase}
use Rattle.kc_model.specs.Lives.{lives, life_from, life_of, end_of_sharing}
use Rattle.kc_custody.specs.declared.register.Register.{Register}
use Rattle.kc_custody.specs.declared.growing.Lives.{Lives}
use Rattle.kc_custody.specs.Endings.{FrameEndings, NotesChanges, NumbersStretches}
use Rattle.kc_custody.specs.Growing.{HasRoom}
use Rattle.kc_custody.specs.Within.{IsWithin}
use Rattle.kc_custody.specs.Growing.{Growing, new_life, finished, is_open, Start, is_open_since, with_event, counted, IsGrowing, EndsBy, concerns, IsOf}
use Rattle.kc_custody.specs.Grown.{Notes, NotesAll, start_from, starts, no_start, no_life, AreGrowing, AreOpen, AreGrown, AreUnset, HaveOwnPlaces, GivesTo}
use Rattle.kc_custody.proofs.Appended.{open-more}
use Rattle.kc_custody.proofs.Ended.{noted-left}
use Rattle.kc_custody.proofs.Grows.{closed-left, unconcerned-left}

-- the lives are those of their starts
abbrev pub life_at : Start → Life
life_at start = life_of start.vm start.line start.more

pub lives-are : (told : List Event) → lives told ≡ map life_at (starts told)
lives-are [] = refl
lives-are (e ∷ more) = ap (λ ys. life_from e more ++ ys) (lives-are more) ∙ ap (λ ys. ys ++ map life_at (starts more)) (by_event e) ∙ sym (map-append life_at (start_from e more) (starts more))
  where
    by_event : (e : Event) → life_from e more ≡ map life_at (start_from e more)
    by_event (event.Change (change.Phase told)) = by_booting (same_phase told.phase Booting)
      where
        by_booting : (begins : Bool) → cond begins (life_of told.vm told.line more ∷ []) [] ≡ map life_at (cond begins (record { vm = told.vm; line = told.line; more = more } ∷ []) [])
        by_booting true = refl
        by_booting false = refl
    by_event (event.Change (change.Frame told)) = refl
    by_event (event.Read w) = refl
    by_event (event.Write w) = refl

pub starts-more : (told : List Event) (e : Event) → starts (told ++ e ∷ []) ≡ map (with_event e) (starts told) ++ starts (e ∷ [])
starts-more [] e = refl
starts-more (x ∷ more) e = ap (λ ys. start_from x (more ++ e ∷ []) ++ ys) (starts-more more e) ∙ ap (λ ys. ys ++ (map (with_event e) (starts more) ++ starts (e ∷ []))) (by_event x)
    ∙ sym (append_assoc (map (with_event e) (start_from x more)) (map (with_event e) (starts more)) (starts (e ∷ []))) ∙ ap (λ ys. ys ++ starts (e ∷ [])) (sym (map-append (with_event e) (start_from x more) (starts more)))
  where
    by_event : (x : Event) → start_from x (more ++ e ∷ []) ≡ map (with_event e) (start_from x more)
    by_event (event.Change (change.Phase told)) = by_booting (same_phase told.phase Booting)
      where
        by_booting : (begins : Bool) → cond begins (record { vm = told.vm; line = told.line; more = more ++ e ∷ [] } ∷ []) [] ≡ map (with_event e) (cond begins (record { vm = told.vm; line = told.line; more = more } ∷ []) [])
        by_booting true = refl
        by_booting false = refl
    by_event (event.Change (change.Frame told)) = refl
    by_event (event.Read w) = refl
    by_event (event.Write w) = refl

-- a start is of events that are no more than all
pub start-short : (told : List Event) (i : ℕ) → length (get_or (starts told) i no_start).more ≤ length told
start-short [] i = omega arith
start-short (x ∷ more) i = by_event (λ j. let short = start-short more j in omega (arith, short)) x
  where
    by_event : ((j : ℕ) → length (get_or (starts more) j no_start).more ≤ length (x ∷ more)) → (x : Event) → length (get_or (start_from x more ++ starts more) i no_start).more ≤ length (x ∷ more)
    by_event rest (event.Change (change.Phase told)) = by_booting (same_phase told.phase Booting) i
      where
        by_booting : (begins : Bool) (i : ℕ) → length (get_or (cond begins (record { vm = told.vm; line = told.line; more = more } ∷ []) [] ++ starts more) i no_start).more ≤ length (x ∷ more)
        by_booting true zero = omega arith
        by_booting true (suc i) = rest i
        by_booting false i = rest i
    by_event rest (event.Change (change.Frame told)) = rest i
    by_event rest (event.Read w) = rest i
    by_event rest (event.Write w) = rest i

-- the lives at the end
finished-is : (endings : List FrameEndings) (start : Start) (life : Growing) → IsGrowing endings start life → finished endings life ≡ life_at start
unfolding counted
finished-is endings start life is = ap (finished endings) is.counts ∙ rw (is.shared, is.frames) refl

-- each life takes an event in, or stays as it is
pub given : (passes : ℕ → Bool) (e : Event) (ending : ℕ) (before after : List FrameEndings) (begun : List Start) (old new : Register)
    → ((v : ℕ) → passes v ≡ false → concerns v e ≡ false) → ((v : ℕ) → passes v ≡ true → IsOf v e) → ((i : ℕ) → HasRoom (get_or begun i no_start).more)
    → EndsBy e ending before after → GivesTo passes e ending old new → AreOpen begun old.places.items → AreGrowing before begun old.lives.items
    → AreGrowing after (map (with_event e) begun) new.lives.items
given passes e ending before after begun old new others own room ends gives places each = record {
  count = gives.count ∙ each.count ∙ sym (length-map begun (with_event e));
  each = λ i low.
      let here : i < length begun = rw (length-map begun (with_event e)) at low in
      rw (get_or-map (with_event e) begun i no_start no_start here) (by_open i here (is_open_since (get_or begun i no_start)) refl);
}
  where
    by_open : (i : ℕ) → i < length begun → (alive : Bool) → is_open_since (get_or begun i no_start) ≡ alive → IsGrowing after (with_event e (get_or begun i no_start)) (get_or new.lives.items i no_life)
    by_open i here false closed =
        let kept = gives.left i (λ v passes_v at. let still = (places.held v i at).2 in let never = sym closed ∙ still in cc) in
        rw kept (closed-left e (get_or begun i no_start) before after (get_or old.lives.items i no_life) ends.noted closed (each.each i here))
    by_open i here true alive = by_slot (passes (get_or begun i no_start).vm) refl
      where
        by_slot : (b : Bool) → passes (get_or begun i no_start).vm ≡ b → IsGrowing after (with_event e (get_or begun i no_start)) (get_or new.lives.items i no_life)
        by_slot true passed = gives.taken (get_or begun i no_start).vm i passed (rw each.count here) (places.marked i here alive) (get_or begun i no_start) before after (room i) ends alive (own (get_or begun i no_start).vm passed) (each.each i here)
        by_slot false passed =
            let kept = gives.left i (λ v passes_v at. let same : (get_or begun i no_start).vm ≡ v = (places.held v i at).1 in let never = sym passed ∙ ap passes same ∙ passes_v in cc) in
            rw kept (unconcerned-left e (get_or begun i no_start) before after (get_or old.lives.items i no_life) ends.noted alive (others (get_or begun i no_start).vm passed) (each.each i here))

pub own-places : (begun : List Start) (places : List (Option ℕ)) → AreOpen begun places → HaveOwnPlaces places
own-places begun places are = λ v w i first second. sym (are.held v i first).1 ∙ (are.held w i second).1

-- the lives that are told at the end
pub finished-all : (endings : List FrameEndings) (told : List Event) (some : List Growing) → AreGrowing endings (starts told) some → map (finished endings) some ≡ lives told
finished-all endings told some each =
    ext_get_or (life_at no_start) (map (finished endings) some) (map life_at (starts told)) (length-map some (finished endings) ∙ each.count ∙ sym (length-map (starts told) life_at))
    (λ i low.
    let here : i < length some = rw (length-map some (finished endings)) at low in
    let begun : i < length (starts told) = rw each.count at here in
    get_or-map (finished endings) some i no_life (life_at no_start) here ∙ finished-is endings (get_or (starts told) i no_start) (get_or some i no_life) (each.each i begun) ∙ sym (get_or-map life_at (starts told) i no_start (life_at no_start) begun))
    ∙ sym (lives-are told)

-- no events
pub growing-none : (endings : List FrameEndings) → AreGrowing endings (starts []) []
growing-none endings = record { count = refl; each = λ i low. absurd (omega (arith, low)) }

pub open-none : (places : List (Option ℕ)) → AreUnset places → AreOpen (starts []) places
open-none places unset = record {
  count = unset.count;
  marked = λ i low alive. absurd (omega (arith, low));
  held = λ v i at. absurd (none v i at);
}
  where
    none : (v i : ℕ) → get_or places v None ≢ Some i
    none v i at = elim (cases_lt v (length places)) [
      | inl low ↦ let here = unset.each v (rw (← unset.count) low) in let never = sym here ∙ at in cc
      | inr past ↦ let beyond = get_or_past places v None past in let never = sym beyond ∙ at in cc
    ]

-- the places while no life begins or ends
pub open-left : (e : Event) (begun : List Start) (places : List (Option ℕ)) → ((v : ℕ) → is_open v (e ∷ []) ≡ true) → AreOpen begun places → AreOpen (map (with_event e) begun) places
open-left e begun places alive are = record {
  count = are.count;
  marked = λ i low still. let here : i < length begun = rw (length-map begun (with_event e)) at low in
      let at = get_or-map (with_event e) begun i no_start no_start here in
      rw at (are.marked i here (first-open (is_open_since (get_or begun i no_start)) (is_open (get_or begun i no_start).vm (e ∷ [])) (sym (open-more (get_or begun i no_start).vm (get_or begun i no_start).more e) ∙ (rw at at still))));
  held = λ v i at. let held = are.held v i at in
      (rw (length-map begun (with_event e)) held.0, rw (get_or-map (with_event e) begun i no_start no_start held.0) held.1, rw (get_or-map (with_event e) begun i no_start no_start held.0) (open-more (get_or begun i no_start).vm (get_or begun i no_start).more e ∙ rw (held.2, alive (get_or begun i no_start).vm) refl));
}
  where
    first-open : (was is : Bool) → (was && is) ≡ true → was ≡ true
    first-open true is both = refl
    first-open false is both = both

start-room : (told : List Event) → HasRoom told → (i : ℕ) → HasRoom (get_or (starts told) i no_start).more
start-room told room i = let short = start-short told i in omega (arith, short, room)

-- an event by which no life begins or ends
pub grown-by : (frames : ℕ) (e : Event) (ending : ℕ) (before : List Event) (old new : Lives) (passes : ℕ → Bool)
    → ((v : ℕ) → passes v ≡ false → concerns v e ≡ false) → ((v : ℕ) → passes v ≡ true → IsOf v e) → starts (e ∷ []) ≡ [] → ((v : ℕ) → is_open v (e ∷ []) ≡ true)
    → HasRoom before → EndsBy e ending old.endings new.endings → GivesTo passes e ending old.register new.register → AreGrown frames before old → AreGrown frames (before ++ e ∷ []) new
grown-by frames e ending before old new passes others own none alive room ends gives grown =
    let begun : starts (before ++ e ∷ []) ≡ map (with_event e) (starts before) = starts-more before e ∙ ap (λ ys. map (with_event e) (starts before) ++ ys) none ∙ append-nil (map (with_event e) (starts before)) in
    record {
      count = ends.noted.count ∙ grown.count;
      each = rw begun (given passes e ending old.endings new.endings (starts before) old.register new.register others own (start-room before room) ends gives grown.places grown.each);
      places = rw (begun, gives.places) (open-left e (starts before) old.register.places.items alive grown.places);
    }

pub ends-left : (e : Event) (ending : ℕ) (endings : List FrameEndings) → ((f : ℕ) → end_of_sharing f (e ∷ []) ≡ None) → ((told : FrameChange) → e ≢ event.Change (change.Frame told)) → EndsBy e ending endings endings
ends-left e ending endings none other = record { noted = noted-left e endings none; numbered = λ told is. absurd (other told is) }

-- a slot's place is written, since its life ends
open-set : (e : Event) (begun : List Start) (places : List (Option ℕ)) (w : ℕ) (place : Option ℕ) → ((v : ℕ) → v ≢ w → is_open v (e ∷ []) ≡ true) → is_open w (e ∷ []) ≡ false → AreOpen begun places
    → ((i : ℕ) → i < length begun → is_open_since (get_or (map (with_event e) begun) i no_start) ≡ true → get_or (set places w place) (get_or (map (with_event e) begun) i no_start).vm None ≡ Some i)
    × ((v i : ℕ) → v ≢ w → get_or (set places w place) v None ≡ Some i → (i < length begun) × ((get_or (map (with_event e) begun) i no_start).vm ≡ v) × (is_open_since (get_or (map (with_event e) begun) i no_start) ≡ true))
open-set e begun places w place alive ended are = (
  (λ i here still.
      let s = get_or begun i no_start in
      let at = get_or-map (with_event e) begun i no_start no_start here in
      let both : (is_open_since s && is_open s.vm (e ∷ [])) ≡ true = sym (open-more s.vm s.more e) ∙ rw at at still in
      let other : s.vm ≢ w = λ same. let never = sym ended ∙ ap (λ v. is_open v (e ∷ [])) (sym same) ∙ second (is_open_since s) (is_open s.vm (e ∷ [])) both in cc in
      rw at (get_or-set_other places w s.vm place None other ∙ are.marked i here (first (is_open_since s) (is_open s.vm (e ∷ [])) both))),
  (λ v i other there.
      let held = are.held v i (sym (get_or-set_other places w v place None other) ∙ there) in
      let s = get_or begun i no_start in
      let at = get_or-map (with_event e) begun i no_start no_start held.0 in
      let is : is_open s.vm (e ∷ []) ≡ true = ap (λ u. is_open u (e ∷ [])) held.1 ∙ alive v other in
      rw at (held.0, held.1, open-more s.vm s.more e ∙ rw (held.2, is) refl)),
)
  where
    first : (was is : Bool) → (was && is) ≡ true → was ≡ true
    first true is both = refl
    first false is both = both

    second : (was is : Bool) → (was && is) ≡ true → is ≡ true
    second true is both = both
    second false is both = cc

turn-other : (told : PhaseChange) (v : ℕ) → v ≢ told.vm → is_open v (event.Change (change.Phase told) ∷ []) ≡ true
turn-other told v other = let apart : (told.vm == v) ≡ false = ne_eqb told.vm v (λ same. other (sym same)) in rw apart refl

phase-other : (told : PhaseChange) (v : ℕ) → (told.vm == v) ≡ false → concerns v (event.Change (change.Phase told)) ≡ false
phase-other told v other = other

phase-own : (told : PhaseChange) (v : ℕ) → (told.vm == v) ≡ true → IsOf v (event.Change (change.Phase told))
phase-own told v same = eqb-true told.vm v same

-- a slot is emptied
pub grown-empty : (frames : ℕ) (told : PhaseChange) (before : List Event) (old new : Lives) (mid : Register) → told.phase ≡ Empty → new.endings ≡ old.endings
    → GivesTo (λ v. told.vm == v) (event.Change (change.Phase told)) 0 old.register mid → new.register.lives.items ≡ mid.lives.items → new.register.places.items ≡ set mid.places.items told.vm None
    → told.vm < slot_limit → HasRoom before → AreGrown frames before old → AreGrown frames (before ++ event.Change (change.Phase told) ∷ []) new
grown-empty frames told before old new mid phase endings gives listed places low room grown =
    let e = event.Change (change.Phase told) in
    let same : (told.vm == told.vm) ≡ true = eq-eqb told.vm told.vm refl in
    let begun : starts (before ++ e ∷ []) ≡ map (with_event e) (starts before) = let none : starts (e ∷ []) ≡ [] = rw phase refl in starts-more before e ∙ ap (λ ys. map (with_event e) (starts before) ++ ys) none ∙ append-nil (map (with_event e) (starts before)) in
    let set_places = open-set e (starts before) old.register.places.items told.vm None (turn-other told) (rw (same, phase) refl) grown.places in
    let count = length-map (starts before) (with_event e) in
    let written : new.register.places.items ≡ set old.register.places.items told.vm None = places ∙ ap (λ xs. set xs told.vm None) gives.places in
    record {
      count = ap length endings ∙ grown.count;
      each = rw (begun, listed, endings) (given (λ v. told.vm == v) e 0 old.endings old.endings (starts before) old.register mid (phase-other told) (phase-own told) (start-room before room) (ends-left e 0 old.endings (λ f. refl) (λ changed is. cc)) gives grown.places grown.each);
      places = rw (begun, written) (record {
        count = length-set old.register.places.items told.vm None ∙ grown.places.count;
        marked = λ i here still. set_places.0 i (rw count at here) still;
        held = λ v i there. elim (cases_eq v told.vm) [
          | inl own ↦ let none = get_or-set_same old.register.places.items told.vm None None (rw grown.places.count low) in let never = sym none ∙ rw own at there in cc
          | inr other ↦ let held = set_places.1 v i other there in (rw count held.0, held.1, held.2)
        ];
      });
    }

new-growing : (endings : List FrameEndings) (v line : ℕ) → IsGrowing endings (record { vm = v; line = line; more = [] }) (new_life v line)
unfolding counted
new-growing endings v line = record { counts = refl; frames = refl; members = λ alive. record { count = refl; same = λ f. refl }; shared = refl; begun = tt }

-- a life more
growing-more : (endings : List FrameEndings) (begun : List Start) (some : List Growing) (v line : ℕ) → AreGrowing endings begun some
    → AreGrowing endings (begun ++ record { vm = v; line = line; more = [] } ∷ []) (some ++ new_life v line ∷ [])
growing-more endings begun some v line are = record {
  count = length-append some (new_life v line ∷ []) ∙ ap (λ n. n + 1) are.count ∙ sym (length-append begun (record { vm = v; line = line; more = [] } ∷ []));
  each = λ i low. elim (cases_lt i (length begun)) [
    | inl here ↦ rw (get_or_append_left begun (record { vm = v; line = line; more = [] } ∷ []) no_start i here, get_or_append_left some (new_life v line ∷ []) no_life i (rw are.count here)) (are.each i here)
    | inr past ↦
        let count = length-append begun (record { vm = v; line = line; more = [] } ∷ []) in
        let last : i ≡ length begun = omega (arith, low, past, count) in
        let at : get_or (some ++ new_life v line ∷ []) (length begun) no_life ≡ new_life v line = rw (← are.count) (get_or-append_seam some (new_life v line) [] no_life) in
        rw (last, get_or-append_seam begun (record { vm = v; line = line; more = [] }) [] no_start, at) (new-growing endings v line)
  ];
}

-- a VM is registered
pub grown-booting : (frames : ℕ) (told : PhaseChange) (before : List Event) (old new : Lives) (mid : Register) → told.phase ≡ Booting → new.endings ≡ old.endings
    → GivesTo (λ v. told.vm == v) (event.Change (change.Phase told)) 0 old.register mid → new.register.lives.items ≡ mid.lives.items ++ new_life told.vm told.line ∷ []
    → new.register.places.items ≡ set mid.places.items told.vm (Some (length mid.lives.items))
    → told.vm < slot_limit → HasRoom before → AreGrown frames before old → AreGrown frames (before ++ event.Change (change.Phase told) ∷ []) new
grown-booting frames told before old new mid phase endings gives listed places low room grown =
    let e = event.Change (change.Phase told) in
    let first : Start = record { vm = told.vm; line = told.line; more = [] } in
    let olds = map (with_event e) (starts before) in
    let same : (told.vm == told.vm) ≡ true = eq-eqb told.vm told.vm refl in
    let begun : starts (before ++ e ∷ []) ≡ olds ++ first ∷ [] = let one : starts (e ∷ []) ≡ first ∷ [] = rw phase refl in starts-more before e ∙ ap (λ ys. olds ++ ys) one in
    let n = length (starts before) in
    let set_places = open-set e (starts before) old.register.places.items told.vm (Some n) (turn-other told) (rw (same, phase) refl) grown.places in
    let count : length olds ≡ n = length-map (starts before) (with_event e) in
    let counted_lives : length mid.lives.items ≡ n = gives.count ∙ grown.each.count in
    let written : new.register.places.items ≡ set old.register.places.items told.vm (Some n) = places ∙ ap (λ m. set mid.places.items told.vm (Some m)) counted_lives ∙ ap (λ xs. set xs told.vm (Some n)) gives.places in
    let last : get_or (olds ++ first ∷ []) n no_start ≡ first = rw (← count) (get_or-append_seam olds first [] no_start) in
    let here : get_or (set old.register.places.items told.vm (Some n)) told.vm None ≡ Some n = get_or-set_same old.register.places.items told.vm (Some n) None (rw grown.places.count low) in
    let all : length (olds ++ first ∷ []) ≡ n + 1 = length-append olds (first ∷ []) ∙ ap (λ m. m + 1) count in
    record {
      count = ap length endings ∙ grown.count;
      each = rw (begun, listed, endings) (growing-more old.endings olds mid.lives.items told.vm told.line
          (given (λ v. told.vm == v) e 0 old.endings old.endings (starts before) old.register mid (phase-other told) (phase-own told) (start-room before room) (ends-left e 0 old.endings (λ f. refl) (λ changed is. cc)) gives grown.places grown.each));
      places = rw (begun, written) (record {
        count = length-set old.register.places.items told.vm (Some n) ∙ grown.places.count;
        marked = λ i short still. elim (cases_lt i n) [
          | inl low_i ↦ let at = get_or_append_left olds (first ∷ []) no_start i (rw count low_i) in rw at (set_places.0 i low_i (rw at at still))
          | inr past ↦ let is : i ≡ n = omega (arith, short, past, all) in rw (is, last) here
        ];
        held = λ v i there. elim (cases_eq v told.vm) [
          | inl own ↦ let is : n ≡ i = some-is n i (sym here ∙ rw own at there) in rw (← is, last, all) (omega arith, sym own, refl)
          | inr other ↦ let held = set_places.1 v i other there in let at = get_or_append_left olds (first ∷ []) no_start i (rw count held.0) in rw (at, all) (let h = held.0 in omega (arith, h), held.1, held.2)
        ];
      });
    }
  where
    some-is : (i j : ℕ) → Some i ≡ Some j → i ≡ j
    some-is i j same = cc

-- a slot is active or dead
pub grown-measured : (frames : ℕ) (told : PhaseChange) (before : List Event) (old new : Lives) → same_phase told.phase Booting ≡ false → same_phase told.phase Empty ≡ false → new.endings ≡ old.endings
    → GivesTo (λ v. told.vm == v) (event.Change (change.Phase told)) 0 old.register new.register → HasRoom before → AreGrown frames before old → AreGrown frames (before ++ event.Change (change.Phase told) ∷ []) new
grown-measured frames told before old new begins ends endings gives room grown =
    let e = event.Change (change.Phase told) in
    grown-by frames e 0 before old new (λ v. told.vm == v) (phase-other told) (phase-own told) (rw begins refl) (λ v. rw (begins, ends) (still (told.vm == v))) room (rw endings (ends-left e 0 old.endings (λ f. refl) (λ changed is. cc))) gives grown
  where
    still : (own : Bool) → cond (own && false) false (cond (own && false) false true) ≡ true
    still true = refl
    still false = refl

pub grown-read : (frames w : ℕ) (before : List Event) (old new : Lives) → new.endings ≡ old.endings → GivesTo (λ v. w == v) (event.Read w) 0 old.register new.register → HasRoom before → AreGrown frames before old → AreGrown frames (before ++ event.Read w ∷ []) new
grown-read frames w before old new endings gives room grown =
    grown-by frames (event.Read w) 0 before old new (λ v. w == v) (λ v other. other) (λ v own. eqb-true w v own) refl (λ v. refl) room (rw endings (ends-left (event.Read w) 0 old.endings (λ f. refl) (λ changed is. cc))) gives grown

pub grown-write : (frames w : ℕ) (before : List Event) (old new : Lives) → new.endings ≡ old.endings → GivesTo (λ v. w == v) (event.Write w) 0 old.register new.register → HasRoom before → AreGrown frames before old → AreGrown frames (before ++ event.Write w ∷ []) new
grown-write frames w before old new endings gives room grown =
    grown-by frames (event.Write w) 0 before old new (λ v. w == v) (λ v other. other) (λ v own. eqb-true w v own) refl (λ v. refl) room (rw endings (ends-left (event.Write w) 0 old.endings (λ f. refl) (λ changed is. cc))) gives grown

pub grown-frame : (frames ending : ℕ) (told : FrameChange) (before : List Event) (old new : Lives) → NotesChanges told old.endings new.endings → (told.frame < length old.endings → NumbersStretches told new.endings ending)
    → (HaveOwnPlaces old.register.places.items → GivesTo (λ v. concerns v (event.Change (change.Frame told))) (event.Change (change.Frame told)) ending old.register new.register)
    → told.frame < frames → HasRoom before → AreGrown frames before old → AreGrown frames (before ++ event.Change (change.Frame told) ∷ []) new
grown-frame frames ending told before old new notes numbers gives low room grown =
    let e = event.Change (change.Frame told) in
    let there : told.frame < length old.endings = rw grown.count low in
    grown-by frames e ending before old new (λ v. concerns v e) (λ v other. other) (λ v own. tt) refl (λ v. refl) room
    (record { noted = notes there; numbered = λ changed is. let same : told ≡ changed = cc in rw (← same) (numbers there) })
    (gives (own-places (starts before) old.register.places.items grown.places)) grown

-- some events are taken in, and then more
pub notes-some : (some more : List Event) (old mid new : Lives) → NotesAll some old mid → NotesAll more mid new → NotesAll (some ++ more) old new
notes-some some more old mid new first second = λ frames told within room grown.
    let all = length-append told (some ++ more) in
    let own = length-append some more in
    let before = length-append told some in
    let both = length-append (told ++ some) more in
    let early : All (IsWithin frames) some = λ k d low. rw (get_or_append_left some more d k low) at (within k d (omega (arith, own, low))) in
    let late : All (IsWithin frames) more = λ k d low. rw (get_or-append-add some more k d) at (within (length some + k) d (omega (arith, own, low))) in
    let short : HasRoom (told ++ some) = omega (arith, all, own, before, room) in
    let long : HasRoom ((told ++ some) ++ more) = omega (arith, all, own, before, both, room) in
    rw (← append_assoc told some more) (second frames (told ++ some) late long (first frames told early short grown))

pub notes-none : (lives : Lives) → NotesAll [] lives lives
notes-none lives = λ frames told within room grown. rw (append-nil told) grown

pub notes-one : (e : Event) (old new : Lives) → Notes e old new → NotesAll (e ∷ []) old new
notes-one e old new notes = λ frames told within room grown.
    let count = length-append told (e ∷ []) in
    notes frames told (within 0 e (omega arith)) (omega (arith, count, room)) grown
