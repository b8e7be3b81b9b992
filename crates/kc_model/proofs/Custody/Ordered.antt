-- Changes are in the order of their lines, and those of a call have first frames and then slots, both ascending; each
-- is of a frame or slot that exists, by a call of the trace.
use Rattle.std.proofs.Common.{ℕ, zero, suc, ◌≡◌, ◌<◌, ◌≤◌, ◌+◌, inl, inr, Bool, true, false, cond, List, [], ◌∷◌, ◌++◌, map, filter, All, refl, ap, arith}
use Rattle.std.specs.List.{range_with_len}
use Rattle.std.proofs.lemmas.List.Elements.{All-append, All-map, All-filter, All-weaker, All-head, All-tail}
use Rattle.std.proofs.lemmas.List.FromFn.{get_or-range_with_len, length-range_with_len}
use Rattle.kc_types.specs.Configuration.{Configuration, slot_count}
use Rattle.kc_types.specs.declared.call.Call.{Call}
use Rattle.kc_types.specs.declared.custody.Change.{Change}
use Rattle.kc_types.specs.declared.custody.Change.TheVariants as change
use Rattle.kc_model.specs.State.{State}
use Rattle.kc_model.specs.Next.{next}
use Rattle.kc_model.specs.Footprints.{state_at}
use Rattle.kc_model.specs.Custody.{has_moved, has_turned, frame_change, phase_change, frame_changes_by, phase_changes_by, changes_by, custody_from, custody, first_line}
use Rattle.kc_model.specs.CustodyLaws.{IsWithin, Precedes, IsInOrder}
use Rattle.kc_model.proofs.Footprints.Reaches.{config-at}
use Rattle.kc_model.proofs.Custody.Tells.{each-call}

-- the numbers of a range
pub in-range : (low n : ℕ) → All (λ x. (low ≤ x) × (x < low + n)) (range_with_len low n)
in-range low n k d lt =
    let at = get_or-range_with_len low n k d (omega (arith, lt, length-range_with_len low n)) in
    (omega (arith, at), omega (arith, at, lt, length-range_with_len low n))

-- what holds of each frame of a state, and of each slot, holds of the changes by a call
each-made : {X : Type 0} (P : Change → Type 0) (wrap : X → Change) (make : ℕ → X) (p : ℕ → Bool) (n : ℕ) → ((x : ℕ) → x < n → P (wrap (make x))) → All P (map wrap (map make (filter p (range_with_len 0 n))))
each-made P wrap make p n each =
    let numbers = range_with_len 0 n in
    All-map P wrap (map make (filter p numbers)) (All-map (λ told. P (wrap told)) make (filter p numbers)
    (All-filter p (λ x. P (wrap (make x))) numbers (All-weaker (λ x. (0 ≤ x) × (x < 0 + n)) (λ x. P (wrap (make x))) (λ x low. each x (omega (arith, low.1))) numbers (in-range 0 n))))

of-call : (P : Change → Type 0) (n : ℕ) (old new : State) → ((f : ℕ) → f < old.config.frames → P (change.Frame (frame_change n old new f))) → ((v : ℕ) → v < slot_count old.config → P (change.Phase (phase_change n old new v)))
    → All P (changes_by n old new)
of-call P n old new frames slots =
    All-append P (map change.Frame (frame_changes_by n old new)) (map change.Phase (phase_changes_by n old new))
    (each-made P change.Frame (frame_change n old new) (has_moved old new) old.config.frames frames)
    (each-made P change.Phase (phase_change n old new) (has_turned old new) (slot_count old.config) slots)

-- each is of a frame or slot that exists, by a call of the trace
pub within : (m : State) (calls : List Call) → All (IsWithin m calls) (custody m calls)
within m calls = each-call (IsWithin m calls) first_line m calls (λ k lt.
    let frames : (state_at m calls k).config.frames ≡ m.config.frames = ap (λ (c : Configuration). c.frames) (config-at m calls k) in
    let slots : slot_count (state_at m calls k).config ≡ slot_count m.config = ap slot_count (config-at m calls k) in
    of-call (IsWithin m calls) (first_line + k) (state_at m calls k) (state_at m calls (suc k))
    (λ f low. (omega arith, omega (arith, lt), omega (arith, low, frames)))
    (λ v low. (omega arith, omega (arith, lt), omega (arith, low, slots))))

abbrev pub line_of : Change → ℕ
line_of (change.Frame told) = told.line
line_of (change.Phase told) = told.line

-- a change on an earlier line comes before
by-line : (a b : Change) → line_of a < line_of b → Precedes a b
by-line (change.Frame a) (change.Frame b) lt = inl lt
by-line (change.Frame a) (change.Phase b) lt = omega arith
by-line (change.Phase a) (change.Frame b) lt = lt
by-line (change.Phase a) (change.Phase b) lt = inl lt

-- two lists in order, the one before the other
append-in-order : (xs ys : List Change) → IsInOrder xs → IsInOrder ys → All (λ x. All (Precedes x) ys) xs → IsInOrder (xs ++ ys)
append-in-order [] ys first second before = second
append-in-order (x ∷ xs) ys first second before =
    (All-append (Precedes x) xs ys first.0 (All-head (λ x. All (Precedes x) ys) x xs before), append-in-order xs ys first.1 second (All-tail (λ x. All (Precedes x) ys) x xs before))

-- what is made of numbers of a range, in their order
rising : {X : Type 0} (wrap : X → Change) (make : ℕ → X) (p : ℕ → Bool) (low n : ℕ) → ((x y : ℕ) → x < y → Precedes (wrap (make x)) (wrap (make y))) → IsInOrder (map wrap (map make (filter p (range_with_len low n))))
rising wrap make p low zero order = tt
rising wrap make p low (suc n) order =
    by_first (p low) (filter p (range_with_len (low + 1) n))
    (All-filter p (λ x. Precedes (wrap (make low)) (wrap (make x))) (range_with_len (low + 1) n)
    (All-weaker (λ x. (low + 1 ≤ x) × (x < (low + 1) + n)) (λ x. Precedes (wrap (make low)) (wrap (make x))) (λ x is. order low x (omega (arith, is.0))) (range_with_len (low + 1) n) (in-range (low + 1) n)))
    (rising wrap make p (low + 1) n order)
  where
    by_first : (first : Bool) (rest : List ℕ) → All (λ x. Precedes (wrap (make low)) (wrap (make x))) rest → IsInOrder (map wrap (map make rest)) → IsInOrder (map wrap (map make (cond first (low ∷ rest) rest)))
    by_first true rest before is = (All-map (Precedes (wrap (make low))) wrap (map make rest) (All-map (λ y. Precedes (wrap (make low)) (wrap y)) make rest before), is)
    by_first false rest before is = is

-- the changes by a call
call-in-order : (n : ℕ) (old new : State) → IsInOrder (changes_by n old new)
call-in-order n old new =
    append-in-order (map change.Frame (frame_changes_by n old new)) (map change.Phase (phase_changes_by n old new))
    (rising change.Frame (frame_change n old new) (has_moved old new) 0 old.config.frames (λ f g lt. inr (refl, lt)))
    (rising change.Phase (phase_change n old new) (has_turned old new) 0 (slot_count old.config) (λ v w lt. inr (refl, lt)))
    (each-made (λ told. All (Precedes told) (map change.Phase (phase_changes_by n old new))) change.Frame (frame_change n old new) (has_moved old new) old.config.frames (λ f low.
    each-made (Precedes (change.Frame (frame_change n old new f))) change.Phase (phase_change n old new) (has_turned old new) (slot_count old.config) (λ v few. omega arith)))

-- each is of its call's line, and those of later calls are of later lines
lines-from : (n : ℕ) (m : State) (calls : List Call) → All (λ told. n ≤ line_of told) (custody_from n m calls)
lines-from n m calls = each-call (λ told. n ≤ line_of told) n m calls (λ k lt. of-call (λ told. n ≤ line_of told) (n + k) (state_at m calls k) (state_at m calls (suc k)) (λ f low. omega arith) (λ v low. omega arith))

in-order-from : (n : ℕ) (m : State) (calls : List Call) → IsInOrder (custody_from n m calls)
in-order-from n m [] = tt
in-order-from n m (call ∷ calls) =
    let later = custody_from (n + 1) (next m call).1 calls in
    append-in-order (changes_by n m (next m call).1) later (call-in-order n m (next m call).1) (in-order-from (n + 1) (next m call).1 calls)
    (All-weaker (λ told. line_of told ≡ n) (λ told. All (Precedes told) later) (λ told here.
    All-weaker (λ more. n + 1 ≤ line_of more) (Precedes told) (λ more there. by-line told more (omega (arith, here, there))) later (lines-from (n + 1) (next m call).1 calls)) (changes_by n m (next m call).1)
    (of-call (λ told. line_of told ≡ n) n m (next m call).1 (λ f low. refl) (λ v low. refl)))

pub ordered : (m : State) (calls : List Call) → IsInOrder (custody m calls)
ordered m calls = in-order-from first_line m calls
