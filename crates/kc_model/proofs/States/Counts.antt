-- The owners have together as many frames as there are.
use Rattle.std.proofs.Common.{ℕ, zero, suc, ◌≡◌, ◌<◌, ◌≤◌, ◌+◌, ◌⊎◌, inl, inr, Bool, true, false, cond, nat_eq, List, [], ◌∷◌, length, get_or, refl, ap, ap₂, ◌∙◌, arith, eq-eqb}
use Rattle.std.proofs.lemmas.Bool.{cases_Bool, cases_eq, cases_lt, ne_eqb}
use Rattle.std.proofs.lemmas.List.{get_or_past}
use Rattle.std.proofs.lemmas.List.Sums.{sum_by-cons}
use Rattle.std.proofs.lemmas.List.FromFn.{length-range_with_len}
use Rattle.std.specs.List.{range_with_len, count_by, sum_by}
use Rattle.kc_types.specs.Configuration.{slot_count}
use Rattle.kc_types.specs.declared.owner.Owner.{Owner}
use Rattle.kc_types.specs.declared.owner.Owner.TheVariants.{Core, Host, Free, Vm}
use Rattle.kc_model.specs.State.{State, Slot, frame_at, slot_at, untouched, no_slot}
use Rattle.kc_model.specs.Effects.{without}
use Rattle.kc_model.specs.Lawful.{IsLawful, ListsOnce, same_owner, times_in}
use Rattle.kc_model.specs.Passing.{frames_of}
use Rattle.kc_model.proofs.States.Tables.{times_in-without}
use Rattle.kc_model.proofs.States.Changes.{exists}

-- one for a number that passes a test
abbrev pub one_if : Bool → ℕ
one_if test = cond test 1 0

counted : (test : ℕ → Bool) (x : ℕ) (xs : List ℕ) → count_by test (x ∷ xs) ≡ one_if (test x) + count_by test xs
counted test x xs = sum_by-cons (λ y. one_if (test y)) x xs

length-without : (fs : List ℕ) (f : ℕ) → length fs ≡ times_in fs f + length (without fs f)
length-without [] f = refl
length-without (x ∷ xs) f = let rest = length-without xs f in elim (cases_Bool (nat_eq x f)) [
  | inl same ↦ rw same (omega (arith, rest))
  | inr other ↦ rw other (omega (arith, rest))
]

none-listed : (fs : List ℕ) → ((f : ℕ) → times_in fs f ≡ 0) → length fs ≡ 0
none-listed [] none = refl
none-listed (x ∷ xs) none =
    let self : nat_eq x x ≡ true = eq-eqb x x refl in
    let here : one_if (nat_eq x x) + times_in xs x ≡ 0 = none x in
    let some : one_if (nat_eq x x) ≡ 1 = ap one_if self in
    absurd (omega (arith, here, some))

-- a list that has exactly the numbers of a range that pass a test, each once, is as long as these are many
list-long : (a n : ℕ) (fs : List ℕ) (test : ℕ → Bool) → ((f : ℕ) → a ≤ f → f < a + n → times_in fs f ≡ one_if (test f)) → ((f : ℕ) → (f < a) ⊎ (a + n ≤ f) → times_in fs f ≡ 0)
    → length fs ≡ count_by test (range_with_len a n)
list-long a zero fs test within past = none-listed fs (λ f. elim (cases_lt f a) [
  | inl low ↦ past f (inl low)
  | inr high ↦ past f (inr (omega (arith, high)))
])
list-long a (suc n) fs test within past =
    let here = within a (omega arith) (omega arith) in
    let fewer = length-without fs a in
    let rest = list-long (a + 1) n (without fs a) test
    (λ f low high. let apart : nat_eq f a ≡ false = ne_eqb f a (λ same. omega (arith, same, low)) in times_in-without fs a f ∙ rw apart (within f (omega (arith, low)) (omega (arith, high))))
    (λ f out. times_in-without fs a f ∙ elim (cases_eq f a) [
      | inl same ↦ let hit : nat_eq f a ≡ true = eq-eqb f a same in rw hit refl
      | inr other ↦ let miss : nat_eq f a ≡ false = ne_eqb f a other in rw miss (past f (elim out [
        | inl low ↦ inl (omega (arith, low, other))
        | inr high ↦ inr (omega (arith, high))
      ]))
    ]) in
    let first = counted test a (range_with_len (a + 1) n) in
    omega (arith, here, fewer, rest, first)

-- an owner's list has as many elements as the owner has frames
pub listed-long : (m : State) (owner : Owner) (fs : List ℕ) → length m.frames ≡ m.config.frames → ListsOnce m owner fs → same_owner Core owner ≡ false → length fs ≡ frames_of owner m
listed-long m owner fs sized listed other = list-long 0 m.config.frames fs (λ f. same_owner (frame_at m f).owner owner) (λ f low high. listed f) (λ f out. elim out [
  | inl low ↦ absurd (omega (arith, low))
  | inr high ↦ listed f ∙ (let past : frame_at m f ≡ untouched Core = get_or_past m.frames f (untouched Core) (rw sized (omega (arith, high))) in rw (past, other) refl)
])

-- the sum of a function of the numbers of a range
abbrev total : (ℕ → ℕ) → ℕ → ℕ → ℕ
total F a zero = 0
total F a (suc n) = F a + total F (a + 1) n

total-same : (F G : ℕ → ℕ) (a n : ℕ) → ((v : ℕ) → F v ≡ G v) → total F a n ≡ total G a n
total-same F G a zero same = refl
total-same F G a (suc n) same = ap₂ (λ x y. x + y) (same a) (total-same F G (a + 1) n same)

total-sum : (F G : ℕ → ℕ) (a n : ℕ) → total (λ v. F v + G v) a n ≡ total F a n + total G a n
total-sum F G a zero = refl
total-sum F G a (suc n) = let rest = total-sum F G (a + 1) n in omega (arith, rest)

total-none : (F : ℕ → ℕ) (a n : ℕ) → ((v : ℕ) → a ≤ v → v < a + n → F v ≡ 0) → total F a n ≡ 0
total-none F a zero none = refl
total-none F a (suc n) none = let here = none a (omega arith) (omega arith) in let rest = total-none F (a + 1) n (λ v low high. none v (omega (arith, low)) (omega (arith, high))) in omega (arith, here, rest)

-- exactly one number of a range is this one
total-one : (a n w : ℕ) → a ≤ w → w < a + n → total (λ v. one_if (nat_eq w v)) a n ≡ 1
total-one a zero w low high = absurd (omega (arith, low, high))
total-one a (suc n) w low high = elim (cases_eq w a) [
  | inl same ↦
      let hit : one_if (nat_eq w a) ≡ 1 = ap one_if (eq-eqb w a same) in
      let rest = total-none (λ v. one_if (nat_eq w v)) (a + 1) n (λ v above below. ap one_if (ne_eqb w v (λ e. omega (arith, e, same, above)))) in
      omega (arith, hit, rest)
  | inr other ↦
      let miss : one_if (nat_eq w a) ≡ 0 = ap one_if (ne_eqb w a other) in
      let rest = total-one (a + 1) n w (omega (arith, low, other)) (omega (arith, high)) in
      omega (arith, miss, rest)
]

-- the total length of the slots' lists is the sum of a function of the slots' numbers
lists-total : (slots : List Slot) (a : ℕ) (F : ℕ → ℕ) → ((i : ℕ) → i < length slots → length (get_or slots i no_slot).frames ≡ F (a + i)) → sum_by (λ (slot : Slot). length slot.frames) slots ≡ total F a (length slots)
lists-total [] a F each = refl
lists-total (slot ∷ slots) a F each =
    let here : length slot.frames ≡ F a = each 0 (omega arith) ∙ ap F (omega arith) in
    let rest = lists-total slots (a + 1) F (λ i low. each (suc i) (omega (arith, low)) ∙ ap F (omega arith)) in
    sum_by-cons (λ (s : Slot). length s.frames) slot slots ∙ ap₂ (λ x y. x + y) here rest

-- each owner of these is the core, the host, nobody, or a VM of this range
abbrev IsOwner : ℕ → Owner → Type 0
IsOwner n (Vm v) = v < n
IsOwner n _ = Unit {0}

-- each owner is counted once
owner-once : (n : ℕ) (owner : Owner) → IsOwner n owner → one_if (same_owner owner Core) + one_if (same_owner owner Host) + one_if (same_owner owner Free) + total (λ v. one_if (same_owner owner (Vm v))) 0 n ≡ 1
owner-once n Core is = let none = total-none (λ v. 0) 0 n (λ v low high. refl) in omega (arith, none)
owner-once n Host is = let none = total-none (λ v. 0) 0 n (λ v low high. refl) in omega (arith, none)
owner-once n Free is = let none = total-none (λ v. 0) 0 n (λ v low high. refl) in omega (arith, none)
owner-once n (Vm w) is = let one = total-one 0 n w (omega arith) (omega (arith, is)) in omega (arith, one)

-- the number of these frames that an owner has
abbrev among : State → Owner → List ℕ → ℕ
among m owner fs = count_by (λ f. same_owner (frame_at m f).owner owner) fs

all-once : (m : State) (n : ℕ) (fs : List ℕ) → ((f : ℕ) → IsOwner n (frame_at m f).owner) → among m Core fs + among m Host fs + among m Free fs + total (λ v. among m (Vm v) fs) 0 n ≡ length fs
all-once m n [] owners = let none = total-none (λ v. 0) 0 n (λ v low high. refl) in omega (arith, none)
all-once m n (f ∷ fs) owners =
    let rest = all-once m n fs owners in
    let here = owner-once n (frame_at m f).owner (owners f) in
    let core = counted (λ g. same_owner (frame_at m g).owner Core) f fs in
    let host = counted (λ g. same_owner (frame_at m g).owner Host) f fs in
    let free = counted (λ g. same_owner (frame_at m g).owner Free) f fs in
    let vms = total-same (λ v. among m (Vm v) (f ∷ fs)) (λ v. one_if (same_owner (frame_at m f).owner (Vm v)) + among m (Vm v) fs) 0 n (λ v. counted (λ g. same_owner (frame_at m g).owner (Vm v)) f fs) in
    let split = total-sum (λ v. one_if (same_owner (frame_at m f).owner (Vm v))) (λ v. among m (Vm v) fs) 0 n in
    omega (arith, rest, here, core, host, free, vms, split)

pub counts-all : (m : State) → IsLawful m → frames_of Core m + frames_of Host m + length m.free + sum_by (λ (slot : Slot). length slot.frames) m.slots ≡ m.config.frames
counts-all m is =
    let n = slot_count m.config in
    let free = listed-long m Free m.free is.frames is.free refl in
    let lists = lists-total m.slots 0 (λ v. frames_of (Vm v) m) (λ i low. listed-long m (Vm i) (slot_at m i).frames is.frames (is.listed i (rw (← is.slots) low)) refl ∙ ap (λ v. frames_of (Vm v) m) (omega arith)) in
    let vms : total (λ v. frames_of (Vm v) m) 0 (length m.slots) ≡ total (λ v. frames_of (Vm v) m) 0 n = ap (total (λ v. frames_of (Vm v) m) 0) is.slots in
    let all = all-once m n (range_with_len 0 m.config.frames) (λ f. owner-within m f is) in
    let long : length (range_with_len 0 m.config.frames) ≡ m.config.frames = length-range_with_len 0 m.config.frames in
    omega (arith, free, lists, vms, all, long)
  where
    owner-is : (n : ℕ) (owner : Owner) → ((v : ℕ) → owner ≡ Vm v → v < n) → IsOwner n owner
    owner-is n (Vm v) within = within v refl
    owner-is n Core within = tt
    owner-is n Host within = tt
    owner-is n Free within = tt

    owner-within : (m : State) (f : ℕ) → IsLawful m → IsOwner (slot_count m.config) (frame_at m f).owner
    owner-within m f is = owner-is (slot_count m.config) (frame_at m f).owner (λ v mine. (is.each_frame f (exists m f (λ core. cc))).slot v mine)
