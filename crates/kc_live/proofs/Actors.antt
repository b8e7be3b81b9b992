-- In a settled history the calls of an actor are those of its row.
use Rattle.std.proofs.Common.{◌≡◌, ◌≢◌, ℕ, ◌+◌, ◌<◌, ◌≤◌, true, false, eqb, Option, Some, List, [], ◌∷◌, ◌++◌, length, refl, ap, sym, length-append, ◌∙◌, arith, inl, inr, append_assoc}
use Rattle.std.specs.Prelude.{slice_get}
use Rattle.std.proofs.lemmas.List.{length_push, append-nil}
use Rattle.std.proofs.Math.Seq.{get_or-append_seam}
use Rattle.std.proofs.lemmas.Bool.{eq-eqb, ne_eqb, eqb-true, and_parts, false≢true, cases_eq, cases_lt, false_from_ne_true}
use Rattle.std.proofs.lemmas.Bool.Decides.{eqb_tells}
use Rattle.std.proofs.lemmas.Option.{slice_get_within, slice_get-get_or}
use Rattle.kc_types.specs.declared.call.Actor.{Actor}
use Rattle.kc_types.specs.declared.call.Actor.TheVariants.{Host, Vcpu}
use Rattle.kc_types.specs.Actors.{actor}
use Rattle.kc_live.specs.declared.receipt.Entry.{Entry}
use Rattle.kc_live.specs.declared.receipt.Receipt.{Receipt}
use Rattle.kc_live.specs.Book.{VolumeView, entry}
use Rattle.kc_live.specs.Settling.{times, numbers_of, all_numbers, RisesFrom, RowMatches, RowsMatch, IsSettled}
use Rattle.kc_live.specs.Program.{receipt_calls, NoneIs, ActorsApart}
use Rattle.kc_live.specs.Book.{calls_of}
use Rattle.kc_model.specs.Histories.{same_actor, calls_by}

pub same_actor-refl : (a : Actor) → same_actor a a ≡ true
same_actor-refl Host = refl
same_actor-refl (Vcpu s c) = rw (eq-eqb s s refl, eq-eqb c c refl) refl

pub same_actor-true : (a b : Actor) → same_actor a b ≡ true → a ≡ b
same_actor-true Host Host h = refl
same_actor-true Host (Vcpu s c) h = absurd (false≢true h)
same_actor-true (Vcpu s c) Host h = absurd (false≢true h)
same_actor-true (Vcpu s c) (Vcpu t d) h =
    let parts = and_parts (eqb s t) (eqb c d) h in rw (eqb-true s t parts.0, eqb-true c d parts.1) refl

pub same_actor-false : (a b : Actor) → b ≢ a → same_actor a b ≡ false
same_actor-false a b apart = false_from_ne_true (same_actor a b) (λ t. apart (sym (same_actor-true a b t)))

-- g lists what is in h, from this place on
abbrev Tail : (ℕ → Option Entry) → ℕ → List Entry → Type 0
Tail g base [] = (n : ℕ) (e : Entry) → base ≤ n → g n ≡ Some e → ⊥
Tail g base (e ∷ es) = (g base ≡ Some e) × Tail g (base + 1) es

tail_of : (pre h : List Entry) → Tail (slice_get (pre ++ h)) (length pre) h
tail_of pre [] = λ n e le at. (let lt = slice_get_within (pre ++ []) n e at in absurd (let lt2 : n < length pre = rw (append-nil pre) at lt in omega arith))
tail_of pre (e ∷ es) =
    let whole : (pre ++ e ∷ []) ++ es ≡ pre ++ e ∷ es = append_assoc pre (e ∷ []) es in
    let rest : Tail (slice_get (pre ++ e ∷ es)) (length (pre ++ e ∷ [])) es = rw whole at (tail_of (pre ++ e ∷ []) es) in
    let count = length-append pre (e ∷ es) in (
      slice_get-get_or (pre ++ e ∷ es) (length pre) e (omega (arith, count)) ∙ ap Some (get_or-append_seam pre e es e),
      rw (length_push pre e) at rest,
    )

-- a number below all of a rising list is not in it
times_low : (n least : ℕ) (xs : List ℕ) → n < least → RisesFrom least xs → times n xs ≡ 0
times_low n least [] lt rises = refl
times_low n least (x ∷ xs) lt rises =
    elim (eqb_tells x n) [
      | inl t ↦ absurd (omega arith)
      | inr t ↦ let rest = times_low n (x + 1) xs (omega arith) rises.1 in rw (t.0, rest) (omega arith)
    ]

lt_from_ne : (a b : ℕ) → (a ≡ b → ⊥) → a ≤ b → a < b
lt_from_ne a b apart le = elim (cases_lt a b) [ inl lt ↦ lt | inr ge ↦ absurd (apart (omega arith)) ]

-- each receipt says what is at its number
abbrev SaysAll : (ℕ → Option Entry) → List Receipt → Type 0
SaysAll g [] = Unit {0}
SaysAll g (r ∷ rs) = (g r.number ≡ Some (entry r.call r.reply)) × SaysAll g rs

-- each receipt is of a call of this actor
abbrev pub OwnedBy : Actor → List Receipt → Type 0
OwnedBy a [] = Unit {0}
OwnedBy a (r ∷ rs) = (actor r.call ≡ a) × OwnedBy a rs

abbrev Others : Actor → (ℕ → Option Entry) → ℕ → List Receipt → Type 0
Others a g base row =
    (n : ℕ) (e : Entry) → base ≤ n → times n (numbers_of row) ≡ 0 → g n ≡ Some e → same_actor a (actor e.call) ≡ false

-- the first receipt is at this place
at_place : (a : Actor) (g : ℕ → Option Entry) (base : ℕ) (e : Entry) (es : List Entry) (r : Receipt) (rs : List Receipt) → base ≡ r.number → g base ≡ Some e → g r.number ≡ Some (entry r.call r.reply) → actor r.call ≡ a
    → calls_by a (calls_of es) ≡ receipt_calls rs → calls_by a (calls_of (e ∷ es)) ≡ receipt_calls (r ∷ rs)
at_place a g base e es r rs same at says own rest =
    let twice : Some e ≡ Some (entry r.call r.reply) = sym at ∙ (ap g same ∙ says) in
    let one : e ≡ entry r.call r.reply = cc in
    rw (one, own, same_actor-refl a, rest) refl

by_row : (a : Actor) (g : ℕ → Option Entry) (base : ℕ) (h : List Entry) (row : List Receipt) → Tail g base h → RisesFrom base (numbers_of row) → SaysAll g row → OwnedBy a row → Others a g base row → calls_by a (calls_of h) ≡ receipt_calls row
by_row a g base [] [] tail rises says own others = refl
by_row a g base [] (r ∷ rs) tail rises says own others = absurd (tail r.number (entry r.call r.reply) rises.0 says.0)
by_row a g base (e ∷ es) [] tail rises says own others =
    rw (others base e (omega arith) refl tail.0) (by_row a g (base + 1) es [] tail.1 tt tt tt (λ n d le none at. others n d (omega arith) none at))
by_row a g base (e ∷ es) (r ∷ rs) tail rises says own others =
    elim (cases_eq base r.number) [
      | inl same ↦
          at_place a g base e es r rs same tail.0 says.0 own.0
          (by_row a g (base + 1) es rs tail.1 (rw (← same) at rises.1) says.1 own.1 (λ n d le none at. (let apart : eqb r.number n ≡ false = ne_eqb r.number n (λ x. absurd (omega arith)) in others n d (omega arith) (rw (apart, none) (omega arith)) at)))
      | inr apart ↦
          let lt : base < r.number = lt_from_ne base r.number apart rises.0 in
          rw (others base e (omega arith) (times_low base (base + 1) (numbers_of (r ∷ rs)) (omega arith) (omega arith, rises.1)) tail.0)
          (by_row a g (base + 1) es (r ∷ rs) tail.1 (omega arith, rises.1) says own (λ n d le none at. others n d (omega arith) none at))
    ]

-- rows with their actors
abbrev pub OwnedRows : List Actor → List (List Receipt) → Type 0
OwnedRows [] [] = Unit {0}
OwnedRows [] (row ∷ rows) = ⊥
OwnedRows (a ∷ owners) [] = ⊥
OwnedRows (a ∷ owners) (row ∷ rows) = OwnedBy a row × OwnedRows owners rows

abbrev SaysRows : (ℕ → Option Entry) → List (List Receipt) → Type 0
SaysRows g [] = Unit {0}
SaysRows g (row ∷ rows) = (RisesFrom 0 (numbers_of row) × SaysAll g row) × SaysRows g rows

times-append : (n : ℕ) (xs ys : List ℕ) → times n (xs ++ ys) ≡ times n xs + times n ys
times-append n [] ys = omega arith
times-append n (x ∷ xs) ys = let rest = times-append n xs ys in omega arith

-- what is at a number of a row is a call of the row's actor
in_row : (a : Actor) (g : ℕ → Option Entry) (n : ℕ) (e : Entry) (row : List Receipt) → SaysAll g row → OwnedBy a row → g n ≡ Some e → 1 ≤ times n (numbers_of row) → actor e.call ≡ a
in_row a g n e [] says own at some = absurd (omega arith)
in_row a g n e (r ∷ rs) says own at some =
    elim (eqb_tells r.number n) [
      | inl t ↦
          let twice : Some e ≡ Some (entry r.call r.reply) = sym at ∙ (ap g (sym t.1) ∙ says.0) in
          let one : e ≡ entry r.call r.reply = cc in
          rw one own.0
      | inr t ↦ in_row a g n e rs says.1 own.1 at (let more : 1 ≤ 0 + times n (numbers_of rs) = rw t.0 at some in omega arith)
    ]

-- what is at a number of rows of other actors is not a call of this actor
of_others : (a : Actor) (g : ℕ → Option Entry) (n : ℕ) (e : Entry) (owners : List Actor) (rows : List (List Receipt)) → OwnedRows owners rows → SaysRows g rows → NoneIs a owners → g n ≡ Some e → 1 ≤ times n (all_numbers rows) → same_actor a (actor e.call) ≡ false
of_others a g n e [] [] own says apart at some = absurd (omega arith)
of_others a g n e [] (row ∷ rows) own says apart at some = absurd own
of_others a g n e (b ∷ owners) [] own says apart at some = absurd own
of_others a g n e (b ∷ owners) (row ∷ rows) own says apart at some =
    elim (cases_lt 0 (times n (numbers_of row))) [
      | inl here ↦ same_actor-false a (actor e.call) (λ same. apart.0 (sym (in_row b g n e row says.0.1 own.0 at (omega arith)) ∙ same))
      | inr none ↦ of_others a g n e owners rows own.1 says.1 apart.1 at (omega (arith, times-append n (numbers_of row) (all_numbers rows)))
    ]

abbrev pub AllBy : List Entry → List Actor → List (List Receipt) → Type 0
AllBy h [] rows = Unit {0}
AllBy h (a ∷ owners) [] = Unit {0}
AllBy h (a ∷ owners) (row ∷ rows) = (calls_by a (calls_of h) ≡ receipt_calls row) × AllBy h owners rows

-- the actors before are other than those after
abbrev Cross : List Actor → List Actor → Type 0
Cross before [] = Unit {0}
Cross before (a ∷ owners) = NoneIs a before × Cross before owners

cross_more : (a : Actor) (before owners : List Actor) → NoneIs a owners → Cross before owners → Cross (a ∷ before) owners
cross_more a before [] apart cross = tt
cross_more a before (b ∷ owners) apart cross = ((λ same. apart.0 (sym same), cross.0), cross_more a before owners apart.1 cross.1)

all_by : (h : List Entry) (before : List Actor) (done : List (List Receipt)) (owners : List Actor) (rows : List (List Receipt)) → OwnedRows before done → SaysRows (slice_get h) done → Cross before owners
    → OwnedRows owners rows → SaysRows (slice_get h) rows → ActorsApart owners → ((n : ℕ) → n < length h → times n (all_numbers done) + times n (all_numbers rows) ≡ 1) → AllBy h owners rows
all_by h before done [] rows o1 s1 cross own says apart once = tt
all_by h before done (a ∷ owners) [] o1 s1 cross own says apart once = tt
all_by h before done (a ∷ owners) (row ∷ rows) o1 s1 cross own says apart once = (
  by_row a (slice_get h) 0 h row (tail_of [] h) says.0.0 says.0.1 own.0 (λ n e le none at.
      let total = once n (slice_get_within h n e at) in
      let parts = times-append n (numbers_of row) (all_numbers rows) in
      elim (cases_lt 0 (times n (all_numbers done))) [
        | inl some ↦ of_others a (slice_get h) n e before done o1 s1 cross.0 at (omega arith)
        | inr zero ↦ of_others a (slice_get h) n e owners rows own.1 says.1 apart.0 at (omega arith)
      ]),
  all_by h (a ∷ before) (row ∷ done) owners rows (own.0, o1) (says.0, s1) (cross_more a before owners apart.0 cross.1) own.1 says.1 apart.1
      (λ n lt. (let total = once n lt in let p = times-append n (numbers_of row) (all_numbers rows) in let q = times-append n (numbers_of row) (all_numbers done) in omega arith)),
)

says_all : (v : VolumeView) (row : List Receipt) → RowMatches v row → SaysAll (slice_get v.entries) row
says_all v [] m = tt
says_all v (r ∷ rs) m = (m.0.says, says_all v rs m.1)

says_rows : (v : VolumeView) (rows : List (List Receipt)) → RowsMatch v rows → SaysRows (slice_get v.entries) rows
says_rows v [] m = tt
says_rows v (row ∷ rows) m = ((m.0.0, says_all v row m.0.1), says_rows v rows m.1)

no_cross : (owners : List Actor) → Cross [] owners
no_cross [] = tt
no_cross (a ∷ owners) = (tt, no_cross owners)

-- in a settled history, whose rows are of different actors, the calls of each actor are those of its row
pub settled_by_actors : (v : VolumeView) (owners : List Actor) (rows : List (List Receipt)) → IsSettled v rows → OwnedRows owners rows → ActorsApart owners → AllBy v.entries owners rows
settled_by_actors v owners rows settled own apart =
    all_by v.entries [] [] owners rows tt tt (no_cross owners) own (says_rows v rows settled.match) apart (λ n lt. (let o = settled.once n lt in omega arith))
