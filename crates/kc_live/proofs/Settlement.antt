-- The rows fit one after another exactly if they are settled.
use Rattle.std.proofs.Common.{◌≡◌, ℕ, ◌+◌, ◌<◌, Bool, true, false, cond, eqb, get_or, set, List, [], ◌∷◌, ◌++◌, length, replicate, refl, ap, sym, ◌∙◌, arith, length-set, get_or-set_other, inl, inr}
use Rattle.std.specs.Prelude.{IsTrue, ◌↔◌}
use Rattle.std.proofs.lemmas.List.{get_or-replicate, length-replicate}
use Rattle.std.proofs.lemmas.Grind.{get_or-set_at}
use Rattle.std.proofs.lemmas.Bool.{eq-eqb}
use Rattle.std.proofs.lemmas.Bool.Decides.{eqb_tells}
use Rattle.std.proofs.lemmas.Option.{slice_get_within}
use Rattle.std.proofs.lemmas.List.Elements.{All-get_or, All-from_get_or}
use Rattle.kc_live.specs.declared.receipt.Receipt.{Receipt}
use Rattle.kc_live.specs.Book.{VolumeView}
use Rattle.kc_live.specs.Settling.{times, numbers_of, all_numbers, RisesFrom, RowMatches, RowsMatch, IsSettled, RowFits, marked, RowsFit}

abbrev pub mark_at : List Bool → ℕ → ℕ
mark_at seen n = cond (get_or seen n false) 1 0

-- each number below the bound is marked, or is in the list once
abbrev pub Once : ℕ → List Bool → List ℕ → Type 0
Once len seen xs = (n : ℕ) → n < len → times n xs + mark_at seen n ≡ 1

-- a number that was not marked is
mark_at-set : (seen : List Bool) (x n : ℕ) → x < length seen → get_or seen x false ≡ false → mark_at (set seen x true) n ≡ cond (eqb x n) 1 0 + mark_at seen n
mark_at-set seen x n lt fresh =
    elim (eqb_tells x n) [
      | inl t ↦ rw (t.0, get_or-set_at seen x n true false (sym t.1) lt, ap (λ k. get_or seen k false) (sym t.1), fresh) refl
      | inr t ↦ rw (t.0, get_or-set_other seen x n true false (λ e. t.1 (sym e))) (omega arith)
    ]

once_forth : (len : ℕ) (seen : List Bool) (x : ℕ) (xs : List ℕ) → x < length seen → get_or seen x false ≡ false → Once len seen (x ∷ xs) → Once len (set seen x true) xs
once_forth len seen x xs lt fresh once n below = let e = mark_at-set seen x n lt fresh in let o = once n below in omega arith

once_back : (len : ℕ) (seen : List Bool) (x : ℕ) (xs : List ℕ) → x < length seen → get_or seen x false ≡ false → Once len (set seen x true) xs → Once len seen (x ∷ xs)
once_back len seen x xs lt fresh once n below = let e = mark_at-set seen x n lt fresh in let o = once n below in omega arith

marked_twice : (b : Bool) (t : ℕ) → (1 + t) + cond b 1 0 ≡ 1 → b ≡ false
marked_twice true t h = absurd (omega arith)
marked_twice false t h = refl

-- a number that is still to come is not marked
once_fresh : (len : ℕ) (seen : List Bool) (x : ℕ) (xs : List ℕ) → x < len → Once len seen (x ∷ xs) → get_or seen x false ≡ false
once_fresh len seen x xs lt once = marked_twice (get_or seen x false) (times x xs) (rw (eq-eqb x x refl) at (once x lt))

pub length-marked : (seen : List Bool) (row : List Receipt) → length (marked seen row) ≡ length seen
length-marked seen [] = refl
length-marked seen (r ∷ rs) = length-marked (set seen r.number true) rs ∙ length-set seen r.number true

row_once : (v : VolumeView) (seen : List Bool) (least : ℕ) (row : List Receipt) (ys : List ℕ) → length seen ≡ length v.entries → RowFits v seen least row → Once (length v.entries) (marked seen row) ys → Once (length v.entries) seen (numbers_of row ++ ys)
row_once v seen least [] ys len fit once = once
row_once v seen least (r ∷ rs) ys len fit once =
    let within : r.number < length v.entries = slice_get_within v.entries r.number _ fit.0.match.says in
    once_back (length v.entries) seen r.number (numbers_of rs ++ ys) (omega arith) fit.0.fresh
    (row_once v (set seen r.number true) (r.number + 1) rs ys (length-set seen r.number true ∙ len) fit.1 once)

row_matches : (v : VolumeView) (seen : List Bool) (least : ℕ) (row : List Receipt) → RowFits v seen least row → RisesFrom least (numbers_of row) × RowMatches v row
row_matches v seen least [] fit = (tt, tt)
row_matches v seen least (r ∷ rs) fit =
    let rest = row_matches v (set seen r.number true) (r.number + 1) rs fit.1 in ((fit.0.above, rest.0), (fit.0.match, rest.1))

row_fits : (v : VolumeView) (seen : List Bool) (least : ℕ) (row : List Receipt) (ys : List ℕ) → length seen ≡ length v.entries → RisesFrom least (numbers_of row) → RowMatches v row → Once (length v.entries) seen (numbers_of row ++ ys) → RowFits v seen least row × Once (length v.entries) (marked seen row) ys
row_fits v seen least [] ys len rises matches once = (tt, once)
row_fits v seen least (r ∷ rs) ys len rises matches once =
    let within : r.number < length v.entries = slice_get_within v.entries r.number _ matches.0.says in
    let fresh = once_fresh (length v.entries) seen r.number (numbers_of rs ++ ys) within once in
    let rest = row_fits v (set seen r.number true) (r.number + 1) rs ys (length-set seen r.number true ∙ len) rises.1 matches.1 (once_forth (length v.entries) seen r.number (numbers_of rs ++ ys) (omega arith) fresh once) in
    ((record { above = rises.0; fresh = fresh; match = matches.0 }, rest.0), rest.1)

is_marked : (b : Bool) → 0 + cond b 1 0 ≡ 1 → b ≡ true
is_marked true h = refl
is_marked false h = absurd (omega arith)

rows_settled : (v : VolumeView) (seen : List Bool) (rows : List (List Receipt)) → length seen ≡ length v.entries → RowsFit v seen rows → Once (length v.entries) seen (all_numbers rows) × RowsMatch v rows
rows_settled v seen [] len fit = ((λ n below. rw (All-get_or (λ b. b ≡ true) seen n false (omega arith) fit) refl), tt)
rows_settled v seen (row ∷ rows) len fit =
    let rest = rows_settled v (marked seen row) rows (length-marked seen row ∙ len) fit.1 in
    (row_once v seen 0 row (all_numbers rows) len fit.0 rest.0, (row_matches v seen 0 row fit.0, rest.1))

rows_fit : (v : VolumeView) (seen : List Bool) (rows : List (List Receipt)) → length seen ≡ length v.entries → Once (length v.entries) seen (all_numbers rows) → RowsMatch v rows → RowsFit v seen rows
rows_fit v seen [] len once matches = All-from_get_or (λ b. b ≡ true) seen false (λ n below. is_marked (get_or seen n false) (once n (omega arith)))
rows_fit v seen (row ∷ rows) len once matches =
    let first = row_fits v seen 0 row (all_numbers rows) len matches.0.0 matches.0.1 once in
    (first.0, rows_fit v (marked seen row) rows (length-marked seen row ∙ len) first.1 matches.1)

no_mark : (n k : ℕ) → n < k → mark_at (replicate k false) n ≡ 0
no_mark n k lt = rw (get_or-replicate k n false false lt) refl

-- what the test of all rows says
pub settled_iff : (v : VolumeView) (rows : List (List Receipt)) → RowsFit v (replicate (length v.entries) false) rows ↔ IsSettled v rows
settled_iff v rows =
    let none = replicate (length v.entries) false in
    let len = length-replicate (length v.entries) false in (
      (λ fit.
          let all = rows_settled v none rows len fit in
          record { once = λ n below. (let o = all.0 n below in let m = no_mark n (length v.entries) below in omega arith); match = all.1 }),
      (λ s. rows_fit v none rows len (λ n below. (let o = s.once n below in let m = no_mark n (length v.entries) below in omega arith)) s.match),
    )

pub settled_by : (r : Bool) (v : VolumeView) (seen : List Bool) (rows : List (List Receipt)) → seen ≡ replicate (length v.entries) false → IsTrue r ↔ RowsFit v seen rows → IsTrue r ↔ IsSettled v rows
settled_by r v seen rows start fits =
    let at_start : IsTrue r ↔ RowsFit v (replicate (length v.entries) false) rows = rw start at fits in
    let both = settled_iff v rows in (λ yes. both.0 (at_start.0 yes), λ s. at_start.1 (both.1 s))
