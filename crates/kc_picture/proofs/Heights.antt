-- The greatest number of the steps of which a line falls into a column.
use Rattle.std.proofs.Common.{ℕ, ◌≡◌, ◌+◌, ◌-◌, ◌*◌, ◌/◌, ◌%◌, ◌<◌, ◌≤◌, ◌⊎◌, ◌&&◌, max, min, true, nat_lt, nat_le, if◌then◌else◌, List, [], ◌∷◌, refl, ap, ◌∙◌, inl, inr, arith, subst}
use Rattle.std.proofs.Math.Nat.{div-lt_iff_lt-mul, mul-le-mul_right, div-mul-le_self}
use Rattle.std.proofs.lemmas.Nat.{le-div}
use Rattle.std.proofs.lemmas.Bool.{lt-ltb, le-ltb, le-leb, lt-leb, cases_lt, ltb-true, cases_Bool, and_parts}
use Rattle.std.proofs.lemmas.Grind.{div_ceil_times}
use Rattle.kc_picture.specs.declared.vms.Step.{Step}
use Rattle.kc_picture.specs.declared.outlines.Which.{Which}
use Rattle.kc_picture.specs.Outlines.{number_of, next_step, number_on, FallsInto, IsHeight, is_met}

abbrev pub height : Which → (lines count c : ℕ) → List Step → ℕ
height which lines count c [] = 0
height which lines count c (step ∷ more) = max (height which lines count c more) (if is_met lines count step.line (next_step (lines + 1) more) c then number_of which step else 0)

-- lines fall into the columns from their first place rounded down ..
met-first : (a lines c : ℕ) → 0 < lines → a < (c + 1) * lines → a / lines ≤ c
met-first a lines c some lt = let up : a / lines < c + 1 = (div-lt_iff_lt-mul some).1 lt in omega arith

past-first : (a lines c : ℕ) → 0 < lines → (c + 1) * lines ≤ a → c < a / lines
past-first a lines c some le = let up : c + 1 ≤ a / lines = le-div (c + 1) a lines some le in omega arith

-- .. up to their last rounded up
met-end : (b lines c : ℕ) → 0 < lines → c * lines < b → c < b / lines + min 1 (b % lines)
met-end b lines c some lt =
    let d = b / lines + min 1 (b % lines) in
    elim (cases_lt c d) [ inl less ↦ less | inr above ↦ let more : d * lines ≤ c * lines = mul-le-mul_right lines above in let whole = div_ceil_times b lines some in omega (arith, more, whole.0, lt) ]

past-end : (b lines c : ℕ) → 0 < lines → b ≤ c * lines → b / lines + min 1 (b % lines) ≤ c
past-end b lines c some le =
    let d = b / lines + min 1 (b % lines) in
    elim (cases_lt c d) [ inl less ↦ let more : (c + 1) * lines ≤ d * lines = mul-le-mul_right lines (omega (arith, less)) in let whole = div_ceil_times b lines some in omega (arith, more, whole.1, le) | inr above ↦ above ]

-- so the columns from the first to the last are those that the lines meet
pub met-is : (lines count from to c first end column : ℕ) → 0 < lines → c < count → from < to
    → first ≡ (from - 1) * count / lines → end ≡ min ((to - 1) * count / lines + min 1 ((to - 1) * count % lines)) count → end ≤ column → column ≤ max first end
    → is_met lines count from to c ≡ (nat_le first c && nat_lt c column)
met-is lines count from to c first end column some low less at_first at_end past most =
    let a = (from - 1) * count in
    let b = (to - 1) * count in
    elim (cases_lt a ((c + 1) * lines)) [
      | inl in_first ↦ elim (cases_lt (c * lines) b) [
        | inl in_end ↦
            let left : first ≤ c = rw at_first (met-first a lines c some in_first) in
            let right = met-end b lines c some in_end in
            let within : c < column = omega (arith, right, at_end, low, past) in
            rw (lt-ltb from to less, lt-ltb a ((c + 1) * lines) in_first, lt-ltb (c * lines) b in_end, le-leb first c left, lt-ltb c column within) refl
        | inr past_end ↦
            let left : first ≤ c = rw at_first (met-first a lines c some in_first) in
            let right = past-end b lines c some past_end in
            let above : column ≤ c = omega (arith, right, at_end, left, most) in
            rw (lt-ltb from to less, lt-ltb a ((c + 1) * lines) in_first, le-ltb (c * lines) b past_end, le-leb first c left, le-ltb c column above) refl
      ]
      | inr past_first ↦
          let left : c < first = rw at_first (past-first a lines c some past_first) in
          rw (lt-ltb from to less, le-ltb a ((c + 1) * lines) past_first, lt-leb first c left) refl
    ]

-- a step's number is counted if a line on which it holds falls into the column
met-at : (lines count c from to line : ℕ) → FallsInto lines count line c → from ≤ line → line < to → is_met lines count from to c ≡ true
met-at lines count c from to line falls low less =
    let left : (from - 1) * count ≤ (line - 1) * count = mul-le-mul_right count (omega (arith, low)) in
    let right : line * count ≤ (to - 1) * count = mul-le-mul_right count (omega (arith, less)) in
    rw (lt-ltb from to (omega (arith, low, less)), lt-ltb ((from - 1) * count) ((c + 1) * lines) (omega (arith, left, falls.0)), lt-ltb (c * lines) ((to - 1) * count) (omega (arith, right, falls.1))) refl

one-below : (lines count c from to line n : ℕ) → FallsInto lines count line c → (if nat_le from line && nat_lt line to then n else 0) ≤ (if is_met lines count from to c then n else 0)
one-below lines count c from to line n falls =
    elim (cases_lt line from) [
      | inl before ↦ rw (lt-leb from line before) (omega arith)
      | inr low ↦ elim (cases_lt line to) [ inl less ↦ rw (met-at lines count c from to line falls low less, le-leb from line low, lt-ltb line to less) (omega arith) | inr end ↦ rw (le-leb from line low, le-ltb line to end) (omega arith) ]
    ]

no-line-above : (which : Which) (lines count c : ℕ) (steps : List Step) (line : ℕ) → FallsInto lines count line c → number_on which (lines + 1) line steps ≤ height which lines count c steps
no-line-above which lines count c [] line falls = omega arith
no-line-above which lines count c (step ∷ more) line falls =
    let rest = no-line-above which lines count c more line falls in
    let this = one-below lines count c step.line (next_step (lines + 1) more) line (number_of which step) falls in
    omega (arith, rest, this)

-- if lines meet a column one of them falls into it
line-at : (lines count c from to : ℕ) → 0 < lines → 0 < count → is_met lines count from to c ≡ true → (line : ℕ) × FallsInto lines count line c × ((from ≤ line) × (line < to))
line-at lines count c from to some_lines some met =
    let a = (from - 1) * count in
    let b = (to - 1) * count in
    let both = and_parts (nat_lt from to && nat_lt a ((c + 1) * lines)) (nat_lt (c * lines) b) met in
    let two = and_parts (nat_lt from to) (nat_lt a ((c + 1) * lines)) both.0 in
    let less = ltb-true from to two.0 in
    let left = ltb-true a ((c + 1) * lines) two.1 in
    let right = ltb-true (c * lines) b both.1 in
    let q = c * lines / count in
    let within : q < to - 1 = (div-lt_iff_lt-mul some).1 right in
    let low : q * count ≤ c * lines = div-mul-le_self (c * lines) count in
    let high : c * lines < (q + 1) * count = (div-lt_iff_lt-mul some).0 (omega arith) in
    let starts : (n : ℕ) → n ≡ q → n * count < (c + 1) * lines = λ n is. rw is (omega (arith, low, some_lines)) in
    elim (cases_lt from (q + 1)) [
      | inl before ↦ (q + 1, (starts (q + 1 - 1) (omega arith), high), (omega (arith, before), omega (arith, within)))
      | inr end ↦ let more : (q + 1) * count ≤ from * count = mul-le-mul_right count end in (from, (left, omega (arith, more, high)), (omega arith, less))
    ]

-- a step that holds on a line has no greater number than that line
held-at : (from to line n : ℕ) → from ≤ line → line < to → n ≤ (if nat_le from line && nat_lt line to then n else 0)
held-at from to line n low less = rw (le-leb from line low, lt-ltb line to less) (omega arith)

-- lines that meet the column have one with as great a number, if theirs is not 0
one-as-high : (lines count c from to n : ℕ) → 0 < lines → 0 < count → 0 < (if is_met lines count from to c then n else 0)
    → (line : ℕ) × FallsInto lines count line c × ((if is_met lines count from to c then n else 0) ≤ (if nat_le from line && nat_lt line to then n else 0))
one-as-high lines count c from to n some_lines some high =
    elim (cases_Bool (is_met lines count from to c)) [
      | inl met ↦ let at = line-at lines count c from to some_lines some met in (at.0, at.1, rw met (held-at from to at.0 n at.2.0 at.2.1))
      | inr not_met ↦ let none : 0 < 0 = subst (λ b. 0 < (if b then n else 0)) not_met high in absurd (omega (arith, none))
    ]

pub line-as-high : (which : Which) (lines count c : ℕ) (steps : List Step) → 0 < lines → 0 < count
    → (height which lines count c steps ≡ 0) ⊎ ((line : ℕ) × FallsInto lines count line c × (height which lines count c steps ≤ number_on which (lines + 1) line steps))
line-as-high which lines count c [] some_lines some = inl refl
line-as-high which lines count c (step ∷ more) some_lines some =
    let to = next_step (lines + 1) more in
    let this = (if is_met lines count step.line to c then number_of which step else 0) in
    let rest = height which lines count c more in
    elim (cases_lt rest this) [
      | inl above ↦ let one = one-as-high lines count c step.line to (number_of which step) some_lines some (omega (arith, above)) in inr (one.0, one.1, omega (arith, above, one.2))
      | inr below ↦ elim (line-as-high which lines count c more some_lines some) [
        | inl none ↦ inl (omega (arith, none, below))
        | inr one ↦ inr (one.0, one.1, omega (arith, below, one.2))
      ]
    ]

pub height-is : (which : Which) (lines count c h : ℕ) (steps : List Step) → 0 < lines → 0 < count → h ≡ height which lines count c steps → IsHeight which lines count steps c h
height-is which lines count c h steps some_lines some is = record {
  no_line_is_above = λ line falls. rw is (no-line-above which lines count c steps line falls);
  is_a_lines = elim (line-as-high which lines count c steps some_lines some) [
    | inl none ↦ inl (is ∙ none)
    | inr one ↦ let least = no-line-above which lines count c steps one.0 one.1 in inr (one.0, one.1, omega (arith, is, least, one.2))
  ];
}

-- each line falls into a column
pub each-line-falls : (lines count line : ℕ) → 0 < line → line ≤ lines → 0 < count → (column : ℕ) × (column < count) × FallsInto lines count line column
each-line-falls lines count line some within some_columns =
    let a = (line - 1) * count in
    let q = a / lines in
    let some_lines : 0 < lines = omega (arith, some, within) in
    let low : q * lines ≤ a = div-mul-le_self a lines in
    let high : a < (q + 1) * lines = (div-lt_iff_lt-mul some_lines).0 (omega arith) in
    let split : (n : ℕ) → (n + 1) * count ≡ n * count + count = λ n. omega arith in
    let before : line ≡ line - 1 + 1 = omega (arith, some) in
    let end : line * count ≡ a + count = ap (λ n. n * count) before ∙ split (line - 1) in
    let last : a < count * lines = let more : line * count ≤ lines * count = mul-le-mul_right count within in omega (arith, more, end, some_columns) in
    (q, (div-lt_iff_lt-mul some_lines).1 last, (high, omega (arith, low, end, some_columns)))
