-- A text is that of at most one state and position, and a text that is refused is not a state's.
use Rattle.std.proofs.Common.{ℕ, true, ◌≡◌, ◌≤◌, inl, inr, List, ◌++◌, length, drop, Option, Some, None, refl, sym, ap, ◌∙◌, arith}
use Rattle.std.specs.Prelude.{IfSome}
use Rattle.kc_types.specs.Configuration.{has_dump}
use Rattle.kc_types.specs.Limits.{byte_limit}
use Rattle.kc_model.specs.State.{State}
use Rattle.kc_model.specs.Lawful.{IsLawful}
use Rattle.kc_model.specs.Volumes.{IsCoreState}
use Rattle.kc_snapshot.specs.Told.{told_of}
use Rattle.kc_trace.specs.declared.header.Position.{Position}
use Rattle.kc_trace.specs.Header.{IsPosition}
use Rattle.kc_state_text.specs.declared.fault.StateFault.{StateFault}
use Rattle.kc_state_text.specs.declared.fault.StateFault.TheVariants.{NoHeader, BadLine, Missing, Sizes, Found, Slot, Frame, Memory}
use Rattle.kc_state_text.specs.StateText.{state_header, volume_line, state_text, placed_state_text}
use Rattle.kc_state_text.specs.Refused.{HasHeader, LacksHeader, IsRefusedPlaced}
use Rattle.kc_state_text.specs.Faults.{fault_after}
use Rattle.kc_state_text.proofs.OneText.{one-text, Refuses, no-state}
use Rattle.kc_state_text.proofs.Placed.{not-both, headers-same, placed-after, first-short}

-- what follows the header in a state's text
abbrev after_first : State → List ℕ
after_first m = drop 14 (state_text m)

has-header : (p : Option Position) (m : State) → IfSome p IsPosition → HasHeader (placed_state_text p m) p (after_first m)
has-header p m is = record { whole = placed-after p (after_first m); is = is }

text-short : (p : Option Position) (m : State) → IfSome p IsPosition → length (placed_state_text p m) ≤ byte_limit → length (state_text m) ≤ byte_limit
text-short p m is short = let less : length (state_text m) ≤ length (placed_state_text p m) = first-short (placed_state_text p m) (after_first m) p (has-header p m is) in omega (arith, less, short)

pub one-placed : ((m n : State) → IsLawful m → IsLawful n → told_of m ≡ told_of n → m ≡ n) → (p q : Option Position) (m n : State) → IfSome p IsPosition → IfSome q IsPosition → has_dump m.config.version ≡ true → IsCoreState m → IsCoreState n
    → length (placed_state_text p m) ≤ byte_limit → placed_state_text p m ≡ placed_state_text q n → (p ≡ q) × (m ≡ n)
one-placed one p q m n is-p is-q has is-m is-n short e =
    let both = headers-same p q (after_first m) (after_first n) is-p is-q (sym (placed-after p (after_first m)) ∙ e ∙ placed-after q (after_first n)) in
    (both.0, one-text one m n has is-m is-n (text-short p m is-p short) (ap (λ (l : List ℕ). state_header ++ l) both.1))

no-header : (text : List ℕ) (fault : StateFault) (p : Option Position) (rest : List ℕ) → LacksHeader text fault → HasHeader text p rest → ⊥
no-header text NoHeader None rest lacks has = lacks.0 rest has.whole
no-header text NoHeader (Some p) rest lacks has = lacks.1 (volume_line p ++ rest) has.whole
no-header text (BadLine n) None rest lacks has = not-both rest lacks.1.0 (sym has.whole ∙ lacks.1.1)
no-header text (BadLine n) (Some p) rest lacks has = lacks.1.2 p rest has.is (ap (drop 14) (sym lacks.1.1 ∙ has.whole))
no-header text (Missing f) p rest lacks has = lacks
no-header text Sizes p rest lacks has = lacks
no-header text (Found finding) p rest lacks has = lacks
no-header text (Slot v) p rest lacks has = lacks
no-header text (Frame f) p rest lacks has = lacks
no-header text Memory p rest lacks has = lacks

memory-after : (p : Option Position) → fault_after p Memory ≡ Memory
memory-after None = refl
memory-after (Some p) = refl

pub not-placed : Refuses → (text : List ℕ) (fault : StateFault) → (fault ≡ Memory → ⊥) → IsRefusedPlaced text fault → (p : Option Position) (m : State) → IfSome p IsPosition → has_dump m.config.version ≡ true → IsCoreState m → length text ≤ byte_limit
    → text ≡ placed_state_text p m → ⊥
not-placed refuses text fault other (inl lacks) p m is-p has is short e = no-header text fault p (after_first m) lacks (record { whole = e ∙ placed-after p (after_first m); is = is-p })
not-placed refuses text fault other (inr r) p m is-p has is short e =
    let both = headers-same r.position p r.rest (after_first m) r.header.is is-p (sym r.header.whole ∙ e ∙ placed-after p (after_first m)) in
    let less = first-short text r.rest r.position r.header in
    no-state refuses (state_header ++ r.rest) r.why (λ same. other (r.same ∙ ap (fault_after r.position) same ∙ memory-after r.position)) r.refused m has is (omega (arith, less, short))
    (ap (λ (l : List ℕ). state_header ++ l) both.1)
