-- A walk, one frame further.
use Rattle.std.proofs.Common.{◌≡◌, ℕ, ◌+◌, ◌-◌, ◌<◌, suc, Bool, false, get_or, Option, Some, None, List, length, ap, sym, ◌∙◌, arith}
use Rattle.std.specs.Prelude.{IsTrue, ◌↔◌, MatchOption, slice_get}
use Rattle.std.proofs.lemmas.Option.{slice_get-get_or}
use Rattle.std.proofs.lemmas.Bool.{false≢true}
use Rattle.kc_types.specs.declared.owner.Owner.{Owner}
use Rattle.kc_dump.specs.declared.line.FrameLine.{FrameLine}
use Rattle.kc_audit.specs.Walking.{ComesNext, Walks, next_in}

-- the rest of a walk before one more frame
abbrev pub Goes : List FrameLine → Owner → Option ℕ → Option ℕ → Option ℕ → ℕ → Type 0
Goes lines owner tail before here n = MatchOption here ⊥ (λ f. ComesNext lines owner before f × Walks lines owner tail (Some f) (next_in (slice_get lines f)) n)

walks-more : (lines : List FrameLine) (owner : Owner) (tail before here : Option ℕ) (count step : ℕ) → step < count
    → Walks lines owner tail before here (count - step) ↔ Goes lines owner tail before here (count - (step + 1))
walks-more lines owner tail before here count step low =
    let e : count - step ≡ suc (count - (step + 1)) = omega (arith, low) in rw e ((λ w. w), (λ w. w))

pub ends-early : (A : Type 0) (lines : List FrameLine) (owner : Owner) (tail before : Option ℕ) (count step : ℕ) → step < count
    → A ↔ Walks lines owner tail before None (count - step) → IsTrue false ↔ A
ends-early A lines owner tail before count step low h =
    let m = walks-more lines owner tail before None count step low in (λ t. absurd (false≢true t), λ a. absurd (m.0 (h.0 a)))

pub misfits : (A : Type 0) (lines : List FrameLine) (owner : Owner) (tail before : Option ℕ) (f count step : ℕ) → step < count
    → A ↔ Walks lines owner tail before (Some f) (count - step) → (b : Bool) → b ≡ false → IsTrue b ↔ ComesNext lines owner before f → IsTrue false ↔ A
misfits A lines owner tail before f count step low h b failed fits =
    let m = walks-more lines owner tail before (Some f) count step low in
    (λ t. absurd (false≢true t), λ a. absurd (false≢true (sym failed ∙ fits.1 (m.0 (h.0 a)).0)))

pub goes-on : (A : Type 0) (lines : List FrameLine) (owner : Owner) (tail before : Option ℕ) (f count step : ℕ) (d : FrameLine) → step < count → f < length lines
    → A ↔ Walks lines owner tail before (Some f) (count - step) → ComesNext lines owner before f
    → A ↔ Walks lines owner tail (Some f) (get_or lines f d).next (count - (step + 1))
goes-on A lines owner tail before f count step d low within h fits =
    let m = walks-more lines owner tail before (Some f) count step low in
    let e : next_in (slice_get lines f) ≡ (get_or lines f d).next = ap next_in (slice_get-get_or lines f d within) in
    rw (← e) ((λ a. (m.0 (h.0 a)).1), (λ w. h.1 (m.1 (fits, w))))
