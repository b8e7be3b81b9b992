-- A line with the number of its volume before it.
use Rattle.std.proofs.Common.{ℕ, ◌≡◌, ◌<◌, ◌≢◌, List, [], ◌∷◌, ◌++◌, codes, length, refl, ap, ◌∙◌, append_assoc, arith}
use Rattle.std.proofs.Math.ListN.{set}
use Rattle.std.proofs.Math.Seq.{set-append_seam}
use Rattle.std.proofs.lemmas.List.{append-nil}
use Rattle.kc_trace.specs.declared.volume_writer.VolumeEntry.{VolumeEntry}
use Rattle.kc_trace.specs.CustodyText.{member, volume_of, placed_text}

-- the number of a line's volume, with what comes before it
abbrev place_of : List VolumeEntry → ℕ → List ℕ
place_of volumes place = member (codes "{\"volume\":") (volume_of volumes place)

-- a line that is there begins with it, and its own first byte is a comma
pub begun : (volumes : List VolumeEntry) (place : ℕ) (old front whole line new : List ℕ) → length volumes ≢ 0 → front ≡ old ++ place_of volumes place → whole ≡ front ++ line → length front < length whole
    → new ≡ set whole (length front) 44 → new ≡ old ++ placed_text volumes place line
begun [] place old front whole line new some fronted lined longer turned = absurd (some refl)
begun (volume ∷ volumes) place old front whole [] new some fronted lined longer turned =
    let same : whole ≡ front = lined ∙ append-nil front in absurd (omega (arith, ap length same))
begun (volume ∷ volumes) place old front whole (x ∷ rest) new some fronted lined longer turned =
    turned
    ∙ ap (λ (xs : List ℕ). set xs (length front) 44) lined
    ∙ set-append_seam front x rest 44
    ∙ ap (λ (xs : List ℕ). xs ++ 44 ∷ rest) fronted
    ∙ append_assoc old (place_of (volume ∷ volumes) place) (44 ∷ rest)
