-- The lines of volumes, and which volume a line is in.
use Rattle.std.proofs.Common.{ℕ, zero, suc, ◌≡◌, ◌<◌, ◌≤◌, ◌+◌, Bool, true, false, cond, List, [], ◌∷◌, ◌++◌, take, length, get_or, sym, ap, ◌∙◌, append_assoc, append-nil, arith}
use Rattle.std.specs.Prelude.{filter}
use Rattle.std.proofs.lemmas.List.{take_more, length-take}
use Rattle.kc_trace.specs.declared.volume_writer.VolumeEntry.{VolumeEntry}
use Rattle.kc_trace.specs.CustodyText.{volume_line, volumes_from, volumes_text}

-- as many pass a test as come before the first that does not, if none passes it from there on
pub passing : {X : Type 0} (p : X → Bool) (xs : List X) (i : ℕ) → i ≤ length xs → ((k : ℕ) (d : X) → k < i → p (get_or xs k d) ≡ true) → ((k : ℕ) (d : X) → i ≤ k → k < length xs → p (get_or xs k d) ≡ false) → length (filter p xs) ≡ i
passing p [] i within passes fails = omega arith
passing p (x ∷ xs) zero within passes fails =
    ap (λ b. length (cond b (x ∷ filter p xs) (filter p xs))) (fails 0 x (omega arith) (omega arith))
    ∙ passing p xs 0 (omega arith) (λ k d lt. absurd (omega (arith, lt))) (λ k d le lt. fails (suc k) d (omega arith) (omega arith))
passing p (x ∷ xs) (suc i) within passes fails =
    ap (λ b. length (cond b (x ∷ filter p xs) (filter p xs))) (passes 0 x (omega arith))
    ∙ ap suc (passing p xs i (omega arith) (λ k d lt. passes (suc k) d (omega arith)) (λ k d le lt. fails (suc k) d (omega arith) (omega arith)))

-- the lines of some volumes, and then of others
from_both : (number : ℕ) (first others : List VolumeEntry) → volumes_from number (first ++ others) ≡ volumes_from number first ++ volumes_from (number + length first) others
from_both number [] others = ap (λ (n : ℕ). volumes_from n others) (omega arith)
from_both number (volume ∷ first) others =
    let same : (number + 1) + length first ≡ number + suc (length first) = omega arith in
    ap (λ (rest : List ℕ). volume_line number volume ++ rest) (from_both (number + 1) first others ∙ ap (λ (n : ℕ). volumes_from (number + 1) first ++ volumes_from n others) same)
    ∙ sym (append_assoc (volume_line number volume) (volumes_from (number + 1) first) (volumes_from (number + suc (length first)) others))

-- one more line
pub volumes_more : (front : List ℕ) (n : ℕ) (volumes : List VolumeEntry) (volume : VolumeEntry) (before after : List ℕ) → n < length volumes → volume ≡ get_or volumes n volume
    → before ≡ front ++ volumes_text (take n volumes) → after ≡ before ++ volume_line (n + 1) volume → after ≡ front ++ volumes_text (take (n + 1) volumes)
volumes_more front n volumes volume before after lt is so_far added =
    let earlier = volumes_text (take n volumes) in
    let number : 1 + length (take n volumes) ≡ n + 1 = omega (arith, length-take n volumes) in
    let all : volumes_text (take (n + 1) volumes) ≡ earlier ++ volume_line (n + 1) volume =
    ap volumes_text (take_more volumes n volume lt)
    ∙ from_both 1 (take n volumes) (get_or volumes n volume ∷ [])
    ∙ ap (λ (k : ℕ). earlier ++ volumes_from k (get_or volumes n volume ∷ [])) number
    ∙ ap (λ (v : VolumeEntry). earlier ++ (volume_line (n + 1) v ++ [])) (sym is)
    ∙ ap (λ (text : List ℕ). earlier ++ text) (append-nil (volume_line (n + 1) volume)) in
    added
    ∙ ap (λ (xs : List ℕ). xs ++ volume_line (n + 1) volume) so_far
    ∙ append_assoc front earlier (volume_line (n + 1) volume)
    ∙ ap (λ (xs : List ℕ). front ++ xs) (sym all)
