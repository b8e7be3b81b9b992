-- The end of an outline and of an underline.
use Rattle.std.proofs.Common.{ℕ, ◌≡◌, ◌<◌, List, [], length, drop, refl, arith}
use Rattle.std.proofs.lemmas.List.{drop_all}
use Rattle.std.proofs.lemmas.Bool.{ne_eqb}
use Rattle.kc_picture.specs.declared.lane_drawing.LanePlace.{LanePlace}
use Rattle.kc_picture.specs.OutlineWords.{approach_words, edge_words, outline_words, underline_words}

-- after the last column there is only the edge at which the outline ends
pub last-edge : (place : LanePlace) (before column : ℕ) (heights : List ℕ) → length heights ≡ column → 0 < before → outline_words place before column (drop column heights) ≡ edge_words place before 0 column
last-edge place before column heights end high =
    let none : drop column heights ≡ [] = drop_all column heights (omega (arith, end)) in
    let some : before ≡ 0 → ⊥ = λ is. absurd (omega (arith, is, high)) in
    rw (none, ne_eqb before 0 some) refl

-- .. and only the point up to which the underline goes
pub last-approach : (last y before column : ℕ) (heights : List ℕ) → length heights ≡ column → 0 < before → underline_words last y before column (drop column heights) ≡ approach_words last y before column
last-approach last y before column heights end high =
    let none : drop column heights ≡ [] = drop_all column heights (omega (arith, end)) in
    let some : before ≡ 0 → ⊥ = λ is. absurd (omega (arith, is, high)) in
    rw (none, ne_eqb before 0 some) refl
