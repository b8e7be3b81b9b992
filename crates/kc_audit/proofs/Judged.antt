-- Verdicts on frames, one after another.
use Rattle.std.proofs.Common.{ℕ, ◌≡◌, ◌<◌, ◌≤◌, ◌+◌, Bool, false, List, [], ◌∷◌, ◌++◌, length, get_or, take, set, map, Option, Some, None, refl, sym, ap, ◌∙◌, arith}
use Rattle.std.specs.List.{range_with_len}
use Rattle.std.proofs.lemmas.List.{take_more_set, get_or_default}
use Rattle.std.proofs.lemmas.List.FromFn.{map-range_with_len_more, get_or-map-range_with_len}
use Rattle.kc_types.specs.declared.owner.Owner.{Owner}
use Rattle.kc_types.specs.declared.owner.Owner.TheVariants.{Core, Host, Free, Vm}
use Rattle.kc_dump.specs.declared.line.FrameLine.{FrameLine}
use Rattle.kc_audit.specs.declared.verdict.FrameVerdict.{FrameVerdict}
use Rattle.kc_dump.specs.Dump.{Dumped, line_at, absent_line}
use Rattle.kc_audit.specs.Marks.{AreMarks}
use Rattle.kc_audit.specs.Verdicts.{verdict_by, wrong_gfn}
use Rattle.kc_audit.specs.Findings.{is_mapped, verdict_of, verdicts_of}

module _ (d : Dumped) (marks : List Bool) (are : AreMarks d marks) where
  gfn-same : (f : ℕ) (owner : Owner) (gfn : Option ℕ) → (line_at d.frames f).owner ≡ owner → (line_at d.frames f).gfn ≡ gfn → wrong_gfn (get_or marks f false) owner gfn ≡ wrong_gfn (is_mapped d f owner gfn) owner gfn
  gfn-same f (Vm v) (Some g) o e = ap (λ b. wrong_gfn b (Vm v) (Some g)) (are.each f v g o e)
  gfn-same f (Vm v) None o e = refl
  gfn-same f Core gfn o e = refl
  gfn-same f Host gfn o e = refl
  gfn-same f Free gfn o e = refl

  verdict-same : (f : ℕ) → verdict_by d.core f (get_or marks f false) (line_at d.frames f) ≡ verdict_of d f
  verdict-same f =
      let line = line_at d.frames f in
      λ i. record (verdict_by d.core f (get_or marks f false) line) { gfn = gfn-same f line.owner line.gfn refl refl i }

  -- one more verdict
  pub judged-more : (lines : List FrameLine) (start i f : ℕ) (out : List FrameVerdict) (line : FrameLine) (x : FrameVerdict) → lines ≡ d.frames → f ≡ start + i → f < length lines → line ≡ get_or lines f line → i < length out
      → take i out ≡ map (verdict_of d) (range_with_len start i) → x ≡ verdict_by d.core f (get_or marks f false) line → take (i + 1) (set out i x) ≡ map (verdict_of d) (range_with_len start (i + 1))
  judged-more lines start i f out line x same place within is low so_far judged =
      let here : line ≡ line_at d.frames f = is ∙ get_or_default lines f line absent_line within ∙ ap (λ ls. get_or ls f absent_line) same in
      let made : x ≡ verdict_of d f = judged ∙ ap (λ l. verdict_by d.core f (get_or marks f false) l) here ∙ verdict-same f in
      take_more_set out i x low ∙ ap (λ l. l ++ x ∷ []) so_far ∙ ap (λ y. map (verdict_of d) (range_with_len start i) ++ y ∷ []) made ∙ sym (map-range_with_len_more (verdict_of d) start i f (sym place))

-- the place among all verdicts of a verdict in a chunk
pub judged-place : (d : Dumped) (n start offset i : ℕ) (none : FrameVerdict) (after : List FrameVerdict) → after ≡ map (verdict_of d) (range_with_len start n) → offset < n → start + offset ≡ i → i < length d.frames
    → get_or after offset none ≡ get_or (verdicts_of d) i none
judged-place d n start offset i none after is low here within =
    ap (λ vs. get_or vs offset none) is ∙ get_or-map-range_with_len (verdict_of d) start n offset i none low here
    ∙ sym (get_or-map-range_with_len (verdict_of d) 0 (length d.frames) i i none within (omega arith))
