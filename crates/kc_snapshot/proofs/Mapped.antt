-- A table that maps each page of some images, and nothing else.
use Rattle.std.proofs.Common.{ℕ, suc, ◌≡◌, ◌<◌, ◌+◌, ◌-◌, Bool, true, nat_le, nat_lt, List, [], ◌∷◌, get_or, is_some, All, eq-eqb, refl, sym, ap, ◌∙◌, inl, inr, arith}
use Rattle.std.specs.Prelude.{◌==◌}
use Rattle.std.specs.List.{list_any}
use Rattle.std.specs.Ordering.{nat_cmp}
use Rattle.std.specs.FinMap as finite
use Rattle.std.specs.FinMap.Entries.{find}
use Rattle.std.proofs.lemmas.Bool.{cases_eq, ne_eqb, eqb-true, or_cases, and_parts, leb-true, ltb-true}
use Rattle.std.proofs.lemmas.Grind.{common_steps}
use Rattle.std.proofs.lemmas.List.Folds.{list_any_at}
use Rattle.kc_model.specs.State.{Image}
use Rattle.kc_model.specs.Lawful.{holds}
use Rattle.kc_vms.proofs.Maps.{keys-same, keys-other}
use Rattle.kc_parts.proofs.Filled.{bool-same}

-- whether the guest frame is mapped
abbrev pub has : List (ℕ × ℕ) → ℕ → Bool
has es g = list_any (λ (e : ℕ × ℕ). e.0 == g) es

find-key : (g : ℕ) (es : List (ℕ × ℕ)) → is_some (find nat_cmp g es) ≡ has es g
find-key g [] = refl
find-key g (e ∷ es) = elim (cases_eq e.0 g) [
  | inl same ↦ rw same (rw (keys-same g, eq-eqb g g refl) refl)
  | inr other ↦ rw (keys-other g e.0 (λ s. other (sym s)), ne_eqb e.0 g other) (find-key g es)
]

-- a map has a guest frame if and only if its entries have it
pub entry-key : (m : finite.FinMap nat_cmp ℕ) (g : ℕ) → is_some (finite.get m g) ≡ has (finite.entries m) g
entry-key m g = ap is_some (finite.get-entries m g) ∙ find-key g (finite.entries m)

-- each page of the image so far is mapped
abbrev pub MapsPages : List (ℕ × ℕ) → Image → Type 0
MapsPages es image = (k : ℕ) → k < image.pages → has es (image.base + k) ≡ true

-- each mapped guest frame is a page of an image
abbrev pub AreHeld : List Image → List (ℕ × ℕ) → Type 0
AreHeld images es = All (λ (e : ℕ × ℕ). list_any (holds e.0) images ≡ true) es

abbrev pub MapsImages : List (ℕ × ℕ) → List Image → Type 0
MapsImages es images = (g : ℕ) → has es g ≡ list_any (holds g) images

at-image : (es : List (ℕ × ℕ)) (images : List Image) (g : ℕ) → All (MapsPages es) images → list_any (holds g) images ≡ true → has es g ≡ true
at-image es [] g all any = cc
at-image es (image ∷ images) g all any = elim (or_cases (holds g image) (list_any (holds g) images) any) [
  | inl here ↦
      let parts = and_parts (nat_le image.base g) (nat_lt g (image.base + image.pages)) here in
      let from = leb-true image.base g parts.0 in
      let below = ltb-true g (image.base + image.pages) parts.1 in
      let same : image.base + (g - image.base) ≡ g = omega (arith, from) in
      let mapped-there = all 0 image (omega arith) (g - image.base) (omega (arith, from, below)) in
      ap (λ n. has es n) (sym same) ∙ mapped-there
  | inr later ↦ at-image es images g (λ k d lt. all (suc k) d (omega (arith, lt))) later
]

at-entry : (es : List (ℕ × ℕ)) (images : List Image) (g : ℕ) → AreHeld images es → has es g ≡ true → list_any (holds g) images ≡ true
at-entry [] images g all any = cc
at-entry (e ∷ es) images g all any = elim (or_cases (e.0 == g) (has es g) any) [
  | inl here ↦ ap (λ n. list_any (holds n) images) (sym (eqb-true e.0 g here)) ∙ all 0 e (omega arith)
  | inr later ↦ at-entry es images g (λ k d lt. all (suc k) d (omega (arith, lt))) later
]

pub maps-images : (es : List (ℕ × ℕ)) (images : List Image) → AreHeld images es → All (MapsPages es) images → MapsImages es images
maps-images es images held pages g = bool-same (has es g) (list_any (holds g) images) (at-entry es images g held) (at-image es images g pages)

pub images-held : (es : List (ℕ × ℕ)) (images : List Image) → MapsImages es images → AreHeld images es
images-held es images maps k d low = sym (maps (get_or es k d).0) ∙ list_any_at (λ (e : ℕ × ℕ). e.0 == (get_or es k d).0) es k d low (eq-eqb (get_or es k d).0 (get_or es k d).0 refl)

holds-own : (image : Image) (k : ℕ) → k < image.pages → holds (image.base + k) image ≡ true
holds-own image k low = grind (arith, common_steps, low)

pub images-mapped : (es : List (ℕ × ℕ)) (images : List Image) → MapsImages es images → All (MapsPages es) images
images-mapped es images maps i d lt k low = maps ((get_or images i d).base + k) ∙ list_any_at (holds ((get_or images i d).base + k)) images i d lt (holds-own (get_or images i d) k low)
