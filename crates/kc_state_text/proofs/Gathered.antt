-- Things that were taken from the words of a line, one after another.
use Rattle.std.proofs.Common.{ℕ, zero, suc, ◌≡◌, ◌<◌, ◌≤◌, ◌+◌, List, [], ◌∷◌, ◌++◌, length, All, refl, sym, ap, ◌∙◌, append_assoc, arith}
use Rattle.std.specs.List.{flat_map}
use Rattle.std.proofs.lemmas.List.{append-nil, length-map}
use Rattle.std.proofs.lemmas.Grind.{flat_map-append}
use Rattle.kc_types.specs.Limits.{first_vcpu_limit, first_image_limit}
use Rattle.kc_model.specs.State.{Vcpu, Image}
use Rattle.kc_state_text.specs.StateText.{vcpu_word, vcpu_words, image_words, vcpus_words, images_words, slot_words}
use Rattle.kc_state_text.specs.Refused.{IsVcpuWord, AreImageWords, IsSlotLine}
use Rattle.kc_state_text.specs.Reading.{LacksFirst, LacksWhole, BeginsAs, IsWhole, after_name, AreVcpus, AreImages}
use Rattle.kc_state_text.proofs.Spelled.{head-of, tail-of, append-same, rest-same}

pub all-more : {X : Type 0} (P : X → Type 0) (xs : List X) (x : X) → All P xs → P x → All P (xs ++ x ∷ [])
all-more P [] x all is zero d lt = is
all-more P [] x all is (suc k) d lt = absurd (omega (arith, lt))
all-more P (y ∷ xs) x all is zero d lt = all 0 d (omega arith)
all-more P (y ∷ xs) x all is (suc k) d lt = all-more P xs x (tail-of P y xs all) is k d (omega (arith, lt))

-- what is left of lines that begin with these
pub record IsRest {X A : Type 0} (Is : X → Type 0) (spelled : X → List A) (xs ys : List X) (left more : List A) : Type 0 where
  pub rest : List X
  pub each : All Is rest
  pub long : length ys ≡ length xs + length rest
  pub whole : left ≡ flat_map spelled rest ++ more

-- if each thing that begins a list begins it in one way only, then the things of a list begin with those taken
module _ {X A : Type 0} (Is : X → Type 0) (spelled : X → List A) (one : (x y : X) (c d : List A) → Is x → Is y → spelled x ++ c ≡ spelled y ++ d → c ≡ d) where
  pub left-of : (xs ys : List X) (left more : List A) → All Is xs → All Is ys → length xs ≤ length ys → flat_map spelled xs ++ left ≡ flat_map spelled ys ++ more → IsRest Is spelled xs ys left more
  left-of [] ys left more a b le e = record { rest = ys; each = b; long = omega arith; whole = e }
  left-of (x ∷ xs) [] left more a b le e = absurd (omega (arith, le))
  left-of (x ∷ xs) (y ∷ ys) left more a b le e =
      let after = one x y (flat_map spelled xs ++ left) (flat_map spelled ys ++ more) (head-of Is x xs a) (head-of Is y ys b)
      (sym (append_assoc (spelled x) (flat_map spelled xs) left) ∙ e ∙ append_assoc (spelled y) (flat_map spelled ys) more) in
      let r = left-of xs ys left more (tail-of Is x xs a) (tail-of Is y ys b) (omega (arith, le)) after in
      record { rest = r.rest; each = r.each; long = (let l = r.long in omega (arith, l)); whole = r.whole }

-- ---- virtual processors

one-word : (x y : Vcpu) (c d : List (List ℕ)) → IsVcpuWord x → IsVcpuWord y → vcpu_words x ++ c ≡ vcpu_words y ++ d → c ≡ d
one-word x y c d a b e = cc

mapped : (vcpus : List Vcpu) → vcpus_words vcpus ≡ flat_map vcpu_words vcpus
mapped [] = refl
mapped (v ∷ vs) = ap (λ ws. vcpu_word v ∷ ws) (mapped vs)

-- there are too few
pub vcpus-lack : (vcpus : List Vcpu) (words rest : List (List ℕ)) → All IsVcpuWord vcpus → length vcpus < first_vcpu_limit → words ≡ vcpus_words vcpus ++ rest → LacksFirst IsVcpuWord vcpu_words rest → LacksFirst AreVcpus vcpus_words words
vcpus-lack vcpus words rest all few e lacks others more are is =
    let eight = are.eight in
    let r = left-of IsVcpuWord vcpu_words one-word vcpus others rest more all are.each (omega (arith, few, eight))
    (ap (λ (ws : List (List ℕ)). ws ++ rest) (sym (mapped vcpus)) ∙ sym e ∙ is ∙ ap (λ (ws : List (List ℕ)). ws ++ more) (mapped others)) in
    by_rest r.rest r.each r.whole (let l = r.long in omega (arith, l, few, eight))
  where
    by_rest : (left : List Vcpu) → All IsVcpuWord left → rest ≡ flat_map vcpu_words left ++ more → 0 < length left → ⊥
    by_rest [] each whole some = omega (arith, some)
    by_rest (v ∷ vs) each whole some = lacks v (flat_map vcpu_words vs ++ more) (head-of IsVcpuWord v vs each) (whole ∙ append_assoc (vcpu_words v) (flat_map vcpu_words vs) more)

-- ---- images

one-image : (x y : Image) (c d : List (List ℕ)) → AreImageWords x → AreImageWords y → image_words x ++ c ≡ image_words y ++ d → c ≡ d
one-image x y c d a b e = cc

pub images-more : (images : List Image) (image : Image) (words rest more : List (List ℕ)) → words ≡ images_words images ++ rest → rest ≡ image_words image ++ more → words ≡ images_words (images ++ image ∷ []) ++ more
images-more images image words rest more e f =
    e ∙ ap (λ (ws : List (List ℕ)). images_words images ++ ws) f ∙ sym (append_assoc (images_words images) (image_words image) more)
    ∙ ap (λ (ws : List (List ℕ)). ws ++ more) (ap (λ (ws : List (List ℕ)). images_words images ++ ws) (sym (append-nil (image_words image))) ∙ sym (flat_map-append image_words images (image ∷ [])))

few-images : (xs ys : List Image) (left : List (List ℕ)) → All AreImageWords xs → All AreImageWords ys → flat_map image_words xs ++ left ≡ flat_map image_words ys → length xs ≤ length ys
few-images [] ys left a b e = omega arith
few-images (x ∷ xs) [] left a b e = absurd cc
few-images (x ∷ xs) (y ∷ ys) left a b e = let more : flat_map image_words xs ++ left ≡ flat_map image_words ys = cc in let r = few-images xs ys left (tail-of AreImageWords x xs a) (tail-of AreImageWords y ys b) more in omega (arith, r)

-- words are left, so another list of images that they spell goes on
goes-on : (images others : List Image) (words rest : List (List ℕ)) → All AreImageWords images → All AreImageWords others → words ≡ images_words images ++ rest → words ≡ images_words others → IsRest AreImageWords image_words images others rest []
goes-on images others words rest all each e is =
    let same : flat_map image_words images ++ rest ≡ flat_map image_words others = sym e ∙ is in
    left-of AreImageWords image_words one-image images others rest [] all each (few-images images others rest all each same) (same ∙ sym (append-nil (flat_map image_words others)))

pub images-lack : (images : List Image) (words rest : List (List ℕ)) → All AreImageWords images → (rest ≡ [] → ⊥) → words ≡ images_words images ++ rest → LacksFirst AreImageWords image_words rest → LacksWhole AreImages images_words words
images-lack images words rest all some e lacks others are is = let r = goes-on images others words rest all are.each e is in by_rest r.rest r.each r.whole
  where
    by_rest : (left : List Image) → All AreImageWords left → rest ≡ flat_map image_words left ++ [] → ⊥
    by_rest [] each whole = some whole
    by_rest (x ∷ xs) each whole = lacks x (flat_map image_words xs ++ []) (head-of AreImageWords x xs each) (whole ∙ append_assoc (image_words x) (flat_map image_words xs) [])

-- there may not be a fifth one
pub images-many : (images : List Image) (words rest : List (List ℕ)) → All AreImageWords images → (rest ≡ [] → ⊥) → length images ≡ first_image_limit → words ≡ images_words images ++ rest → LacksWhole AreImages images_words words
images-many images words rest all some full e others are is = let r = goes-on images others words rest all are.each e is in by_rest r.rest r.long r.whole
  where
    by_rest : (left : List Image) → length others ≡ length images + length left → rest ≡ flat_map image_words left ++ [] → ⊥
    by_rest [] long whole = some whole
    by_rest (x ∷ xs) long whole = let few = are.few in omega (arith, few, full, long)

-- ---- slots

-- the words after 8 virtual processors are not images
pub no-images : (name : List ℕ) (words first second : List (List ℕ)) (vcpus : List Vcpu) → words ≡ name ∷ first → BeginsAs AreVcpus vcpus_words first vcpus second → LacksWhole AreImages images_words second
    → LacksWhole IsSlotLine (after_name name slot_words) words
no-images name words first second vcpus e begins lacks slot is g =
    let same : vcpus_words vcpus ++ second ≡ vcpus_words slot.vcpus ++ images_words slot.images = sym begins.whole ∙ rest-same name name first (slot_words slot) (sym e ∙ g) in
    let long = length-map vcpus vcpu_word in
    let other = length-map slot.vcpus vcpu_word in
    let eight = begins.is.eight in
    let there = is.vcpus in
    lacks slot.images (record { few = is.few_images; each = is.each_image }) (append-same (vcpus_words vcpus) (vcpus_words slot.vcpus) second (images_words slot.images) (omega (arith, long, other, eight, there)) same).1

pub slot-read : (name : List ℕ) (words first second : List (List ℕ)) (vcpus : List Vcpu) (images : List Image) → words ≡ name ∷ first → BeginsAs AreVcpus vcpus_words first vcpus second → IsWhole AreImages images_words second images
    → IsWhole IsSlotLine (after_name name slot_words) words (record { vcpus = vcpus; images = images })
slot-read name words first second vcpus images e begins whole = record {
  is = record { vcpus = begins.is.eight; each_vcpu = begins.is.each; few_images = whole.is.few; each_image = whole.is.each };
  whole = e ∙ ap (λ (ws : List (List ℕ)). name ∷ ws) (begins.whole ∙ ap (λ (ws : List (List ℕ)). vcpus_words vcpus ++ ws) whole.whole);
}
