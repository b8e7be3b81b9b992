-- Words and the images that they name.
use Rattle.std.proofs.Common.{◌≡◌, ◌==◌, ◌+◌, ◌<◌, ◌≤◌, ℕ, List, [], ◌∷◌, ◌++◌, map, length, take, get_or, sym, ap, ap₂, refl, ◌∙◌, arith, Option, Some}
use Rattle.std.specs.Borrow.{Bor}
use Rattle.std.specs.List.{position_or_len, before_first, after_first}
use Rattle.std.proofs.lemmas.List.{take_all, drop_all, map-append, map_more}
use Rattle.clap.specs.Words.{Text}
use Rattle.kc_args.specs.declared.job.ImageFile.{ImageFile}
use Rattle.kc_args.specs.Images.{place_in, place_of, AreImagesOf}

-- a word without `=`
pub before_none : (word : Text) → position_or_len (λ b. b == 61) word ≡ length word → word ≡ before_first (λ b. b == 61) word
before_none word none = sym (take_all (position_or_len (λ b. b == 61) word) word (omega (arith, none)))

pub after_none : (word : Text) → position_or_len (λ b. b == 61) word ≡ length word → [] ≡ after_first (λ b. b == 61) word
after_none word none = sym (drop_all (position_or_len (λ b. b == 61) word + 1) word (omega (arith, none)))

-- the place of an image, and that of a word, if it names one
abbrev pub placed : ImageFile → Option (ℕ × Text)
placed image = Some (place_of image)

abbrev pub named : Bor Text → Option (ℕ × Text)
named word = place_in word.now

-- one image more
pub one_more : (words : List (Bor Text)) (images : List ImageFile) (image : ImageFile) (i : ℕ) (d : Bor Text) → i < length words → map placed images ≡ map named (take i words) → Some (place_of image) ≡ named (get_or words i d)
    → map placed (images ++ image ∷ []) ≡ map named (take (i + 1) words)
one_more words images image i d lt so is =
    map-append placed images (image ∷ [])
    ∙ ap₂ (λ (xs ys : List (Option (ℕ × Text))). xs ++ ys) so (ap (λ (one : Option (ℕ × Text)). one ∷ []) is)
    ∙ sym (map_more named words i d lt)

named_all : (words : List (Bor Text)) → map named words ≡ map place_in (map (λ word. word.now) words)
named_all [] = refl
named_all (word ∷ words) = ap (λ (rest : List (Option (ℕ × Text))). named word ∷ rest) (named_all words)

-- all of them
pub all_named : (words : List (Bor Text)) (images : List ImageFile) (i : ℕ) → length words ≤ i → map placed images ≡ map named (take i words) → AreImagesOf (map (λ word. word.now) words) (Some images)
all_named words images i past so = so ∙ ap (map named) (take_all i words past) ∙ named_all words
