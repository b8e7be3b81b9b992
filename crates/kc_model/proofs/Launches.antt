-- The text of a launch measurement has one reading.
use Rattle.std.proofs.Common.{ℕ, zero, suc, ◌≡◌, ◌<◌, ◌+◌, ◌^◌, All, List, [], ◌∷◌, ◌++◌, length, map, refl, sym, ap, ap₂, subst, ◌∙◌, arith, append_assoc, length-append}
use Rattle.std.proofs.Math.Seq.{take-append_seam}
use Rattle.std.proofs.lemmas.List.{append_cancel_left}
use Rattle.std.proofs.lemmas.List.Elements.{All-head, All-tail}
use Rattle.std.specs.Prelude.{take}
use Rattle.std.specs.Int.{w64, to_le_bytes, bytes_low_first}
use Rattle.std.specs.List.{flat_map}
use Rattle.sha2.specs.Sha256.{sha256}
use Rattle.byteorder.specs.Endian.{little_from}
use Rattle.byteorder.specs.Numbers.{little_number-reads_back, length-bytes_low_first}
use Rattle.kc_model.specs.State.{State, Image, slot_at}
use Rattle.kc_model.specs.Effects.{image_bytes, launch_part, launch_digest}
use Rattle.kc_model.specs.Launches.{Booted, booted_part, launch_text, FitsLaunch, AreLaunchedApart, booted, IsLaunchOf}

-- eight bytes at the front of equal texts are one number, and what comes after them is the same
number-read : (x y : ℕ) (one two : List ℕ) → x < 2 ^ 64 → y < 2 ^ 64 → bytes_low_first 0 8 x ++ one ≡ bytes_low_first 0 8 y ++ two → (x ≡ y) × (one ≡ two)
number-read x y one two fits_x fits_y same =
    let number : x ≡ y = sym (little_number-reads_back 8 x one fits_x) ∙ ap (little_from 0 8) same ∙ little_number-reads_back 8 y two fits_y in
    (number, append_cancel_left (bytes_low_first 0 8 y) one two (subst (λ n. bytes_low_first 0 8 n ++ one ≡ bytes_low_first 0 8 y ++ two) number same))

-- as many bytes at the front of equal texts are the same
bytes-read : (xs ys one two : List ℕ) → length xs ≡ length ys → xs ++ one ≡ ys ++ two → (xs ≡ ys) × (one ≡ two)
bytes-read xs ys one two long same =
    let bytes : xs ≡ ys = sym (take-append_seam xs one) ∙ ap₂ take long same ∙ take-append_seam ys two in
    (bytes, append_cancel_left ys one two (subst (λ zs. zs ++ one ≡ ys ++ two) bytes same))

parted : (image : Booted) (rest : List ℕ) → booted_part image ++ rest ≡ to_le_bytes w64 image.base ++ (to_le_bytes w64 (length image.bytes) ++ (image.bytes ++ rest))
parted image rest =
    append_assoc (to_le_bytes w64 image.base) (to_le_bytes w64 (length image.bytes) ++ image.bytes) rest
    ∙ ap (λ more. to_le_bytes w64 image.base ++ more) (append_assoc (to_le_bytes w64 (length image.bytes)) image.bytes rest)

image-read : (x y : Booted) (one two : List ℕ) → FitsLaunch x → FitsLaunch y → booted_part x ++ one ≡ booted_part y ++ two → (x ≡ y) × (one ≡ two)
image-read x y one two fits_x fits_y same =
    let first = number-read x.base y.base _ _ fits_x.base fits_y.base (sym (parted x one) ∙ same ∙ parted y two) in
    let second = number-read (length x.bytes) (length y.bytes) _ _ fits_x.length fits_y.length first.1 in
    let third = bytes-read x.bytes y.bytes one two second.0 second.1 in
    (λ i. record { base = first.0 i; bytes = third.0 i }, third.1)

-- a text of an image is not empty
some : (image : Booted) (rest : List ℕ) → length (booted_part image ++ rest) ≡ 0 → ⊥
some image rest none =
    omega (arith, none, ap length (parted image rest), length-append (to_le_bytes w64 image.base) (to_le_bytes w64 (length image.bytes) ++ (image.bytes ++ rest)), length-bytes_low_first 0 8 image.base)

pub apart : AreLaunchedApart
apart [] [] fit_one fit_two same = refl
apart [] (y ∷ ys) fit_one fit_two same = absurd (some y (launch_text ys) (ap length (sym same)))
apart (x ∷ xs) [] fit_one fit_two same = absurd (some x (launch_text xs) (ap length same))
apart (x ∷ xs) (y ∷ ys) fit_one fit_two same =
    let read = image-read x y (launch_text xs) (launch_text ys) (All-head FitsLaunch x xs fit_one) (All-head FitsLaunch y ys fit_two) same in
    ap₂ ◌∷◌ read.0 (apart xs ys (All-tail FitsLaunch x xs fit_one) (All-tail FitsLaunch y ys fit_two) read.1)

abbrev as_booted : State → ℕ → Image → Booted
as_booted m v image = record { base = image.base; bytes = image_bytes m v image }

texts-same : (m : State) (v : ℕ) (images : List Image) → All (λ image. length (image_bytes m v image) ≡ image.len) images → flat_map (launch_part m v) images ≡ launch_text (map (as_booted m v) images)
texts-same m v [] whole = refl
texts-same m v (image ∷ images) whole =
    ap₂ ◌++◌
    (ap (λ n. to_le_bytes w64 image.base ++ (to_le_bytes w64 n ++ image_bytes m v image)) (sym (All-head (λ (i : Image). length (image_bytes m v i) ≡ i.len) image images whole)))
    (texts-same m v images (All-tail (λ (i : Image). length (image_bytes m v i) ≡ i.len) image images whole))

pub launch-of : (m : State) (v : ℕ) → IsLaunchOf m v
launch-of m v whole = ap sha256 (texts-same m v (slot_at m v).images whole)
