-- What a launch measurement says of a boot: no two boots have one text that is hashed.
use Rattle.std.specs.Prelude.{ℕ, ◌≡◌, ◌^◌, ◌<◌, List, ◌++◌, length, map, All}
use Rattle.std.specs.Int.{w64, to_le_bytes}
use Rattle.std.specs.List.{flat_map}
use Rattle.sha2.specs.Sha256.{sha256}
use Rattle.kc_model.specs.State.{State, slot_at}
use Rattle.kc_model.specs.Effects.{image_bytes, launch_digest}

-- an image that is booted: its first guest frame and its bytes
pub record Booted : Type 0 where
  pub base : ℕ
  pub bytes : List ℕ

-- the text that is hashed of images: of each, in order, its first guest frame, its length, and its bytes
abbrev pub booted_part : Booted → List ℕ
booted_part image = to_le_bytes w64 image.base ++ (to_le_bytes w64 (length image.bytes) ++ image.bytes)

abbrev pub launch_text : List Booted → List ℕ
launch_text images = flat_map booted_part images

-- its numbers fit in eight bytes
pub record FitsLaunch (image : Booted) : Type 0 where
  pub base : image.base < 2 ^ 64
  pub length : length image.bytes < 2 ^ 64

-- images with one text are the same, each in its place
abbrev pub AreLaunchedApart : Type 0
AreLaunchedApart = (one two : List Booted) → All FitsLaunch one → All FitsLaunch two → launch_text one ≡ launch_text two → one ≡ two

-- the images of a slot as they are booted
abbrev pub booted : State → ℕ → List Booted
booted m v = map (λ image. record { base = image.base; bytes = image_bytes m v image }) (slot_at m v).images

-- the launch measurement of a slot with whole images is the digest of the text of these
abbrev pub IsLaunchOf : State → ℕ → Type 0
IsLaunchOf m v = All (λ image. length (image_bytes m v image) ≡ image.len) (slot_at m v).images → launch_digest m v ≡ sha256 (launch_text (booted m v))
