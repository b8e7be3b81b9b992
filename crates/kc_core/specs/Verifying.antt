-- What verifying a slot reads of parts.
use Rattle.std.specs.Prelude.{ℕ, ◌≡◌, ◌<◌, ◌≤◌, ◌+◌, List, [], ◌∷◌, All, Bool, true, is_some, Option, Some, None, length, take, if◌then◌else◌}
use Rattle.std.specs.List.{flat_map, list_any}
use Rattle.std.specs.FinMap as map
use Rattle.kc_types.specs.Configuration.{Configuration}
use Rattle.kc_types.specs.Limits.{gfn_limit}
use Rattle.kc_types.specs.declared.custody.MeasuredImage.{MeasuredImage}
use Rattle.kc_model.specs.State.{Image}
use Rattle.kc_model.specs.Refusals.{backing, pages_of}
use Rattle.kc_model.specs.Effects.{gfns_of, same_bytes, first_failing}
use Rattle.kc_page.specs.declared.page.Page.{Page}
use Rattle.kc_vms.specs.Vm.{VmSlot}
use Rattle.kc_parts.specs.Parts.{Held, page_at}
use Rattle.kc_parts.specs.States.{frame_in}

-- the frame to which a slot leads from a guest frame, or none if the slot is not here
abbrev pub mapped_in : Option VmSlot → ℕ → Option ℕ
mapped_in (Some vm) g = map.get vm.slot.mapped g
mapped_in None g = None

-- the page at a guest frame
abbrev pub page_under : Held → (ℕ → Option ℕ) → ℕ → Option Page
page_under h mapped g = page_at h (backing (mapped g))

abbrev pub bytes_under : Held → (ℕ → Option ℕ) → ℕ → List ℕ
bytes_under h mapped g = (frame_in (page_under h mapped g)).bytes

-- the bytes of an image: those of its pages, joined
abbrev pub bytes_of_image : Held → (ℕ → Option ℕ) → Image → List ℕ
bytes_of_image h mapped image = take image.len (flat_map (bytes_under h mapped) (gfns_of image))

-- the image has a byte, and its pages have guest frames
pub record IsMeasurable (image : Image) : Type 0 where
  pub some : 0 < image.len
  pub within : image.base + pages_of image.len ≤ gfn_limit

-- each page of the image is mapped, and here
pub record IsImageHere (h : Held) (mapped : ℕ → Option ℕ) (image : Image) : Type 0 where
  pub mapped_pages : (g : ℕ) → image.base ≤ g → g < image.base + pages_of image.len → is_some (mapped g) ≡ true
  pub pages : (g : ℕ) → image.base ≤ g → g < image.base + pages_of image.len → is_some (page_under h mapped g) ≡ true

-- the length of the first image
abbrev pub first_len : List Image → ℕ
first_len [] = 0
first_len (image ∷ images) = image.len

-- four images of one length
abbrev pub AreFourAlike : List Image → Type 0
AreFourAlike images = (length images ≡ 4) × All (λ image. image.len ≡ first_len images) images

-- the configuration approves a digest
abbrev pub is_approved_digest : Configuration → List ℕ → Bool
is_approved_digest config digest = list_any (λ approved. same_bytes approved digest) config.approved

-- the image for which a boot with these measurements is rejected: the first that is not approved, or the first of all if
-- boots are approved as a whole
abbrev pub rejected_for : Configuration → List MeasuredImage → Option (List ℕ) → Option ℕ
rejected_for config images None = first_failing (λ image. is_approved_digest config image.digest) images
rejected_for config images (Some launch) = if is_approved_digest config launch then None else Some 0
