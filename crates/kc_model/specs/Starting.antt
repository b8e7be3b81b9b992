-- What a VM starts with.
use Rattle.std.specs.Prelude.{ℕ, ◌≡◌, ◌-◌, ◌*◌, ◌++◌, true, false, List, is_some, replicate, All}
use Rattle.std.specs.List.{list_any, flat_map}
use Rattle.kc_types.specs.Limits.{page_size}
use Rattle.kc_types.specs.declared.call.Call.{Call}
use Rattle.kc_types.specs.declared.reply.Reply.{Reply}
use Rattle.kc_model.specs.State.{State, Image, slot_at, mapped_at}
use Rattle.kc_model.specs.Refusals.{is_short, pages_of}
use Rattle.kc_model.specs.Effects.{is_boot_approved, bytes_at, gfns_of, image_bytes}
use Rattle.kc_model.specs.Lawful.{holds}
use Rattle.kc_model.specs.Safety.{EachStep, IsActive}

-- the pages of an image, joined, are its bytes, and then zeros up to the end of its last page
abbrev pub IsPadded : State → ℕ → Image → Type 0
IsPadded m v image = flat_map (bytes_at m v) (gfns_of image) ≡ image_bytes m v image ++ replicate (page_size * pages_of image.len - image.len) 0

-- the memory of the slot is its boot images and zeros: all of their pages and no others, and what they now hold is
-- approved
pub record IsItsImages (m : State) (v : ℕ) : Type 0 where
  pub whole : list_any is_short (slot_at m v).images ≡ false
  pub only : (g : ℕ) → is_some (mapped_at m v g) ≡ list_any (holds g) (slot_at m v).images
  pub approved : is_boot_approved m v ≡ true
  pub padded : All (IsPadded m v) (slot_at m v).images

-- measured boot (and verified boot, since nothing else starts): if a call makes a slot active, the slot runs what was
-- measured and approved, and nothing else
abbrev pub StartsMeasured : State → Call → Reply → State → Type 0
StartsMeasured old call answer new = (v : ℕ) → (IsActive old v → ⊥) → IsActive new v → IsItsImages new v

abbrev pub IsStarted : State → List Call → Type 0
IsStarted m calls = EachStep StartsMeasured m calls
