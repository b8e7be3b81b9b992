-- The limits of `src/limits.rt`, under the names that definitions use.
use Rattle.std.specs.Prelude.{ℕ}
use Rattle.kc_types.specs.declared.limits.TheConstants.{PAGE_SIZE, LEAF_ENTRIES, FRAME_LIMIT, SLOT_LIMIT, VCPU_LIMIT, GFN_LIMIT, LEAF_LIMIT, IMAGE_LIMIT, IMAGE_SIZE_LIMIT, FIRST_FRAME_LIMIT, SECOND_FRAME_LIMIT, FIRST_SLOT_LIMIT, SECOND_SLOT_LIMIT, FIRST_VCPU_LIMIT, FIRST_GFN_LIMIT, FIRST_LEAF_LIMIT, FIRST_IMAGE_LIMIT, FIRST_IMAGE_SIZE_LIMIT, DIGEST_LIMIT, SHARE_LIMIT, RANGE_LIMIT, CALL_LIMIT, WORKER_LIMIT, LINE_LIMIT, BYTE_LIMIT}

abbrev pub page_size : ℕ
page_size = PAGE_SIZE

abbrev pub leaf_entries : ℕ
leaf_entries = LEAF_ENTRIES

-- ---- the ranges of numbers, in every version: they are the limits of version 3

abbrev pub frame_limit : ℕ
frame_limit = FRAME_LIMIT

abbrev pub slot_limit : ℕ
slot_limit = SLOT_LIMIT

abbrev pub vcpu_limit : ℕ
vcpu_limit = VCPU_LIMIT

abbrev pub gfn_limit : ℕ
gfn_limit = GFN_LIMIT

abbrev pub leaf_limit : ℕ
leaf_limit = LEAF_LIMIT

abbrev pub image_limit : ℕ
image_limit = IMAGE_LIMIT

abbrev pub image_size_limit : ℕ
image_size_limit = IMAGE_SIZE_LIMIT

-- ---- the limits of versions 1 and 2: `Configuration` says which of them holds

abbrev pub first_frame_limit : ℕ
first_frame_limit = FIRST_FRAME_LIMIT

abbrev pub second_frame_limit : ℕ
second_frame_limit = SECOND_FRAME_LIMIT

abbrev pub first_slot_limit : ℕ
first_slot_limit = FIRST_SLOT_LIMIT

abbrev pub second_slot_limit : ℕ
second_slot_limit = SECOND_SLOT_LIMIT

abbrev pub first_vcpu_limit : ℕ
first_vcpu_limit = FIRST_VCPU_LIMIT

abbrev pub first_gfn_limit : ℕ
first_gfn_limit = FIRST_GFN_LIMIT

abbrev pub first_leaf_limit : ℕ
first_leaf_limit = FIRST_LEAF_LIMIT

abbrev pub first_image_limit : ℕ
first_image_limit = FIRST_IMAGE_LIMIT

abbrev pub first_image_size_limit : ℕ
first_image_size_limit = FIRST_IMAGE_SIZE_LIMIT

-- ---- the rules of every version

abbrev pub digest_limit : ℕ
digest_limit = DIGEST_LIMIT

abbrev pub share_limit : ℕ
share_limit = SHARE_LIMIT

abbrev pub range_limit : ℕ
range_limit = RANGE_LIMIT

abbrev pub call_limit : ℕ
call_limit = CALL_LIMIT

abbrev pub worker_limit : ℕ
worker_limit = WORKER_LIMIT

abbrev pub line_limit : ℕ
line_limit = LINE_LIMIT

abbrev pub byte_limit : ℕ
byte_limit = BYTE_LIMIT
