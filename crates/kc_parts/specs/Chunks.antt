-- Pages of frames that follow one another, in chunks: one that no call has changed has none of its pages made.
use Rattle.std.specs.Prelude.{ℕ, ◌≡◌, ◌<◌, ◌≤◌, ◌+◌, ◌-◌, nat_lt, cond, false, List, [], ◌∷◌, length, get_or, map, Option, Some, None}
use Rattle.std.specs.List.{range_with_len, flat_map}
use Rattle.std.specs.Option.{option_map}
use Rattle.kc_types.specs.Limits.{frame_limit}
use Rattle.kc_types.specs.Configuration.{Configuration}
use Rattle.kc_types.specs.declared.owner.Owner.{Owner}
use Rattle.kc_types.specs.declared.owner.Owner.TheVariants.{Core, Host, Free}
use Rattle.kc_model.specs.State.{zero_page}
use Rattle.kc_page.specs.PageBytes.{Content}
use Rattle.kc_page.specs.declared.page.Page.{Page}
use Rattle.kc_page.specs.declared.page.PageRecord.{PageRecord}
use Rattle.kc_parts.specs.declared.layout.Layout.{Layout}
use Rattle.kc_parts.specs.declared.chunk.PageRef.{PageRef}

-- whose each frame is at boot, as the configuration says
abbrev pub layout_of : Configuration → Layout
layout_of config = record { frames = config.frames; host = config.core; free = config.core + config.host }

abbrev pub owner_at_boot : Layout → ℕ → Owner
owner_at_boot l f = cond (nat_lt f l.host) Core (cond (nat_lt f l.free) Host Free)

-- the free frames are linked in ascending order, the others are in no list
abbrev pub prev_at_boot : Layout → ℕ → Option ℕ
prev_at_boot l f = cond (nat_lt l.free f) (Some (f - 1)) None

abbrev pub next_at_boot : Layout → ℕ → Option ℕ
next_at_boot l f = cond (nat_lt f l.free) None (cond (nat_lt (f + 1) l.frames) (Some (f + 1)) None)

abbrev pub record_at_boot : Layout → ℕ → PageRecord
record_at_boot l f = record { owner = owner_at_boot l f; share = 0; present = false; gfn = None; prev = prev_at_boot l f; next = next_at_boot l f }

-- a sparse page of zeros
abbrev pub sparse_zeros : Content
sparse_zeros = record { bytes = zero_page; is_reserved = false }

abbrev pub page_at_boot : Layout → ℕ → Page
page_at_boot l f = record { meta = record_at_boot l f; bytes = sparse_zeros }

-- the pages of this many frames from the first on
unfoldable pub pages_at_boot : Layout → ℕ → ℕ → List Page
pages_at_boot l first count = map (page_at_boot l) (range_with_len first count)

-- the pages of a chunk: as at boot if none is made
abbrev pub pages_of : Layout → ℕ → ℕ → List Page → List Page
pages_of l first count [] = pages_at_boot l first count
pages_of l first count (page ∷ pages) = page ∷ pages

abbrev pub chunk_size : ℕ
chunk_size = 16384

-- all pages of a chunk are made or none, and there is room for all
pub record IsChunk (l : Layout) (first count : ℕ) (pages : List Page) (capacity : ℕ) : Type 0 where
  pub few : l.frames ≤ frame_limit
  pub within : first + count ≤ l.frames
  pub small : count ≤ chunk_size
  pub whole : 0 < length pages → length pages ≡ count
  pub room : count ≤ capacity

-- a page that is lent for reading
abbrev pub page_of : PageRef → Page
page_of page = record { meta = page.meta; bytes = page.bytes.now }

abbrev pub page_read : Option PageRef → Option Page
page_read page = option_map page_of page

-- the pages of all chunks
abbrev pub all_pages : List (List Page) → List Page
all_pages chunks = flat_map (λ chunk. chunk) chunks

-- every chunk has pages, and each but the last as many as a chunk can have
pub record AreChunks (chunks : List (List Page)) : Type 0 where
  pub some : (k : ℕ) → k < length chunks → 0 < length (get_or chunks k [])
  pub full : (k : ℕ) → k + 1 < length chunks → length (get_or chunks k []) ≡ chunk_size
  pub small : (k : ℕ) → length (get_or chunks k []) ≤ chunk_size
