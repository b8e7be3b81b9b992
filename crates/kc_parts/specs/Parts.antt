-- Parts as contracts see them: places for frames and for slots, each filled or empty, and the ends of the free list.
use Rattle.std.specs.Prelude.{ℕ, suc, ◌<◌, ◌≡◌, ◌==◌, nat_lt, not, Bool, true, false, cond, List, [], ◌∷◌, length, get_or, Option, Some, None, slice_get, slice_set}
use Rattle.std.specs.Option.{option_map}
use Rattle.std.specs.List.{list_any}
use Rattle.kc_types.specs.Limits.{frame_limit}
use Rattle.kc_types.specs.declared.link.Link.{Link}
use Rattle.kc_types.specs.declared.link.Ends.{Ends}
use Rattle.kc_types.specs.declared.owner.Owner.{Owner}
use Rattle.kc_types.specs.declared.owner.Owner.TheVariants.{Core, Host, Free, Vm}
use Rattle.kc_model.specs.State.{zero_page}
use Rattle.kc_page.specs.declared.page.Page.{Page}
use Rattle.kc_vms.specs.Vm.{VmSlot}
use Rattle.kc_links.specs.Chain.{Links}

-- `numbers` are the slots that there are places for, ascending; `slots` has the slot at each place, or nothing if it
-- is taken out
pub record HeldSlots : Type 0 where
  pub numbers : List ℕ
  pub slots : List (Option VmSlot)

-- `numbers` are the frames that there are places for, ascending; `filled` says which places are filled; `pages` has a
-- page at each place, which is blank if the place is empty; `is_reserved` says whether each page always has memory for its
-- bytes
pub record Held : Type 0 where
  pub numbers : List ℕ
  pub filled : List Bool
  pub pages : List Page
  pub vms : HeldSlots
  pub free : Option Ends
  pub is_reserved : Bool

abbrev pub IsRising : List ℕ → Type 0
IsRising numbers = (i j : ℕ) → i < j → j < length numbers → get_or numbers i 0 < get_or numbers j 0

-- the page at a place that is empty: its record says nothing, and its bytes are zero and have no memory
abbrev pub blank_page : Page
blank_page = record {
  meta = record { owner = Core; share = 0; gfn = None; present = false; prev = None; next = None };
  bytes = record { bytes = zero_page; is_reserved = false };
}

-- each place that is not filled has a blank
abbrev pub AreBlanks : List Bool → List Page → Type 0
AreBlanks filled held = (i : ℕ) → get_or filled i true ≡ false → get_or held i blank_page ≡ blank_page

-- what holds of the representation
pub record IsHeld (numbers : List ℕ) (filled : List Bool) (held : List Page) : Type 0 where
  pub rising : IsRising numbers
  pub frames : (i : ℕ) → get_or numbers i 0 < frame_limit
  pub flags : length filled ≡ length numbers
  pub pages : length held ≡ length numbers
  pub blanks : AreBlanks filled held

-- what holds of the representation of slots
pub record AreHeldSlots (numbers : List ℕ) (slots : List (Option VmSlot)) : Type 0 where
  pub rising : IsRising numbers
  pub places : length slots ≡ length numbers

-- the number is in the list
abbrev pub is_among : List ℕ → ℕ → Bool
is_among numbers n = list_any (λ number. n == number) numbers

-- the place of a number, or the number of places if it has none
abbrev pub place_of : List ℕ → ℕ → ℕ
place_of [] n = 0
place_of (number ∷ numbers) n = cond (number == n) 0 (suc (place_of numbers n))

-- there is a place for the number
abbrev pub HasPlace : List ℕ → ℕ → Type 0
HasPlace numbers n = place_of numbers n < length numbers

-- the element at the place of the number, or nothing if it has none
abbrev pub cell_in : {X : Type 0} → List ℕ → List (Option X) → ℕ → Option X
cell_in [] cells n = None
cell_in (number ∷ numbers) [] n = None
cell_in (number ∷ numbers) (cell ∷ cells) n = cond (n == number) cell (cell_in numbers cells n)

-- whether the frame's place is filled
abbrev pub is_filled : List ℕ → List Bool → ℕ → Bool
is_filled [] filled f = false
is_filled (number ∷ numbers) [] f = false
is_filled (number ∷ numbers) (flag ∷ filled) f = cond (number == f) flag (is_filled numbers filled f)

-- the place of a frame's page, or the number of pages if it is not here
abbrev pub place_in : Held → ℕ → ℕ
place_in h f = cond (is_filled h.numbers h.filled f) (place_of h.numbers f) (length h.pages)

abbrev pub page_at : Held → ℕ → Option Page
page_at h f = slice_get h.pages (place_in h f)

-- whether a page is there that has no memory while its bytes are zero
abbrev pub is_sparse : Option Page → Bool
is_sparse (Some page) = not page.bytes.is_reserved
is_sparse None = false

-- a slot by its number, or nothing if it is not here
abbrev pub held_slot : HeldSlots → ℕ → Option VmSlot
held_slot held v = cell_in held.numbers held.slots v

abbrev pub vm_at : Held → ℕ → Option VmSlot
vm_at h v = held_slot h.vms v

abbrev pub with_page : Held → ℕ → Page → Held
with_page h f page = record h { pages = slice_set h.pages (place_in h f) page }

abbrev pub with_held_slot : HeldSlots → ℕ → VmSlot → HeldSlots
with_held_slot held v vm = record held { slots = slice_set held.slots (place_of held.numbers v) (Some vm) }

abbrev pub with_vm : Held → ℕ → VmSlot → Held
with_vm h v vm = record h { vms = with_held_slot h.vms v vm }

-- the slot with other ends of its list
abbrev pub with_ends : VmSlot → Ends → VmSlot
with_ends vm ends = record vm { slot = record vm.slot { frames = ends } }

abbrev pub link_of : Page → Link
link_of page = record { prev = page.meta.prev; next = page.meta.next }

-- the links of the frames that are here
abbrev pub links_of : Held → Links
links_of h f = cond (nat_lt f frame_limit) (option_map link_of (page_at h f)) None

-- the ends of an owner's list, if they are here; the core and the host have none
abbrev pub ends_at : Held → Owner → Option Ends
ends_at h Core = None
ends_at h Host = None
ends_at h Free = h.free
ends_at h (Vm v) = option_map (λ (vm : VmSlot). vm.slot.frames) (vm_at h v)
