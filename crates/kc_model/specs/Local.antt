-- A call depends only on what it needs, and changes nothing else.
use Rattle.std.specs.Prelude.{ℕ, ◌≡◌, ◌<◌, ◌≤◌, ◌+◌, true, List, [], All, length, Some, None, is_some, slice_index_or}
use Rattle.kc_types.specs.declared.call.Call.{Call}
use Rattle.std.specs.Ordering.{nat_cmp}
use Rattle.std.specs.FinMap as map
use Rattle.kc_types.specs.declared.slot.Phase.TheVariants.{Booting}
use Rattle.kc_model.specs.State.{State, Slot, Image, slot_at}
use Rattle.kc_model.specs.Refusals.{pages_of}
use Rattle.kc_model.specs.Effects.{Outcome}
use Rattle.kc_model.specs.Next.{next}
use Rattle.kc_model.specs.Resources.{Resource, Resources, merged, is_in, part_of}
use Rattle.kc_types.specs.Configuration.{slot_count}

-- the outcome, with the rest outside the resources
abbrev pub outcome_merged : Resources → Outcome → State → Outcome
outcome_merged here outcome rest = (outcome.0, merged here outcome.1 rest)

-- the frame property: the call does with the resources what it does with the whole state, and leaves the rest as it
-- is, whatever it is
abbrev pub IsLocal : Resources → State → State → Call → Type 0
IsLocal here m rest call = next (merged here m rest) call ≡ outcome_merged here (next m call) rest

pub record IsMappedImage (mapped : map.FinMap nat_cmp ℕ) (image : Image) : Type 0 where
  pub some : 0 < pages_of image.len
  pub each_page : (g : ℕ) → image.base ≤ g → g < image.base + image.pages → is_some (map.get mapped g) ≡ true

-- each image has a page, and its pages so far are mapped
abbrev pub HasMappedPages : map.FinMap nat_cmp ℕ → List Image → Type 0
HasMappedPages mapped images = All (IsMappedImage mapped) images

pub record IsOrderlySlot (there : Slot) : Type 0 where
  -- a mapped frame is in the slot's list
  pub listed : (g f : ℕ) → map.get there.mapped g ≡ Some f → is_in there.frames f ≡ true
  pub images : there.phase ≡ Booting → HasMappedPages there.mapped there.images
  -- the next page of an image is not mapped yet
  pub next_page : there.phase ≡ Booting → (i : ℕ) (absent : Image) → i < length there.images → (slice_index_or there.images i absent).pages < pages_of (slice_index_or there.images i absent).len
      → map.get there.mapped ((slice_index_or there.images i absent).base + (slice_index_or there.images i absent).pages) ≡ None

-- what a call needs of the state that it is made in, which follows if the state is lawful
pub record IsOrderly (m : State) : Type 0 where
  pub frames : length m.frames ≡ m.config.frames
  pub slots : length m.slots ≡ slot_count m.config
  pub each_slot : (v : ℕ) → v < slot_count m.config → IsOrderlySlot (slot_at m v)

-- the configuration and the numbers of frames and slots are the same
pub record IsSameSize (old new : State) : Type 0 where
  pub config : new.config ≡ old.config
  pub frames : length new.frames ≡ length old.frames
  pub slots : length new.slots ≡ length old.slots

-- two states of one size agree at each of the resources
pub record AgreesOn (here : Resources) (m other : State) : Type 0 where
  pub size : IsSameSize m other
  pub parts : (r : Resource) → here r ≡ true → part_of other r ≡ part_of m r

-- the state's part at each of the resources, and the default elsewhere
abbrev pub cut : State → Resources → State
cut m here = merged here m (record { config = m.config; frames = []; free = []; slots = [] })
