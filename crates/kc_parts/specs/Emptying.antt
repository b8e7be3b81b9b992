-- A slot is emptied, and its frames become untouched and free.
use Rattle.std.specs.Prelude.{ℕ, ◌≡◌, ◌<◌, true, false, List, [], ◌∷◌, Option, Some, None, slice_set}
use Rattle.kc_types.specs.Configuration.{Configuration, slot_count}
use Rattle.kc_types.specs.declared.owner.Owner.TheVariants.{Free}
use Rattle.kc_model.specs.State.{empty_slot}
use Rattle.kc_model.specs.Effects.{scrubbed}
use Rattle.kc_model.specs.Lawful.{times_in}
use Rattle.kc_model.specs.Resources.{Resource}
use Rattle.kc_page.specs.declared.page.Page.{Page}
use Rattle.kc_page.specs.PageBytes.{zeroed}
use Rattle.kc_parts.specs.Parts.{Held, page_at, with_page, links_of}
use Rattle.kc_parts.specs.States.{state_of, here_of, owner_at, is_away, listed_frames, IsLinked}

-- the page of an untouched free frame, with the links that the frame had
abbrev pub untouched_page : Page → Page
untouched_page page = record { meta = record page.meta { owner = Free; share = 0; gfn = None; present = false }; bytes = zeroed page.bytes }

-- the parts with such a page for the frame, if it has a page
abbrev pub with_untouched : Held → ℕ → Option Page → Held
with_untouched h f None = h
with_untouched h f (Some page) = with_page h f (untouched_page page)

-- the parts with the frame untouched and free, if it is here
abbrev pub with_scrubbed : Held → ℕ → Held
with_scrubbed h f = with_untouched h f (page_at h f)

-- the parts with each of these frames untouched and free
abbrev pub all_scrubbed : Held → List ℕ → Held
all_scrubbed h [] = h
all_scrubbed h (f ∷ fs) = all_scrubbed (with_scrubbed h f) fs

-- the slot is as at boot, its frames are untouched, free and in no list, and nothing else that is seen has changed
pub record IsEmptied (v : ℕ) (old new : Held) : Type 0 where
  pub numbers : new.numbers ≡ old.numbers
  pub slots : new.vms.numbers ≡ old.vms.numbers
  pub filled : new.filled ≡ old.filled
  pub reserved : new.is_reserved ≡ old.is_reserved
  pub free : new.free ≡ old.free
  pub links : links_of new ≡ links_of old
  pub here : (r : Resource) → here_of new r ≡ here_of old r
  pub owners : (config : Configuration) → IsLinked config old → (f : ℕ) → 0 < times_in (listed_frames old v) f → owner_at new f ≡ Free
  pub away : (config : Configuration) → IsLinked config old → (f : ℕ) → is_away old f ≡ true → owner_at new f ≡ owner_at old f
  pub state : (config : Configuration) → IsLinked config old → v < slot_count config
      → state_of config new ≡ record (state_of config old) { frames = scrubbed (state_of config old).frames (listed_frames old v); slots = slice_set (state_of config old).slots v (empty_slot config.version) }
  pub linked : (config : Configuration) → IsLinked config old → IsLinked config new
