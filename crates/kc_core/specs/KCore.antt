-- What holds of a core's parts.
use Rattle.std.specs.Prelude.{ℕ, ◌≡◌, Bool, true, false, if◌then◌else◌, is_none, List, length, map, Option, Some, None}
use Rattle.std.specs.Option.{option_map}
use Rattle.std.specs.Borrow.{Bor}
use Rattle.kc_types.specs.Configuration.{Configuration}
use Rattle.kc_types.specs.declared.owner.Owner.{Owner}
use Rattle.kc_types.specs.declared.owner.Owner.TheVariants.{Core, Host, Free, Vm}
use Rattle.kc_page.specs.declared.page.Page.{Page}
use Rattle.kc_page.specs.declared.page.PageRecord.{PageRecord}
use Rattle.kc_page.specs.PageBytes.{Content}
use Rattle.kc_types.specs.declared.call.Call.TheVariants.{Verify}
use Rattle.kc_model.specs.State.{State, Frame, slot_at}
use Rattle.kc_model.specs.Refusals.{refusal}
use Rattle.kc_model.specs.Lawful.{IsLawful}
use Rattle.kc_parts.specs.Parts.{Held, page_at}
use Rattle.kc_parts.specs.States.{state_of, IsLinked}
use Rattle.kc_parts.specs.Booting.{IsWhole}

-- a core as contracts see it: its state, and whether it is reserved, that is whether its pages always have memory; pages of a
-- core that is not have none while their bytes are zero
pub record SeenCore : Type 0 where
  pub state : State
  pub is_reserved : Bool

-- the core that parts are
abbrev pub core_of : Configuration → Held → SeenCore
core_of config parts = record { state = state_of config parts; is_reserved = parts.is_reserved }

-- the state of a core, if there is one
abbrev pub state_in : Option SeenCore → Option State
state_in core = option_map (λ (core : SeenCore). core.state) core

-- all parts are here, linked, and those of a lawful state
pub record IsCore (config : Configuration) (parts : Held) : Type 0 where
  pub lawful : IsLawful (state_of config parts)
  pub linked : IsLinked config parts
  pub whole : IsWhole config parts

-- whether the owner's frames are in a list
abbrev pub has_list : Owner → Bool
has_list Core = false
has_list Host = false
has_list Free = true
has_list (Vm v) = true

-- the record of a page, with its neighbours if its owner has a list
abbrev pub shown : PageRecord → PageRecord
shown meta = record meta { prev = if has_list meta.owner then meta.prev else None; next = if has_list meta.owner then meta.next else None }

abbrev pub ShowsRecord : Held → ℕ → PageRecord → Type 0
ShowsRecord parts f meta = Some meta ≡ option_map (λ (page : Page). shown page.meta) (page_at parts f)

-- the bytes of all frames, by frame number, as they are lent
abbrev pub AreBytesOf : State → List (Bor Content) → Type 0
AreBytesOf m all = map (λ (bytes : Bor Content). bytes.now.bytes) all ≡ map (λ (frame : Frame). frame.bytes) m.frames

-- the number of frames that `verify` of a slot hashes: all that the slot has, or none if the call is refused
abbrev pub frames_to_hash : State → ℕ → ℕ
frames_to_hash m v = if is_none (refusal m (Verify v)) then length (slot_at m v).frames else 0
