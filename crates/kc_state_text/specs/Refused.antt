-- Which text is which state's, and why a text is not a state's.
use Rattle.std.specs.Prelude.{ℕ, ◌≡◌, ◌<◌, ◌≤◌, ◌+◌, ◌^◌, ◌⊎◌, List, [], ◌++◌, length, All, Option, Some, false, None, IfSome}
use Rattle.kc_types.specs.Limits.{second_frame_limit, second_slot_limit, first_gfn_limit, first_vcpu_limit, first_image_limit, digest_limit}
use Rattle.kc_model.specs.State.{Vcpu, Image}
use Rattle.kc_model.specs.Lawful.{IsPage}
use Rattle.kc_dump_text.specs.Grammar.{IsDumpText}
use Rattle.kc_dump_text.specs.DumpText.{dump_text}
use Rattle.kc_dump_text.specs.Refused.{IsRefusedDump}
use Rattle.kc_dump_text.specs.declared.fault.DumpFault.TheVariants as dump
use Rattle.kc_snapshot.specs.Told.{Told, SlotRest}
use Rattle.kc_snapshot.specs.Unlawful.{IsUnlawful}
use Rattle.kc_snapshot.specs.declared.unlawful.Unlawful.{Unlawful}
use Rattle.kc_snapshot.specs.declared.unlawful.Unlawful.TheVariants as unlawful
use Rattle.kc_model.specs.Volumes.{IsDigest}
use Rattle.kc_trace.specs.declared.header.Position.{Position}
use Rattle.kc_trace.specs.Header.{IsPosition}
use Rattle.kc_state_text.specs.declared.fault.StateFault.{StateFault}
use Rattle.kc_state_text.specs.declared.fault.StateFault.TheVariants.{NoHeader, BadLine, Missing, Sizes, Found, Slot, Frame, Memory}
use Rattle.kc_state_text.specs.declared.sizes.Sizes as numbers
use Rattle.kc_state_text.specs.Faults.{fault_after}
use Rattle.kc_state_text.specs.StateText.{Front, state_header, second_header, volume_line, header_of, sizes_line, approved_line, slot_line, page_line, front_text, front_of, told_text}

-- which numbers the line of sizes may have: none above the limits of every configuration
pub record AreSizes (sizes : numbers.Sizes) : Type 0 where
  pub slots : sizes.slots ≤ second_slot_limit
  pub frames : sizes.frames ≤ second_frame_limit
  pub host : sizes.host ≤ second_frame_limit
  pub approved : sizes.approved ≤ digest_limit

-- a virtual processor that is not registered waits for nothing
pub record IsVcpuWord (vcpu : Vcpu) : Type 0 where
  pub absent : vcpu.registered ≡ false → vcpu.fault ≡ None
  pub gfn : (g : ℕ) → vcpu.fault ≡ Some g → g < first_gfn_limit

pub record AreImageWords (image : Image) : Type 0 where
  pub base : image.base < 2 ^ 32
  pub len : image.len < 2 ^ 32
  pub pages : image.pages < 2 ^ 32

-- what the line of a slot may say
pub record IsSlotLine (rest : SlotRest) : Type 0 where
  pub vcpus : length rest.vcpus ≡ first_vcpu_limit
  pub each_vcpu : All IsVcpuWord rest.vcpus
  pub few_images : length rest.images ≤ first_image_limit
  pub each_image : All AreImageWords rest.images

-- what the lines before the dump may say
pub record IsFront (front : Front) : Type 0 where
  pub sizes : AreSizes front.sizes
  pub approved : All IsDigest front.approved
  pub slots : All IsSlotLine front.slots
  pub pages : All IsPage front.pages

-- there are as many lines as the sizes say
pub record IsWholeFront (front : Front) : Type 0 where
  pub approved : length front.approved ≡ front.sizes.approved
  pub slots : length front.slots ≡ front.sizes.slots
  pub pages : length front.pages ≡ front.sizes.frames

abbrev pub line_count : Front → ℕ
line_count front = 2 + length front.approved + length front.slots + length front.pages

-- the text does not go on with such a line
abbrev pub HasNone : {X : Type 0} → (X → Type 0) → (X → List ℕ) → List ℕ → Type 0
HasNone {X} Is spelled text = (x : X) (more : List ℕ) → Is x → text ≡ spelled x ++ more → ⊥

-- a line of the front is due, and the text does not go on with such a line
abbrev pub LacksLine : Front → List ℕ → Type 0
LacksLine front text =
    ((length front.approved < front.sizes.approved) × (front.slots ≡ []) × (front.pages ≡ []) × HasNone IsDigest approved_line text)
    ⊎ ((length front.approved ≡ front.sizes.approved) × (length front.slots < front.sizes.slots) × (front.pages ≡ []) × HasNone IsSlotLine slot_line text)
    ⊎ ((length front.approved ≡ front.sizes.approved) × (length front.slots ≡ front.sizes.slots) × (length front.pages < front.sizes.frames) × HasNone IsPage page_line text)

-- the text begins with these lines
pub record BeginsWith (text : List ℕ) (said : Front) (rest : List ℕ) : Type 0 where
  pub whole : text ≡ front_text said ++ rest
  pub front : IsFront said

-- the line of this number, counted from 1 with the header as the first, may not be there before the dump
abbrev pub StopsBefore : List ℕ → ℕ → Type 0
StopsBefore text n =
    ((n ≡ 2) × ((rest : List ℕ) × (text ≡ state_header ++ rest) × HasNone AreSizes sizes_line rest))
    ⊎ ((front : Front) × (rest : List ℕ) × BeginsWith text front rest × LacksLine front rest × (n ≡ line_count front + 1))

-- what follows the front is not a dump, for this reason; the count of lines goes on
abbrev pub IsDumpFault : Front → List ℕ → StateFault → Type 0
IsDumpFault front rest NoHeader = ⊥
IsDumpFault front rest (BadLine n) =
    (IsRefusedDump rest dump.NoHeader × (n ≡ line_count front + 1))
    ⊎ ((k : ℕ) × IsRefusedDump rest (dump.BadLine k) × (n ≡ line_count front + k))
IsDumpFault front rest (Missing f) = IsRefusedDump rest (dump.Frame f)
IsDumpFault front rest Sizes = ⊥
IsDumpFault front rest (Found finding) = ⊥
IsDumpFault front rest (Slot v) = ⊥
IsDumpFault front rest (Frame f) = ⊥
IsDumpFault front rest Memory = ⊥

-- the front is whole, and what follows is not a dump
pub record StopsWithin (text : List ℕ) (fault : StateFault) : Type 0 where
  pub front : Front
  pub rest : List ℕ
  pub begins : BeginsWith text front rest
  pub whole : IsWholeFront front
  pub why : IsDumpFault front rest fault

-- the text is this description, each line where it may be
pub record IsTextOf (text : List ℕ) (t : Told) : Type 0 where
  pub whole : text ≡ told_text t
  pub front : IsFront (front_of t.rest)
  pub dump : IsDumpText (dump_text t.dump) t.dump

-- the text describes no lawful state
abbrev pub TellsNone : List ℕ → Unlawful → Type 0
TellsNone text why = (t : Told) × IsTextOf text t × IsUnlawful t why

-- the text is not that of a lawful state without a position, and this is the first reason
abbrev pub IsRefusedState : List ℕ → StateFault → Type 0
IsRefusedState text NoHeader = (rest : List ℕ) → text ≡ state_header ++ rest → ⊥
IsRefusedState text (BadLine n) = StopsBefore text n ⊎ StopsWithin text (BadLine n)
IsRefusedState text (Missing f) = StopsWithin text (Missing f)
IsRefusedState text Sizes = TellsNone text unlawful.Sizes
IsRefusedState text (Found finding) = TellsNone text (unlawful.Found finding)
IsRefusedState text (Slot v) = TellsNone text (unlawful.Slot v)
IsRefusedState text (Frame f) = TellsNone text (unlawful.Frame f)
IsRefusedState text Memory = Unit {0}

-- ---- texts with a position or none

-- the text has the header of this position or none, and the rest follows
pub record HasHeader (text : List ℕ) (position : Option Position) (rest : List ℕ) : Type 0 where
  pub whole : text ≡ header_of position ++ rest
  pub is : IfSome position IsPosition

-- the text has neither header, or not the line of a position after the second
abbrev pub LacksHeader : List ℕ → StateFault → Type 0
LacksHeader text NoHeader = ((rest : List ℕ) → text ≡ state_header ++ rest → ⊥) × ((rest : List ℕ) → text ≡ second_header ++ rest → ⊥)
LacksHeader text (BadLine n) = (n ≡ 2) × ((rest : List ℕ) × (text ≡ second_header ++ rest) × HasNone IsPosition volume_line rest)
LacksHeader text (Missing f) = ⊥
LacksHeader text Sizes = ⊥
LacksHeader text (Found finding) = ⊥
LacksHeader text (Slot v) = ⊥
LacksHeader text (Frame f) = ⊥
LacksHeader text Memory = ⊥

-- the text has a header, and with the first in its place it is refused, for this reason but for the number of a line
pub record IsRefusedAfter (text : List ℕ) (fault : StateFault) : Type 0 where
  pub position : Option Position
  pub rest : List ℕ
  pub header : HasHeader text position rest
  pub why : StateFault
  pub refused : IsRefusedState (state_header ++ rest) why
  pub same : fault ≡ fault_after position why

-- the text is not that of a lawful state, with a position or none, and this is the first reason
abbrev pub IsRefusedPlaced : List ℕ → StateFault → Type 0
IsRefusedPlaced text fault = LacksHeader text fault ⊎ IsRefusedAfter text fault
