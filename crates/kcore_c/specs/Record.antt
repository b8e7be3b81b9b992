-- What C gets of frames and of a session, in numbers.
use Rattle.std.specs.Prelude.{◌≡◌, ◌<◌, ◌≤◌, ℕ, ◌==◌, ◌&&◌, Bool, true, false, if◌then◌else◌, Option, Some, None}
use Rattle.kc_types.specs.declared.owner.Owner.{Owner}
use Rattle.kc_types.specs.declared.owner.Owner.TheVariants.{Core, Host, Free, Vm}
use Rattle.kc_types.specs.declared.call.Actor.{Actor}
use Rattle.kc_types.specs.declared.call.Actor.TheVariants as actors
use Rattle.kc_types.specs.declared.custody.Custody.{Custody}
use Rattle.kc_types.specs.declared.custody.FrameChange.{FrameChange}
use Rattle.kc_model.specs.State.{State}
use Rattle.kc_model.specs.Custody.{custody_at}
use Rattle.kcore_c.specs.declared.record.Record.{Record}
use Rattle.kcore_c.specs.declared.record.Change.{Change}

-- the number for no slot and for no guest frame; as a slot that asks, the host
abbrev pub none_code : ℕ
none_code = 4294967295

abbrev pub owner_code : Owner → ℕ
owner_code Core = 0
owner_code Host = 1
owner_code Free = 2
owner_code (Vm v) = 3

abbrev pub vm_code : Owner → ℕ
vm_code (Vm v) = v
vm_code _ = none_code

abbrev pub gfn_code : Option ℕ → ℕ
gfn_code (Some g) = g
gfn_code None = none_code

abbrev pub flag_code : Bool → ℕ
flag_code true = 1
flag_code false = 0

abbrev pub record_of : Custody → Record
record_of custody = record { owner = owner_code custody.owner; vm = vm_code custody.owner; gfn = gfn_code custody.gfn; share = custody.share; present = flag_code custody.present }

abbrev pub change_of : FrameChange → Change
change_of change = record { frame = change.frame; before = record_of change.before; after = record_of change.after }

-- who asks, by the numbers that C gives
abbrev pub asking : ℕ → ℕ → Actor
asking vm vcpu = if vm == none_code then actors.Host else actors.Vcpu vm vcpu

-- a frame's record has this owner, by the numbers that C gives
abbrev pub is_of : State → ℕ → ℕ → ℕ → Bool
is_of m owner vm f = (owner_code (custody_at m f).owner == owner) && (vm_code (custody_at m f).owner == vm)

-- the first frame from this number on whose record has this owner
pub record IsNextOf (m : State) (owner vm from frame : ℕ) : Type 0 where
  pub above : from ≤ frame
  pub exists : frame < m.config.frames
  pub owned : is_of m owner vm frame ≡ true
  pub first : (g : ℕ) → from ≤ g → g < frame → is_of m owner vm g ≡ false

-- no frame from this number on has this owner
abbrev pub HasNoneOf : State → ℕ → ℕ → ℕ → Type 0
HasNoneOf m owner vm from = (g : ℕ) → from ≤ g → g < m.config.frames → is_of m owner vm g ≡ false
