-- What a VM is served whatever the host does, and what the host can always do.
use Rattle.std.specs.Prelude.{ℕ, ◌≡◌, ◌<◌, ◌≤◌, ◌+◌, ◌==◌, ◌&&◌, Bool, true, false, List, Some, length, slice_range}
use Rattle.kc_types.specs.Limits.{page_size}
use Rattle.kc_types.specs.Configuration.{slot_count}
use Rattle.kc_types.specs.declared.call.Call.{Call}
use Rattle.kc_types.specs.declared.call.Call.TheVariants.{GuestRead, GuestWrite, Drop, Clear}
use Rattle.kc_types.specs.declared.reply.Reply.{Reply}
use Rattle.kc_types.specs.declared.reply.Reply.TheVariants as reply
use Rattle.kc_types.specs.declared.slot.Phase.TheVariants.{Empty}
use Rattle.kc_model.specs.State.{State, frame_at, slot_at, vcpu_at, mapped_at}
use Rattle.kc_model.specs.Safety.{EachStep, IsActive}

-- a registered virtual processor of an active VM accesses bytes of the page that the frame backs
pub record MayAccess (m : State) (v c g off len f : ℕ) : Type 0 where
  pub active : IsActive m v
  pub registered : (vcpu_at m v c).registered ≡ true
  pub mapped : mapped_at m v g ≡ Some f
  pub some : 0 < len
  pub within : off + len ≤ page_size

-- such a read is answered with the page's bytes, such a write is done, and `clear` is done for every slot that is not
-- empty
abbrev pub ServesAlways : State → Call → Reply → State → Type 0
ServesAlways old (GuestRead v c g off len) answer new = (f : ℕ) → MayAccess old v c g off len f → answer ≡ reply.Data (slice_range (frame_at old f).bytes off (off + len))
ServesAlways old (GuestWrite v c g off bytes) answer new = (f : ℕ) → MayAccess old v c g off (length bytes) f → answer ≡ reply.Done
ServesAlways old (Clear v) answer new = v < slot_count old.config → ((slot_at old v).phase ≡ Empty → ⊥) → answer ≡ reply.Done
ServesAlways old _ answer new = Unit {0}

-- the calls that take a page from a VM: its own `drop` of that page, and the `clear` of the whole VM
abbrev pub takes_page : ℕ → ℕ → Call → Bool
takes_page v g (Drop w c h) = (w == v) && (h == g)
takes_page v g (Clear w) = w == v
takes_page v g _ = false

-- any other call leaves a page where it is mapped
abbrev pub KeepsPages : State → Call → Reply → State → Type 0
KeepsPages old call answer new = (v g f : ℕ) → mapped_at old v g ≡ Some f → takes_page v g call ≡ false → mapped_at new v g ≡ Some f

pub record IsAvailable (m : State) (calls : List Call) : Type 0 where
  pub serves : EachStep ServesAlways m calls
  pub pages : EachStep KeepsPages m calls
