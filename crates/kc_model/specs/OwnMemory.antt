-- What an active VM's memory holds: what it wrote there.
use Rattle.std.specs.Prelude.{ℕ, ◌≡◌, ◌<◌, ◌≤◌, ◌+◌, ◌==◌, ◌&&◌, if◌then◌else◌, List, Some, slice_range}
use Rattle.kc_types.specs.declared.call.Call.{Call}
use Rattle.kc_types.specs.declared.call.Call.TheVariants.{GuestRead, GuestWrite}
use Rattle.kc_types.specs.declared.reply.Reply.{Reply}
use Rattle.kc_types.specs.declared.reply.Reply.TheVariants as reply
use Rattle.kc_types.specs.declared.owner.Owner.TheVariants.{Vm}
use Rattle.kc_model.specs.State.{State, frame_at, mapped_at, overwritten}
use Rattle.kc_model.specs.Footprints.{state_at, call_at, reply_at}
use Rattle.kc_model.specs.Custody.{custody_at}
use Rattle.kc_model.specs.CustodyLaws.{IsStretch, HasNoChange}
use Rattle.kc_model.specs.Safety.{EachStep, IsActive}

-- the bytes of a VM's page at a guest frame after a call with this reply: only what the VM's virtual processors write
-- there is written over them
abbrev pub page_after : ℕ → ℕ → Call → Reply → List ℕ → List ℕ
page_after v g (GuestWrite w c h off written) reply.Done bytes = if (w == v) && (h == g) then overwritten bytes off written else bytes
page_after v g _ _ bytes = bytes

-- through a stretch without a change of an active VM's frame that is not shared, each call leaves the page's bytes
-- with exactly the VM's own writes to its guest frame over them
abbrev pub KeepsWritten : State → List Call → Type 0
KeepsWritten m calls = (i j v g f : ℕ) → IsStretch calls i j → HasNoChange m calls i j f
    → (custody_at (state_at m calls i) f).owner ≡ Vm v → (custody_at (state_at m calls i) f).gfn ≡ Some g → (custody_at (state_at m calls i) f).share ≡ 0 → IsActive (state_at m calls i) v
    → (k : ℕ) → i ≤ k → k < j → (frame_at (state_at m calls (k + 1)) f).bytes ≡ page_after v g (call_at calls k) (reply_at m calls k) (frame_at (state_at m calls k) f).bytes

-- the bytes that a virtual processor reads are those of the frame at its guest frame
abbrev pub ReadsItsPages : State → Call → Reply → State → Type 0
ReadsItsPages old (GuestRead v c g off len) (reply.Data bytes) new = (f : ℕ) × (mapped_at old v g ≡ Some f) × (bytes ≡ slice_range (frame_at old f).bytes off (off + len))
ReadsItsPages old _ _ new = Unit {0}

pub record IsOwnMemory (m : State) (calls : List Call) : Type 0 where
  pub written : KeepsWritten m calls
  pub read : EachStep ReadsItsPages m calls
