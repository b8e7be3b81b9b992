-- Which bytes of calls decide nothing: those that virtual processors write, and those that the host writes to frames
-- of active VMs, or to frames that it never hands to a booting VM.
use Rattle.std.specs.Prelude.{ℕ, ◌≡◌, Bool, true, false, not, ◌&&◌, List, [], ◌∷◌, map, length, replicate, if◌then◌else◌}
use Rattle.std.specs.List.{AllByRecursion}
use Rattle.kc_types.specs.declared.call.Call.{Call}
use Rattle.kc_types.specs.declared.call.Call.TheVariants.{HostRead, HostWrite, Remap, GuestRead, GuestWrite}
use Rattle.kc_types.specs.declared.reply.Reply.{Reply}
use Rattle.kc_types.specs.declared.reply.Reply.TheVariants as reply
use Rattle.kc_types.specs.declared.owner.Owner.{Owner}
use Rattle.kc_types.specs.declared.owner.Owner.TheVariants.{Vm}
use Rattle.kc_model.specs.State.{State, Frame, frame_at, slot_at}
use Rattle.kc_model.specs.Refusals.{is_active}
use Rattle.kc_model.specs.Next.{next, replies_from, state_after}
use Rattle.kc_model.specs.Lawful.{IsLawful}
use Rattle.kc_model.specs.Custody.{custody_of, custody}
use Rattle.kc_model.specs.Events.{events}

-- zero bytes, as many as there are bytes
abbrev pub blanked : List ℕ → List ℕ
blanked bytes = replicate (length bytes) 0

-- a call without the bytes that a virtual processor writes, but with their number
abbrev pub redacted_call : Call → Call
redacted_call (GuestWrite v c g off bytes) = GuestWrite v c g off (blanked bytes)
redacted_call call = call

abbrev pub redacted : List Call → List Call
redacted calls = map redacted_call calls

-- each frame is kept
abbrev pub all_frames : ℕ → Bool
all_frames f = true

-- no call hands a frame that is not kept to a booting VM
abbrev pub keeps_images : (ℕ → Bool) → Call → Bool
keeps_images kept (Remap v i f) = kept f
keeps_images kept _ = true

abbrev pub KeepsImages : (ℕ → Bool) → List Call → Type 0
KeepsImages kept calls = AllByRecursion (λ call. keeps_images kept call ≡ true) calls

-- whether the bytes of a frame of this owner count: a VM's until it is active, and others' if the frame is kept
abbrev pub counts : (ℕ → Bool) → State → ℕ → Owner → Bool
counts kept m f (Vm v) = not (is_active (slot_at m v).phase)
counts kept m f _ = kept f

-- the same call in this state, also without the bytes that the host writes if these do not count
abbrev pub redacted_in : (ℕ → Bool) → State → Call → Call
redacted_in kept m (HostWrite f off bytes) = HostWrite f off (if kept f && counts kept m f (frame_at m f).owner then bytes else blanked bytes)
redacted_in kept m call = redacted_call call

-- the traces differ only in such bytes
abbrev pub DifferInCalls : (ℕ → Bool) → State → List Call → List Call → Type 0
DifferInCalls kept m [] [] = Unit {0}
DifferInCalls kept m (call ∷ calls) (other ∷ others) = (redacted_in kept m other ≡ redacted_in kept m call) × DifferInCalls kept (next m call).1 calls others
DifferInCalls kept m _ _ = ⊥

-- two frames have the same custody, and the same bytes if these count
pub record AreAlike (count : Bool) (x y : Frame) : Type 0 where
  pub custody : custody_of y ≡ custody_of x
  pub bytes : count ≡ true → y.bytes ≡ x.bytes

-- two states differ only in bytes that do not count
pub record DifferInBytes (kept : ℕ → Bool) (m n : State) : Type 0 where
  pub config : n.config ≡ m.config
  pub free : n.free ≡ m.free
  pub slots : n.slots ≡ m.slots
  pub number : length n.frames ≡ length m.frames
  pub frames : (f : ℕ) → AreAlike (counts kept m f (frame_at m f).owner) (frame_at m f) (frame_at n f)

-- a call that may be answered with bytes
abbrev pub is_read : Call → Bool
is_read (HostRead f off len) = true
is_read (GuestRead v c g off len) = true
is_read _ = false

-- a reply without its bytes, but with their number
abbrev pub redacted_reply : Reply → Reply
redacted_reply (reply.Data bytes) = reply.Data (blanked bytes)
redacted_reply answer = answer

-- the replies to a call are the same, except for the bytes that a read is answered
pub record IsSameReply (call : Call) (answer other : Reply) : Type 0 where
  pub form : redacted_reply other ≡ redacted_reply answer
  pub whole : is_read call ≡ false → other ≡ answer

abbrev pub AreSameReplies : List Call → List Reply → List Reply → Type 0
AreSameReplies [] [] [] = Unit {0}
AreSameReplies (call ∷ calls) (answer ∷ answers) (other ∷ others) = IsSameReply call answer other × AreSameReplies calls answers others
AreSameReplies _ _ _ = ⊥

-- two traces have the same replies, the same events and so the same lives and bars, the same custody, and leave states
-- that differ only in bytes that do not count
pub record TellTheSame (kept : ℕ → Bool) (m n : State) (calls others : List Call) : Type 0 where
  pub number : length others ≡ length calls
  pub replies : AreSameReplies calls (replies_from m calls) (replies_from n others)
  pub events : events n others ≡ events m calls
  pub custody : custody n others ≡ custody m calls
  pub states : DifferInBytes kept (state_after m calls) (state_after n others)

-- if the kept frames include all that become pages of boot images, traces that differ only in other bytes agree in all
-- of these
abbrev pub BytesDecideNothing : State → List Call → Type 0
BytesDecideNothing m calls = (kept : ℕ → Bool) (n : State) (others : List Call) → IsLawful n → DifferInBytes kept m n
    → DifferInCalls kept m calls others → KeepsImages kept calls → TellTheSame kept m n calls others
