-- Who changes the bytes of a frame, whoever owns it and whether it is shared or not.
use Rattle.std.specs.Prelude.{ℕ, ◌≡◌, ◌==◌, Bool, true, false, List, Option, Some, None, if◌then◌else◌}
use Rattle.kc_types.specs.declared.call.Call.{Call}
use Rattle.kc_types.specs.declared.call.Call.TheVariants.{HostWrite, Verify, GuestWrite}
use Rattle.kc_types.specs.declared.reply.Reply.{Reply}
use Rattle.kc_types.specs.declared.reply.Reply.TheVariants as reply
use Rattle.kc_model.specs.State.{State, frame_at, mapped_at, overwritten}
use Rattle.kc_model.specs.Safety.{EachStep}

-- whether it is the frame that is mapped
abbrev pub is_at : ℕ → Option ℕ → Bool
is_at f None = false
is_at f (Some k) = k == f

-- the bytes of a frame after a call with this reply: over them is written only what the host writes to this frame, or
-- what a virtual processor writes at the guest frame at which its own VM has this frame
abbrev pub bytes_after : State → ℕ → Call → Reply → List ℕ → List ℕ
bytes_after m f (HostWrite k off written) reply.Done bytes = if k == f then overwritten bytes off written else bytes
bytes_after m f (GuestWrite v c g off written) reply.Done bytes = if is_at f (mapped_at m v g) then overwritten bytes off written else bytes
bytes_after m f _ _ bytes = bytes

abbrev pub measures : Call → Bool
measures (Verify v) = true
measures _ = false

-- a frame that stays with its owner has exactly these bytes after each call, except after the `verify` that zeroes what
-- follows a boot image
abbrev pub WritesOnly : State → Call → Reply → State → Type 0
WritesOnly old call answer new = (f : ℕ) → (frame_at new f).owner ≡ (frame_at old f).owner → measures call ≡ false → (frame_at new f).bytes ≡ bytes_after old f call answer (frame_at old f).bytes

abbrev pub IsWritten : State → List Call → Type 0
IsWritten m calls = EachStep WritesOnly m calls
