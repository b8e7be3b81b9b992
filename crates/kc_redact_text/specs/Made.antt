-- Calls that are redacted as they come, and made on a core, if there is one.
use Rattle.std.specs.Prelude.{Bool, false, List, [], ◌∷◌, ◌++◌, Option, Some, None}
use Rattle.kc_types.specs.Configuration.{Configuration}
use Rattle.kc_types.specs.declared.call.Call.{Call}
use Rattle.kc_types.specs.declared.call.Call.TheVariants.{HostWrite}
use Rattle.kc_model.specs.State.{State, frame_at}
use Rattle.kc_types.specs.declared.reply.Reply.{Reply}
use Rattle.kc_model.specs.Next.{next, replies_from, state_after}
use Rattle.kc_model.specs.Blanking.{is_guests}
use Rattle.kc_remarks.specs.declared.denials.Denials.{Denials}
use Rattle.kc_remarks.specs.Denials.{Counts}
use Rattle.kc_redact.specs.Redacted.{redacted_call, redacted, redacted_in, redacted_from, all_frames}

-- whether the host writes by the call to a frame of an active VM
abbrev pub is_hidden : State → Call → Bool
is_hidden m (HostWrite f off bytes) = is_guests m (frame_at m f).owner
is_hidden m _ = false

-- a call redacted: plainly if there is no core, and otherwise also without what the host writes to a frame of an
-- active VM
abbrev pub redacted_next : Option State → Call → Call
redacted_next None call = redacted_call call
redacted_next (Some m) call = redacted_in all_frames m call

-- the core after it
abbrev pub core_next : Option State → Call → Option State
core_next None call = None
core_next (Some m) call = Some (next m call).1

-- the same for calls in order
abbrev pub redacted_by : Option State → List Call → List Call
redacted_by None calls = redacted calls
redacted_by (Some m) calls = redacted_from m calls

abbrev pub core_after : Option State → List Call → Option State
core_after None calls = None
core_after (Some m) calls = Some (state_after m calls)

-- the configuration of the core, if there is one
abbrev pub config_of : Option State → Option Configuration
config_of None = None
config_of (Some m) = Some m.config

-- the reply of the core to a call, if there is one
abbrev pub reply_next : Option State → Call → List Reply
reply_next None call = []
reply_next (Some m) call = (next m call).0 ∷ []

-- its replies to calls in order
abbrev pub replies_by : Option State → List Call → List Reply
replies_by None calls = []
replies_by (Some m) calls = replies_from m calls

-- the counts of any replies become those of these replies after them
abbrev pub CountsMore : List Reply → Denials → Denials → Type 0
CountsMore more old new = (replies : List Reply) → Counts replies old → Counts (replies ++ more) new
