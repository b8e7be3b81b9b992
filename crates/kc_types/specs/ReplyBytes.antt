-- The number of bytes that a reply carries, the most that the reply to a call may carry, and the most for which a call may
-- need memory.
use Rattle.std.specs.Prelude.{ℕ, Bool, true, false, length, nat_le, if◌then◌else◌}
use Rattle.kc_types.specs.Limits.{page_size}
use Rattle.kc_types.specs.declared.call.Call.{Call}
use Rattle.kc_types.specs.declared.call.Call.TheVariants.{HostRead, HostWrite, GuestRead, GuestWrite}
use Rattle.kc_types.specs.declared.reply.Reply.{Reply}
use Rattle.kc_types.specs.declared.reply.Reply.TheVariants.{Done, Data}

-- the number of bytes that a reply carries
abbrev pub bytes_in : Reply → ℕ
bytes_in (Data bytes) = length bytes
bytes_in _ = 0

-- whether a reply is bytes
abbrev pub is_data : Reply → Bool
is_data (Data bytes) = true
is_data _ = false

-- the most bytes that a read may answer: it is refused if it asks for more than a page
abbrev pub readable : ℕ → ℕ
readable len = if nat_le len page_size then len else 0

-- the most bytes that the reply to a call may carry
abbrev pub most_reply_bytes : Call → ℕ
most_reply_bytes (HostRead f off len) = readable len
most_reply_bytes (GuestRead v c g off len) = readable len
most_reply_bytes _ = 0

-- the most bytes for which a call may need memory: those of its reply, or those of a page that it is the first to write
abbrev pub most_bytes : Call → ℕ
most_bytes (HostWrite f off bytes) = page_size
most_bytes (GuestWrite v c g off bytes) = page_size
most_bytes call = most_reply_bytes call

-- whether memory may run out for a call that the rules answer so, if pages of zeros have no memory: the reply is bytes, or
-- bytes are written
abbrev pub may_lack : Call → Reply → Bool
may_lack (HostWrite f off bytes) Done = true
may_lack (GuestWrite v c g off bytes) Done = true
may_lack call reply = is_data reply
