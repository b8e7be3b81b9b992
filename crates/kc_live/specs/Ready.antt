-- What is made before a call is.
use Rattle.std.specs.Prelude.{◌≡◌, ◌≤◌, ℕ}
use Rattle.kc_types.specs.declared.call.Call.{Call}
use Rattle.kc_types.specs.ReplyBytes.{most_reply_bytes, most_bytes}

-- the call is there twice, with a buffer for all bytes that it may need, and one for a copy of its reply's
pub record IsReady (call copy : Call) (buffer copy_buffer : ℕ) : Type 0 where
  pub copied : copy ≡ call
  pub fits : most_bytes call ≤ buffer
  pub copy_fits : most_reply_bytes call ≤ copy_buffer
