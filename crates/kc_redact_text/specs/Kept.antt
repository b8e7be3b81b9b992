-- What is kept of a call that is redacted.
use Rattle.std.specs.Prelude.{◌≤◌}
use Rattle.kc_types.specs.Limits.{page_size}
use Rattle.kc_types.specs.declared.call.Call.{Call}
use Rattle.kc_types.specs.declared.call.Call.TheVariants.{HostWrite}
use Rattle.kc_redact.specs.Redacted.{blanked, redacted_call}
use Rattle.kc_redact.specs.Written.{written_call}
use Rattle.kc_redact_text.specs.declared.calls.Kept.{Kept}
use Rattle.kc_redact_text.specs.declared.calls.Kept.TheVariants as kept

-- a call without the bytes that it writes, whoever makes it
abbrev pub blanked_call : Call → Call
blanked_call (HostWrite f off bytes) = HostWrite f off (blanked bytes)
blanked_call call = redacted_call call

-- the call as a redacted trace has it
abbrev pub kept_call : Kept → Call
kept_call (kept.Written written) = written_call written
kept_call (kept.Whole call) = redacted_call call

-- the write is no longer than a page
abbrev pub IsKept : Kept → Type 0
IsKept (kept.Written written) = written.len ≤ page_size
IsKept (kept.Whole call) = Unit {0}
