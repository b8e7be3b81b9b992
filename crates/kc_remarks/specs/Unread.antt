-- Notes show nothing of bytes that decide nothing.
use Rattle.std.specs.Prelude.{ℕ, ◌≡◌, Bool, List}
use Rattle.kc_types.specs.declared.call.Call.{Call}
use Rattle.kc_model.specs.State.{State}
use Rattle.kc_model.specs.Lawful.{IsLawful}
use Rattle.kc_model.specs.Redaction.{redacted, DifferInBytes, DifferInCalls, KeepsImages}
use Rattle.kc_model.specs.Blanking.{blank_state, redacted_from}
use Rattle.kc_remarks.specs.Remarks.{notes}

-- traces that differ only in bytes that do not count, granted or not, have the same notes: what was refused, what was
-- served, and all events
abbrev pub NotesShowNoBytes : State → List Call → Type 0
NotesShowNoBytes m calls = (kept : ℕ → Bool) (n : State) (others : List Call) → IsLawful n → DifferInBytes kept m n → DifferInCalls kept m calls others → KeepsImages kept calls → notes n others ≡ notes m calls

-- redacted calls have the notes of the calls themselves: from the same state, and from the blank one; so have those
-- without the bytes that the host writes to frames of active VMs
pub record NotesAreRedacted (m : State) (calls : List Call) : Type 0 where
  pub same : notes m (redacted calls) ≡ notes m calls
  pub blank : notes (blank_state m) (redacted calls) ≡ notes m calls
  pub host : notes (blank_state m) (redacted_from m calls) ≡ notes m calls
