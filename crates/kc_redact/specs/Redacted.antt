-- A trace without the bytes that virtual processors write, and that the host writes to frames of active VMs, and what
-- it still says.
use Rattle.std.specs.Prelude.{ℕ, ◌≡◌, List, [], ◌∷◌, ◌++◌}
use Rattle.kc_types.specs.declared.call.Call.{Call}
use Rattle.kc_trace.specs.declared.header.Header.{Header}
use Rattle.kc_model.specs.State.{State}
use Rattle.kc_model.specs.Lawful.{IsLawful}
use Rattle.kc_model.specs.Custody.{custody}
use Rattle.kc_model.specs.Events.{events}
pub use Rattle.kc_model.specs.Redaction.{blanked, redacted_call, redacted, redacted_in, all_frames, DifferInBytes}
pub use Rattle.kc_model.specs.Blanking.{redacted_from}
use Rattle.kc_remarks.specs.Remarks.{notes}
use Rattle.kc_trace.specs.Header.{host_redacted}
use Rattle.kc_trace.specs.Spelling.{line_of, text_of}
use Rattle.kc_trace.specs.Trace.{IsTrace}

-- the line of a call in a redacted trace, with its newline
abbrev pub redacted_line : Call → List ℕ
redacted_line call = line_of (redacted_call call) ++ 10 ∷ []

-- the text is a trace, and the other text is that of its calls without these bytes, under the same header; from
-- whatever state, both have the same events, the same custody, and the same notes on refusals and accesses
pub record IsRedaction (text other : List ℕ) (calls : List Call) : Type 0 where
  pub header : Header
  pub read : IsTrace text calls
  pub whole : text ≡ text_of header calls
  pub written : other ≡ text_of header (redacted calls)
  pub trace : IsTrace other (redacted calls)
  pub events : (m : State) → IsLawful m → events m (redacted calls) ≡ events m calls
  pub custody : (m : State) → IsLawful m → custody m (redacted calls) ≡ custody m calls
  pub notes : (m : State) → IsLawful m → notes m (redacted calls) ≡ notes m calls

-- the text is a trace, and the other text is that of its calls without these bytes, and without those that the host
-- writes to a frame of a VM that is active just before the call, if the calls begin in this state; its header is the
-- same, but a head says that it lacks these; from this state, and from every lawful one that differs from it only in
-- bytes of active VMs' frames, the other text's calls have the events, the custody and the notes that the trace has from
-- this state
pub record IsHostRedaction (m : State) (text other : List ℕ) (calls : List Call) : Type 0 where
  pub header : Header
  pub read : IsTrace text calls
  pub whole : text ≡ text_of header calls
  pub written : other ≡ text_of (host_redacted header) (redacted_from m calls)
  pub trace : IsTrace other (redacted_from m calls)
  pub events : (n : State) → IsLawful n → DifferInBytes all_frames m n → events n (redacted_from m calls) ≡ events m calls
  pub custody : (n : State) → IsLawful n → DifferInBytes all_frames m n → custody n (redacted_from m calls) ≡ custody m calls
  pub notes : (n : State) → IsLawful n → DifferInBytes all_frames m n → notes n (redacted_from m calls) ≡ notes m calls
