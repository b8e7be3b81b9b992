-- A trace that was read, its digest, and what may come after it.
use Rattle.std.specs.Prelude.{◌≡◌, ◌||◌, ℕ, Bool, true, false, List, [], ◌∷◌, Option, Some, None, is_some, IfSome}
use Rattle.sha2.specs.Sha256.{sha256}
use Rattle.kc_types.specs.declared.call.Call.{Call}
use Rattle.kc_model.specs.Redaction.{redacted}
use Rattle.sha2.specs.declared.Sha256.{Sha256}
use Rattle.kc_redact.specs.Witness.{witnessed, HasSeen}
use Rattle.kc_trace.specs.Header.{has_head}
use Rattle.kc_trace.specs.declared.header.Header.{Header}
use Rattle.kc_trace.specs.declared.header.Position.{Position}
use Rattle.kc_trace.specs.declared.expected.Expected.{Expected}
use Rattle.kc_trace.specs.Expected.{expected_after, position_after}

-- a trace that was read: its header, and its calls
pub record Traced : Type 0 where
  pub header : Header
  pub calls : List Call

-- the digest that a witness publishes of a trace: that of its redacted text, or for one without a head that of its redacted calls under the second header, whichever of the two it has; nothing that guests wrote is in it
abbrev pub trace_digest_of : Traced → List ℕ
trace_digest_of volume = sha256 (witnessed volume.header volume.calls)

-- a trace is named by the digest that a witness publishes
abbrev pub trace_named : Bool → Traced → Option (List ℕ)
trace_named false volume = None
trace_named true volume = Some (trace_digest_of volume)

-- which header the volume after this one may have: one without a head comes after one without, and otherwise a head with the next number and this one's digest
abbrev pub expected_next : Traced → Expected
expected_next volume = expected_after volume.header (Some (trace_digest_of volume))

-- the same after some volumes
abbrev pub expected_last : Expected → List Traced → Expected
expected_last expected [] = expected
expected_last expected (volume ∷ volumes) = expected_last (expected_next volume) volumes

-- where the volume after this one comes, if it has a head
abbrev pub position_next : Traced → Option Position
position_next volume = position_after volume.header (Some (trace_digest_of volume))

-- a trace without what guests wrote
abbrev pub redacted_trace : Traced → Traced
redacted_trace volume = record volume { calls = redacted volume.calls }

-- a trace has a witness if it is to be named, or if the head of the next one has its digest
abbrev pub has_witness : Bool → Header → Bool
has_witness asked header = asked || has_head header

-- there is a witness if there has to be one, and it has seen these calls under the header; before all of that was read there is none, and there are no calls
abbrev pub HasWitnessed : Bool → Option Header → Option Sha256 → List Call → Type 0
HasWitnessed asked None witness calls = (is_some witness ≡ false) × (calls ≡ [])
HasWitnessed asked (Some header) witness calls = (is_some witness ≡ has_witness asked header) × IfSome witness (λ seen. HasSeen seen header calls)

-- the digest of a trace, if it has a witness
abbrev pub digest_if : Bool → Traced → Option (List ℕ)
digest_if asked volume = trace_named (has_witness asked volume.header) volume

-- the same, if the digest is needed
abbrev pub MayHaveWitnessed : Bool → Bool → Option Header → Option Sha256 → List Call → Type 0
MayHaveWitnessed false asked header witness calls = Unit {0}
MayHaveWitnessed true asked header witness calls = HasWitnessed asked header witness calls

-- the digest of a trace, if it has a witness, and if the digest is needed: since the trace is to be named, or since another volume may follow
abbrev pub IsDigested : Bool → Bool → Traced → Option (List ℕ) → Type 0
IsDigested false asked volume digest = Unit {0}
IsDigested true asked volume digest = digest ≡ digest_if asked volume
