-- What a witness has seen: the redacted trace of some calls.
use Rattle.std.specs.Prelude.{ℕ, List}
use Rattle.sha2.specs.Hashers.{Holds256}
use Rattle.sha2.specs.declared.Sha256.{Sha256}
use Rattle.kc_types.specs.declared.call.Call.{Call}
use Rattle.kc_trace.specs.declared.header.Header.{Header}
use Rattle.kc_trace.specs.declared.header.Header.TheVariants.{One, Two, Three}
use Rattle.kc_trace.specs.Spelling.{text_of}
use Rattle.kc_redact.specs.Redacted.{redacted}

-- the header that a trace with this header is witnessed under: its own if it has a head, and otherwise the one under
-- which any call may come
abbrev pub witness_header : Header → Header
witness_header One = Two
witness_header Two = Two
witness_header (Three head) = Three head

-- an append-only log: the redacted trace of these calls after this header. It is tamper-evident once its digest is
-- published, unless SHA-256 has a collision
abbrev pub witnessed : Header → List Call → List ℕ
witnessed header calls = text_of (witness_header header) (redacted calls)

-- the hasher has taken the redacted trace of these calls after this header
abbrev pub HasSeen : Sha256 → Header → List Call → Type 0
HasSeen hasher header calls = Holds256 hasher (witnessed header calls)
