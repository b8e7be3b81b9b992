-- Which header the trace has to have that goes on from a state, and how a header may differ from it.
use Rattle.std.specs.Prelude.{ℕ, ◌≡◌, ◌≢◌, ◌+◌, ◌^◌, nat_lt, List, Option, Some, None, if◌then◌else◌}
use Rattle.kc_types.specs.Configuration.{Configuration}
use Rattle.kc_trace.specs.declared.header.Position.{Position}
use Rattle.kc_trace.specs.declared.header.Position.TheVariants as position
use Rattle.kc_trace.specs.declared.header.Header.{Header}
use Rattle.kc_trace.specs.declared.header.Header.TheVariants.{Three}
use Rattle.kc_types.specs.declared.call.Call.{Call}
use Rattle.kc_trace.specs.Trace.{IsTraceUnder, IsRefused}
use Rattle.kc_trace.specs.declared.fault.TraceFault.{TraceFault}
use Rattle.kc_trace.specs.declared.fault.TraceFault.TheVariants.{Misplaced}
use Rattle.kc_trace.specs.declared.expected.Expected.{Expected}
use Rattle.kc_trace.specs.declared.expected.Expected.TheVariants.{Bare, First, At, After, AfterNumber}
use Rattle.kc_trace.specs.declared.expected.MachinePart.{MachinePart}
use Rattle.kc_trace.specs.declared.expected.MachinePart.TheVariants as part
use Rattle.kc_trace.specs.declared.expected.HeaderFault.{HeaderFault}
use Rattle.kc_trace.specs.declared.expected.HeaderFault.TheVariants as fault

-- the machines differ in this, and in nothing that comes before it
abbrev pub DiffersIn : MachinePart → Configuration → Configuration → Type 0
DiffersIn part.Version a b = a.version ≢ b.version
DiffersIn part.Frames a b = (a.version ≡ b.version) × (a.frames ≢ b.frames)
DiffersIn part.Core a b = (a.version ≡ b.version) × (a.frames ≡ b.frames) × (a.core ≢ b.core)
DiffersIn part.Host a b = (a.version ≡ b.version) × (a.frames ≡ b.frames) × (a.core ≡ b.core) × (a.host ≢ b.host)
DiffersIn part.Leaves a b = (a.version ≡ b.version) × (a.frames ≡ b.frames) × (a.core ≡ b.core) × (a.host ≡ b.host) × (a.leaves ≢ b.leaves)
DiffersIn part.Approved a b =
    (a.version ≡ b.version) × (a.frames ≡ b.frames) × (a.core ≡ b.core) × (a.host ≡ b.host) × (a.leaves ≡ b.leaves) × (a.approved ≢ b.approved)

-- the number of a volume, counted from 1
abbrev pub number_of : Position → ℕ
number_of position.First = 1
number_of (position.Later number after) = number

-- the number of a volume, if it has a head
abbrev pub head_number : Header → Option ℕ
head_number (Three head) = Some (number_of head.position)
head_number header = None

-- which header the next volume may have, by the header of this one and the digest of its redacted text, if it has a head; if this text lacks bytes that the host wrote, the next head has another digest, which is not known
abbrev pub expected_after : Header → Option (List ℕ) → Expected
expected_after (Three head) (Some digest) = if head.is_host_redacted then AfterNumber (number_of head.position) else After (number_of head.position) digest
expected_after header digest = Bare

-- the position after this number, unless it is the last number of 32 bits
abbrev pub next_position : ℕ → List ℕ → Option Position
next_position number digest = if nat_lt (number + 1) (2 ^ 32) then Some (position.Later (number + 1) digest) else None

-- where the next volume comes, by the header of this one and the digest of its redacted text, if it has a head; this is not known if the text lacks bytes that the host wrote
abbrev pub position_after : Header → Option (List ℕ) → Option Position
position_after (Three head) (Some digest) = if head.is_host_redacted then None else next_position (number_of head.position) digest
position_after header digest = None

-- the header has a head, of this machine and with this position
abbrev pub HasHead : Configuration → Position → Header → Type 0
HasHead config place (Three head) = (config ≡ head.config) × (head.position ≡ place)
HasHead config place header = ⊥

-- the header has a head, of this machine and with this number
abbrev pub HasNumber : Configuration → ℕ → Header → Type 0
HasNumber config number (Three head) = (config ≡ head.config) × (number_of head.position ≡ number)
HasNumber config number header = ⊥

-- a trace of this machine may have this header where such a one is expected
abbrev pub MayHave : Configuration → Expected → Header → Type 0
MayHave config Bare (Three head) = ⊥
MayHave config Bare header = Unit {0}
MayHave config First (Three head) = HasHead config position.First (Three head)
MayHave config First header = Unit {0}
MayHave config (At place) header = HasHead config place header
MayHave config (After number digest) header = HasHead config (position.Later (number + 1) digest) header
MayHave config (AfterNumber number) header = HasNumber config (number + 1) header

-- the text is a trace of these calls, and its header is one that is expected there
abbrev pub IsTraceThere : Configuration → Expected → List ℕ → List Call → Type 0
IsTraceThere config expected text calls = (header : Header) × MayHave config expected header × IsTraceUnder header text calls

-- what is wrong with a position that is to be the first one
abbrev pub IsPositionFault : Position → Position → HeaderFault → Type 0
IsPositionFault expected place fault.Number = number_of place ≢ number_of expected
IsPositionFault expected place fault.Digest = (number_of place ≡ number_of expected) × (place ≢ expected)
IsPositionFault expected place _ = ⊥

-- what is wrong with a header that is to have a head of this machine and with this position
abbrev pub IsHeadFault : Configuration → Position → Header → HeaderFault → Type 0
IsHeadFault config place (Three head) (fault.Machine differs) = DiffersIn differs config head.config
IsHeadFault config place (Three head) wrong = (config ≡ head.config) × IsPositionFault place head.position wrong
IsHeadFault config place header fault.Missing = Unit {0}
IsHeadFault config place header wrong = ⊥

-- what is wrong with a header that is to have a head of this machine and with this number
abbrev pub IsNumberFault : Configuration → ℕ → Header → HeaderFault → Type 0
IsNumberFault config number (Three head) (fault.Machine differs) = DiffersIn differs config head.config
IsNumberFault config number (Three head) fault.Number = (config ≡ head.config) × (number_of head.position ≢ number)
IsNumberFault config number (Three head) wrong = ⊥
IsNumberFault config number header fault.Missing = Unit {0}
IsNumberFault config number header wrong = ⊥

-- what is wrong with a header where such a one is expected
abbrev pub IsHeaderFault : Configuration → Expected → Header → HeaderFault → Type 0
IsHeaderFault config Bare (Three head) fault.Unexpected = Unit {0}
IsHeaderFault config First (Three head) (fault.Machine differs) = DiffersIn differs config head.config
IsHeaderFault config First (Three head) fault.NotFirst = (config ≡ head.config) × (head.position ≢ position.First)
IsHeaderFault config (At place) header wrong = IsHeadFault config place header wrong
IsHeaderFault config (After number digest) header wrong = IsHeadFault config (position.Later (number + 1) digest) header wrong
IsHeaderFault config (AfterNumber number) header wrong = IsNumberFault config (number + 1) header wrong
IsHeaderFault config expected header wrong = ⊥

-- the text is not a trace that is expected there, and this is the first reason: it is not a trace, or its header differs
abbrev pub IsRefusedThere : Configuration → Expected → List ℕ → TraceFault → Type 0
IsRefusedThere config expected text (Misplaced wrong) = (header : Header) × (calls : List Call) × IsTraceUnder header text calls × IsHeaderFault config expected header wrong
IsRefusedThere config expected text fault = IsRefused text fault
