-- How headers of traces are spelled; that of header 3 goes on with a head.
use Rattle.std.specs.Prelude.{ℕ, Bool, true, false, ◌+◌, ◌≤◌, ◌<◌, ◌^◌, List, [], ◌∷◌, ◌++◌, codes, length, map}
use Rattle.std.specs.List.{AllByRecursion, flat_map, join_with_byte}
use Rattle.std.specs.Fmt.{decimal}
use Rattle.hex.specs.Hex.{encode_lower}
use Rattle.kc_types.specs.Configuration.{Configuration, IsConfiguration, slot_count}
use Rattle.kc_types.specs.declared.version.Version.{Version}
use Rattle.kc_types.specs.declared.version.Version.TheVariants as version
use Rattle.kc_model.specs.Volumes.{IsDigest}
use Rattle.kc_trace.specs.declared.header.Position.{Position}
use Rattle.kc_trace.specs.declared.header.Position.TheVariants.{First, Later}
use Rattle.kc_trace.specs.declared.header.Head.{Head}
use Rattle.kc_trace.specs.declared.header.Header.{Header}
use Rattle.kc_trace.specs.declared.header.Header.TheVariants.{One, Two, Three}

abbrev pub version_number : Version → ℕ
version_number version.One = 1
version_number version.Two = 2
version_number version.Three = 3

-- the numbers of a machine for which this many digests are approved: the version of its rules, how many slots and
-- frames it has, how many of the frames are the core's and the host's at boot, how many leaf tables a VM has, and how
-- many digests are approved
abbrev pub machine_numbers : Configuration → ℕ → List ℕ
machine_numbers config approved =
    version_number config.version ∷ slot_count config ∷ config.frames ∷ config.core ∷ config.host ∷ config.leaves ∷ approved ∷ []

-- the line of these numbers, without its newline
unfoldable pub machine_line : Configuration → ℕ → List ℕ
machine_line config approved = join_with_byte 32 (codes "config" ∷ map decimal (machine_numbers config approved))

-- the line of an approved digest
unfoldable pub approved_line : List ℕ → List ℕ
approved_line digest = join_with_byte 32 (codes "approved" ∷ encode_lower digest ∷ [])

-- what the line of a position says: the number of the volume, and the digest of the one before it
abbrev pub position_words : Position → List (List ℕ)
position_words First = codes "1" ∷ codes "-" ∷ []
position_words (Later number after) = decimal number ∷ encode_lower after ∷ []

-- the word after them if the bytes that the host wrote to pages of active VMs are redacted, too
abbrev pub redaction_words : Bool → List (List ℕ)
redaction_words false = []
redaction_words true = codes "host-redacted" ∷ []

-- the last line of a head: that of the position, and whether these bytes are redacted
unfoldable pub last_line : Position → Bool → List ℕ
last_line position is_host_redacted = join_with_byte 32 (codes "volume" ∷ (position_words position ++ redaction_words is_host_redacted))

-- the line of a position alone
abbrev pub position_line : Position → List ℕ
position_line position = last_line position false

-- the lines of a head: that of the machine, one for each approved digest, and the last
abbrev pub head_lines : Head → List (List ℕ)
head_lines head =
    machine_line head.config (length head.config.approved) ∷ (map approved_line head.config.approved ++ last_line head.position head.is_host_redacted ∷ [])

-- the first line of a trace with this header
abbrev pub header_line : Header → List ℕ
header_line One = codes "kcore-trace 1"
header_line Two = codes "kcore-trace 2"
header_line (Three head) = codes "kcore-trace 3"

-- the lines after it that come before the first call
abbrev pub lines_after_first : Header → List (List ℕ)
lines_after_first One = []
lines_after_first Two = []
lines_after_first (Three head) = head_lines head

-- whether it has a head
abbrev pub has_head : Header → Bool
has_head (Three head) = true
has_head header = false

-- whether it has a head that says that the trace lacks bytes that the host wrote
abbrev pub is_host_redacted : Header → Bool
is_host_redacted (Three head) = head.is_host_redacted
is_host_redacted header = false

-- the header of the same trace without the bytes that the host wrote to pages of active VMs: a head says that
abbrev pub host_redacted : Header → Header
host_redacted (Three head) = Three (record head { is_host_redacted = true })
host_redacted header = header

-- all lines of a header
abbrev pub header_lines : Header → List (List ℕ)
header_lines header = header_line header ∷ lines_after_first header

-- lines, each with its newline
abbrev pub ended_lines : List (List ℕ) → List ℕ
ended_lines lines = flat_map (λ line. line ++ 10 ∷ []) lines

-- the text of a header
abbrev pub trace_header : Header → List ℕ
trace_header header = ended_lines (header_lines header)

-- the number of the line of the first call, counted from 1
abbrev pub first_call_line : Header → ℕ
first_call_line header = length (header_lines header) + 1

-- a machine with the approved digests that were read so far, and how many it approves
pub record Begun : Type 0 where
  pub config : Configuration
  pub awaited : ℕ

-- a later volume's number is at least 2, and its digest has 32 bytes
abbrev pub IsPosition : Position → Type 0
IsPosition First = Unit {0}
IsPosition (Later number after) = (2 ≤ number) × (number < 2 ^ 32) × IsDigest after

-- a head's machine keeps the limits of configurations, and its digests have 32 bytes each
pub record IsHead (head : Head) : Type 0 where
  pub config : IsConfiguration head.config
  pub digests : AllByRecursion IsDigest head.config.approved
  pub position : IsPosition head.position

-- a header whose head, if it has one, is such a head
abbrev pub IsHeader : Header → Type 0
IsHeader One = Unit {0}
IsHeader Two = Unit {0}
IsHeader (Three head) = IsHead head
