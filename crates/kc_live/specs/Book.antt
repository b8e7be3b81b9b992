-- What a book keeps: the calls of one volume of a core's life, with their replies, and the header of the volume's trace.
use Rattle.std.specs.Prelude.{◌≡◌, ◌≤◌, ℕ, false, ◌+◌, ◌-◌, ◌^◌, min, List, [], ◌∷◌, ◌++◌, Option, Some, None, length, map}
use Rattle.kc_types.specs.Configuration.{Configuration}
use Rattle.kc_types.specs.Limits.{call_limit}
use Rattle.kc_types.specs.declared.call.Call.{Call}
use Rattle.kc_types.specs.declared.reply.Reply.{Reply}
use Rattle.kc_model.specs.State.{State}
use Rattle.kc_model.specs.Boot.{boot}
use Rattle.kc_model.specs.Lawful.{IsLawful}
use Rattle.kc_model.specs.Promises.{KeepsPromises}
use Rattle.kc_model.specs.Next.{next, state_after}
use Rattle.kc_model.specs.Histories.{IsLegalHistory}
use Rattle.kc_trace.specs.declared.header.Header.{Header}
use Rattle.kc_trace.specs.declared.header.Header.TheVariants.{One, Two, Three}
use Rattle.kc_trace.specs.declared.header.Position.{Position}
use Rattle.kc_trace.specs.declared.header.Position.TheVariants.{First}
use Rattle.kc_trace.specs.Expected.{number_of, position_after}
use Rattle.kc_trace.specs.Header.{IsHead}
use Rattle.kc_redact.specs.Witness.{witnessed}
use Rattle.sha2.specs.Sha256.{sha256}
use Rattle.kc_live.specs.declared.journal.VolumeDigest.{VolumeDigest}
use Rattle.kc_live.specs.declared.receipt.Entry.{Entry}
use Rattle.kc_live.specs.declared.receipt.Receipt.{Receipt}

-- one volume of the life of a core: its number, from 0, the header of its trace, and the calls that were made in it, each with its reply
pub record VolumeView : Type 0 where
  pub number : ℕ
  pub header : Header
  pub entries : List Entry

-- the volume that is being filled, and the state that its calls left
pub record Log : Type 0 where
  pub volume : ℕ
  pub entries : List Entry
  pub state : State

abbrev pub log : ℕ → List Entry → State → Log
log volume entries state = record { volume = volume; entries = entries; state = state }

-- the volume that is being filled, and the header that its trace has
pub record Recording : Type 0 where
  pub header : Header
  pub log : Log

-- the volume so far
abbrev pub volume_in : Recording → VolumeView
volume_in r = record { number = r.log.volume; header = r.header; entries = r.log.entries }

abbrev pub calls_of : List Entry → List Call
calls_of entries = map (λ e. e.call) entries

abbrev pub replies_of : List Entry → List Reply
replies_of entries = map (λ e. e.reply) entries

-- one thread that makes these calls from this state on gets these replies, and they keep the promises
pub record IsMadeFrom (start : State) (entries : List Entry) : Type 0 where
  pub replies : IsLegalHistory start (calls_of entries) (replies_of entries)
  pub promises : KeepsPromises start (calls_of entries)

-- a volume of this number may start here: the first one in a configuration's boot state, and a later one in a state that some calls leave of one; that these are the calls of the volumes before it is `next_volume`'s to say
pub record MayStart (number : ℕ) (start : State) : Type 0 where
  pub lawful : IsLawful start
  pub config : Configuration
  pub before : List Call
  pub leads : start ≡ state_after (boot config) before
  pub first : number ≡ 0 → before ≡ []

-- the header of the volume of this number on this machine, whose trace has all that the host wrote: a head with the machine and the number, which heads count from 1; no head, only if 32 bits do not hold that number
abbrev pub IsHeaderOf : ℕ → Configuration → Header → Type 0
IsHeaderOf number config One = ⊥
IsHeaderOf number config Two = 2 ^ 32 ≤ number + 1
IsHeaderOf number config (Three head) = IsHead head × (head.config ≡ config) × (number_of head.position ≡ number + 1) × (head.is_host_redacted ≡ false)

-- linearizable: one thread could have made the volume, from a state in which it may start; its header is that of its
-- machine and number. That calls which do not overlap come in the order of time is due to the lock: no clause says it
pub record IsLegal (v : VolumeView) : Type 0 where
  pub start : State
  pub may : MayStart v.number start
  pub made : IsMadeFrom start v.entries
  pub header : IsHeaderOf v.number start.config v.header

-- the volume is legal and not too long, and a core that made its calls is in this state
pub record IsKept (r : Recording) : Type 0 where
  pub legal : IsLegal (volume_in r)
  pub ends : r.log.state ≡ state_after legal.start (calls_of r.log.entries)
  pub short : length r.log.entries ≤ call_limit

-- one thread makes the volume's calls from some lawful state on, gets its replies, and leaves the core in this state
pub record IsServed (l : Log) : Type 0 where
  pub start : State
  pub lawful : IsLawful start
  pub made : IsMadeFrom start l.entries
  pub ends : l.state ≡ state_after start (calls_of l.entries)
  pub short : length l.entries ≤ call_limit

-- all calls were made in the first volume, from the boot state of the configuration on
pub record IsWholeFrom (config : Configuration) (l : Log) : Type 0 where
  pub made : IsMadeFrom (boot config) l.entries
  pub ends : l.state ≡ state_after (boot config) (calls_of l.entries)

abbrev pub entry : Call → Reply → Entry
entry call reply = record { call = call; reply = reply }

-- what the next call is answered
abbrev pub reply_to : Log → Call → Reply
reply_to l call = (next l.state call).0

-- the log with one call more
abbrev pub longer : Log → Call → Log
longer l call = log l.volume (l.entries ++ entry call (reply_to l call) ∷ []) (next l.state call).1

-- the number after this one (numbers end with those of 64 bits)
abbrev pub number_after : ℕ → ℕ
number_after number = min (number + 1) (2 ^ 64 - 1)

-- the log of the volume after this one: it starts where this one ends, and has no calls yet
abbrev pub next_volume : Log → Log
next_volume l = log (number_after l.volume) [] l.state

-- the receipt of the next call: its number is how many calls of the volume came before
abbrev pub receipt_of : Log → Call → Receipt
receipt_of l call = record { volume = l.volume; number = length l.entries; call = call; reply = reply_to l call }

-- ---- a volume with the header of its trace

-- the header of the volume that goes on from a state of this machine: with a position a head, without one none
abbrev pub header_at : Configuration → Option Position → Header
header_at config None = Two
header_at config (Some position) = Three (record { config = config; position = position; is_host_redacted = false })

-- every call may come in a trace with this header
abbrev pub MayRecord : Header → Type 0
MayRecord One = ⊥
MayRecord Two = Unit {0}
MayRecord (Three head) = IsHead head

-- a core that was asked nothing yet, with the position of the volume that goes on from its state, if it has one
abbrev pub new_recording : Option Position → State → Recording
new_recording position m = record { header = header_at m.config position; log = log 0 [] m }

-- a core in the boot state of its configuration, at the beginning of its first volume
abbrev pub new_book : Configuration → Recording
new_book config = new_recording (Some First) (boot config)

-- the recording with one call more
abbrev pub recorded : Recording → Call → Recording
recorded r call = record { header = r.header; log = longer r.log call }

-- the SHA-256 digest of the volume's redacted trace
abbrev pub digest_of : Recording → List ℕ
digest_of r = sha256 (witnessed r.header (calls_of r.log.entries))

-- the number of a volume, from 1, how many calls it has, and the SHA-256 digest of its redacted trace
pub record IsDigestOf (v : VolumeView) (d : VolumeDigest) : Type 0 where
  pub volume : d.volume ≡ number_after v.number
  pub calls : d.calls ≡ length v.entries
  pub digest : d.digest ≡ sha256 (witnessed v.header (calls_of v.entries))

-- this header with the position of another volume of its machine, or none; without a head it stays
abbrev pub moved : Header → Option Position → Header
moved (Three head) position = header_at head.config position
moved header position = header

-- the header of the volume after one with this header, whose redacted trace has this digest; heads form a hash chain
abbrev pub next_header : Header → List ℕ → Header
next_header header digest = moved header (position_after header (Some digest))

-- the recording of the volume after this one
abbrev pub next_recording : Recording → Recording
next_recording r = record { header = next_header r.header (digest_of r); log = next_volume r.log }

-- the position of a volume with this header, if it has a head
abbrev pub position_of : Header → Option Position
position_of (Three head) = Some head.position
position_of header = None

-- the position of the volume that goes on after these entries of a volume with this header and this digest: that of the same volume if there are no entries yet, and otherwise that of the next
abbrev pub onward_from : List Entry → Header → List ℕ → Option Position
onward_from [] header digest = position_of header
onward_from (entry ∷ entries) header digest = position_after header (Some digest)

-- the position of the volume that goes on from the state that the recording is in, if it has a head
abbrev pub onward : Recording → Option Position
onward r = onward_from r.log.entries r.header (digest_of r)
