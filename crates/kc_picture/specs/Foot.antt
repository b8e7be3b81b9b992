-- The foot of a picture: the version of kcore, and what the picture is of.
use Rattle.std.specs.Prelude.{ℕ, ◌≡◌, ◌==◌, if◌then◌else◌, Bool, true, false, List, [], ◌∷◌, ◌++◌, codes, Option, Some, None}
use Rattle.std.specs.Fmt.{decimal}
use Rattle.hex.specs.Hex.{encode_lower}
use Rattle.kc_trace.specs.declared.custody_writer.StartDigest.{StartDigest}
use Rattle.kc_trace.specs.declared.custody_writer.StartDigest.TheVariants as start
use Rattle.kc_trace.specs.declared.custody_writer.Digests.{Digests}
use Rattle.kc_trace.specs.declared.volume_writer.VolumeNumbers.{VolumeNumbers}
use Rattle.kc_trace.specs.declared.volume_writer.Order.{Order}
use Rattle.kc_trace.specs.declared.volume_writer.Order.TheVariants as order
use Rattle.kc_trace.specs.declared.volume_writer.Chain.{Chain}
use Rattle.kc_trace.specs.declared.custody_writer.Heading.{Heading}
use Rattle.kc_trace.specs.CustodyText.{version_text}

-- what calls begin with, by its digest if it is a file's
abbrev pub start_words : StartDigest → List ℕ
start_words start.Default = codes ", default configuration"
start_words start.Head = codes ", machine in the head of the trace"
start_words (start.Config digest) = codes ", configuration SHA-256 " ++ encode_lower digest
start_words (start.State digest) = codes ", state SHA-256 " ++ encode_lower digest

-- a trace, by its digest, if it is named
abbrev pub trace_words : Option (List ℕ) → List ℕ
trace_words None = []
trace_words (Some digest) = codes ", trace SHA-256 " ++ encode_lower digest

-- the texts that were read, if they are named
abbrev pub digests_words : Option Digests → List ℕ
digests_words None = []
digests_words (Some digests) = trace_words digests.trace ++ start_words digests.start

-- the number of the one volume that was read, or of the first and the last of several, by their heads
abbrev pub numbers_words : ℕ → VolumeNumbers → List ℕ
numbers_words count numbers = if count == 0 then codes ", volume " ++ decimal numbers.first
    else (codes ", volumes " ++ decimal numbers.first) ++ (codes " to " ++ decimal numbers.last)

-- how many volumes without heads were read, if there were several
abbrev pub count_words : ℕ → List ℕ
count_words count = if count == 0 then [] else (codes ", " ++ decimal count) ++ codes " volumes, order not judged"

-- the one or the other, and that the order was judged by the numbers alone, if it was
abbrev pub order_words : ℕ → Order → List ℕ
order_words count order.NotJudged = count_words count
order_words count (order.Numbers numbers) = numbers_words count numbers ++ codes ", order by numbers alone"
order_words count (order.Digests numbers) = numbers_words count numbers

-- which volumes were read; nothing for one trace without a head
abbrev pub chain_words : Chain → List ℕ
chain_words chain = order_words chain.count chain.order

-- that the machine's own accesses are not in the trace, if they are not
abbrev pub unseen_words : Bool → List ℕ
unseen_words false = []
unseen_words true = codes ", accesses unseen"

-- as "kcore 3.0.0, trace SHA-256 .., default configuration" or "kcore 3.0.0, volumes 3 to 7, default configuration":
-- what the first line of custody says, but the sizes of the core, and how many volumes there are if they have numbers
abbrev pub foot_words : Heading → List ℕ
foot_words heading = (codes "kcore " ++ version_text) ++ (chain_words heading.chain ++ (digests_words heading.digests ++ unseen_words heading.is_unseen))

-- how a picture ends after the words of its foot
abbrev pub closing : List ℕ
closing = codes "</text>" ++ 10 ∷ (codes "</svg>" ++ 10 ∷ [])

-- the last words of a picture are those of its foot
abbrev pub HasFoot : Heading → List ℕ → Type 0
HasFoot heading text = (drawn : List ℕ) × (text ≡ drawn ++ (foot_words heading ++ closing))
