-- How changes of custody are spelled: one JSON object (RFC 8259) on each line.
use Rattle.std.specs.Prelude.{ℕ, ◌==◌, ◌+◌, if◌then◌else◌, nat_le, Bool, true, false, List, [], ◌∷◌, ◌++◌, codes, filter, length, Option, Some, None}
use Rattle.std.specs.List.{flat_map}
use Rattle.std.specs.List.Sorted.{IsNonDecreasingBy}
use Rattle.std.specs.Fmt.{decimal}
use Rattle.hex.specs.Hex.{encode_lower}
use Rattle.kc_types.specs.Configuration.{Configuration, slot_count}
use Rattle.kc_types.specs.declared.owner.Owner.{Owner}
use Rattle.kc_types.specs.declared.owner.Owner.TheVariants.{Core, Host, Free, Vm}
use Rattle.kc_types.specs.declared.slot.Phase.{Phase}
use Rattle.kc_types.specs.declared.slot.Phase.TheVariants.{Empty, Booting, Active, Dead}
use Rattle.kc_types.specs.declared.custody.Custody.{Custody}
use Rattle.kc_types.specs.declared.custody.FrameChange.{FrameChange}
use Rattle.kc_types.specs.declared.custody.MeasuredImage.{MeasuredImage}
use Rattle.kc_types.specs.declared.custody.Measurement.{Measurement}
use Rattle.kc_types.specs.declared.custody.PhaseChange.{PhaseChange}
use Rattle.kc_types.specs.declared.custody.Change.{Change}
use Rattle.kc_types.specs.declared.custody.Change.TheVariants as change
use Rattle.kc_types.specs.declared.custody.Event.{Event}
use Rattle.kc_types.specs.declared.custody.Event.TheVariants as event
use Rattle.kc_trace.specs.declared.custody_writer.StartDigest.{StartDigest}
use Rattle.kc_trace.specs.declared.custody_writer.StartDigest.TheVariants as start
use Rattle.kc_trace.specs.declared.custody_writer.Digests.{Digests}
use Rattle.kc_trace.specs.declared.volume_writer.VolumeNumbers.{VolumeNumbers}
use Rattle.kc_trace.specs.declared.volume_writer.Order.{Order}
use Rattle.kc_trace.specs.declared.volume_writer.Order.TheVariants as order
use Rattle.kc_trace.specs.declared.volume_writer.Chain.{Chain}
use Rattle.kc_trace.specs.declared.custody_writer.Heading.{Heading}
use Rattle.kc_trace.specs.declared.volume_writer.VolumeEntry.{VolumeEntry}

abbrev pub owner_text : Owner → List ℕ
owner_text Core = codes "\"core\""
owner_text Host = codes "\"host\""
owner_text Free = codes "\"free\""
owner_text (Vm v) = (codes "\"vm" ++ decimal v) ++ codes "\""

abbrev pub number_text : Option ℕ → List ℕ
number_text None = codes "null"
number_text (Some n) = decimal n

abbrev pub flag_text : Bool → List ℕ
flag_text true = codes "true"
flag_text false = codes "false"

-- a number, with its key and what comes before the key
abbrev pub member : List ℕ → ℕ → List ℕ
member key number = key ++ decimal number

-- an object with these four keys, in this order
abbrev pub custody_text : Custody → List ℕ
custody_text custody = codes "{\"owner\":" ++ (owner_text custody.owner ++ (codes ",\"gfn\":" ++ (number_text custody.gfn
    ++ (member (codes ",\"share\":") custody.share ++ (codes ",\"present\":" ++ (flag_text custody.present ++ codes "}"))))))

-- the line of a frame's change, with its newline
abbrev pub frame_line : FrameChange → List ℕ
frame_line told = member (codes "{\"line\":") told.line ++ (member (codes ",\"frame\":") told.frame
    ++ (codes ",\"from\":" ++ (custody_text told.before ++ (codes ",\"to\":" ++ (custody_text told.after ++ (codes "}" ++ 10 ∷ []))))))

abbrev pub phase_text : Phase → List ℕ
phase_text Empty = codes "\"empty\""
phase_text Booting = codes "\"booting\""
phase_text Active = codes "\"active\""
phase_text Dead = codes "\"dead\""

abbrev pub image_text : MeasuredImage → List ℕ
image_text image = member (codes "{\"base\":") image.base ++ (member (codes ",\"len\":") image.len
    ++ (codes ",\"sha256\":\"" ++ (encode_lower image.digest ++ codes "\"}")))

-- an image that is not the first, with a comma before it
abbrev pub more_image_text : MeasuredImage → List ℕ
more_image_text image = 44 ∷ image_text image

-- with commas between them
abbrev pub images_text : List MeasuredImage → List ℕ
images_text [] = []
images_text (image ∷ images) = image_text image ++ flat_map more_image_text images

-- a digest in quotation marks
abbrev pub digest_text : List ℕ → List ℕ
digest_text digest = codes "\"" ++ (encode_lower digest ++ codes "\"")

-- the launch measurement, if there is one
abbrev pub launch_member : Option (List ℕ) → List ℕ
launch_member None = []
launch_member (Some digest) = codes ",\"measured\":" ++ digest_text digest

-- what was measured: the images, and then the launch measurement
abbrev pub measurement_text : Measurement → List ℕ
measurement_text measured = codes ",\"images\":[" ++ (images_text measured.images ++ (codes "]" ++ launch_member measured.launch))

-- the line of a slot's change, with its newline
abbrev pub phase_line : PhaseChange → List ℕ
phase_line told = member (codes "{\"line\":") told.line ++ (member (codes ",\"vm\":") told.vm
    ++ (codes ",\"phase\":" ++ (phase_text told.phase ++ (measurement_text told.measurement ++ (codes "}" ++ 10 ∷ [])))))

abbrev pub change_line : Change → List ℕ
change_line (change.Frame told) = frame_line told
change_line (change.Phase told) = phase_line told

-- an event's line: that of a change; the host's reads and writes have none
abbrev pub event_line : Event → List ℕ
event_line (event.Change told) = change_line told
event_line _ = []

-- the line of the call that made a change, in its trace
abbrev pub line_of_change : Change → ℕ
line_of_change (change.Frame told) = told.line
line_of_change (change.Phase told) = told.line

-- the same of an event; 0 if it has no line of its own here
abbrev pub line_of_event : Event → ℕ
line_of_event (event.Change told) = line_of_change told
line_of_event _ = 0

-- no volume begins on a line before that of an earlier one
abbrev pub AreInLine : List VolumeEntry → Type 0
AreInLine volumes = IsNonDecreasingBy (λ (volume : VolumeEntry). volume.line) volumes

-- the place of the volume that a line is in, counted from 1: how many of them begin on it or before it
abbrev pub volume_of : List VolumeEntry → ℕ → ℕ
volume_of volumes line = length (filter (λ (volume : VolumeEntry). nat_le volume.line line) volumes)

-- a line of custody, with the place of its volume first if there are several
abbrev pub placed_text : List VolumeEntry → ℕ → List ℕ → List ℕ
placed_text [] line text = text
placed_text volumes line [] = []
placed_text volumes line (_ ∷ rest) = member (codes "{\"volume\":") (volume_of volumes line) ++ (44 ∷ rest)

-- the version of kcore, which `kcore --version` prints too
abbrev pub version_text : List ℕ
version_text = codes "3.0.0"

-- the configuration, by its digest if it is that of a file, or the state
abbrev pub start_text : StartDigest → List ℕ
start_text start.Default = codes ",\"config\":\"default\",\"state\":null"
start_text start.Head = codes ",\"config\":\"head\",\"state\":null"
start_text (start.Config digest) = codes ",\"config\":" ++ (digest_text digest ++ codes ",\"state\":null")
start_text (start.State digest) = codes ",\"config\":null,\"state\":" ++ digest_text digest

-- a trace, by its digest, if it is named
abbrev pub trace_text : Option (List ℕ) → List ℕ
trace_text None = []
trace_text (Some digest) = codes ",\"trace\":" ++ digest_text digest

-- what was read, if that is named
abbrev pub digests_text : Option Digests → List ℕ
digests_text None = []
digests_text (Some digests) = trace_text digests.trace ++ start_text digests.start

abbrev pub accesses_text : Bool → List ℕ
accesses_text false = []
accesses_text true = codes ",\"accesses\":\"unseen\""

-- how many volumes were read, if there were several
abbrev pub volume_count_text : ℕ → List ℕ
volume_count_text count = if count == 0 then [] else member (codes ",\"volumes\":") count

-- the numbers of the first and the last volume, as their heads say
abbrev pub numbers_text : VolumeNumbers → List ℕ
numbers_text numbers = member (codes ",\"first\":") numbers.first ++ member (codes ",\"last\":") numbers.last

-- by what their order was judged, in these words
abbrev pub order_text : List ℕ → List ℕ
order_text words = codes ",\"order\":\"" ++ (words ++ codes "\"")

-- the numbers of the first and the last volume, and by what it was judged that each follows the one before it: if there
-- are several and they have no heads, by nothing; if that is not said, by their numbers and the digests in their heads
abbrev pub judged_text : ℕ → Order → List ℕ
judged_text count order.NotJudged = if count == 0 then [] else order_text (codes "not judged")
judged_text count (order.Numbers numbers) = numbers_text numbers ++ order_text (codes "numbers")
judged_text count (order.Digests numbers) = numbers_text numbers

-- which volumes were read; nothing for one trace without a head
abbrev pub chain_text : Chain → List ℕ
chain_text chain = volume_count_text chain.count ++ judged_text chain.count chain.order

-- the version of the text and of kcore
abbrev pub versions_text : List ℕ
versions_text = codes "2,\"kcore\":\"" ++ (version_text ++ codes "\"")

-- the sizes of the core
abbrev pub sizes_text : Configuration → List ℕ
sizes_text config = member (codes ",\"frames\":") config.frames ++ (member (codes ",\"core\":") config.core ++ (member (codes ",\"host\":") config.host ++ member (codes ",\"slots\":") (slot_count config)))

-- how many calls of the trace were refused or rejected, if that is said
abbrev pub refused_count_text : Option ℕ → List ℕ
refused_count_text None = []
refused_count_text (Some count) = member (codes ",\"refused\":") count

-- what the first line says: the versions, what was read, the sizes of the core, perhaps how many calls were refused or
-- rejected, whether the machine's accesses are in the trace, and which volumes were read
abbrev pub heading_text : Heading → Configuration → Option ℕ → List ℕ
heading_text heading config refused = versions_text ++ (digests_text heading.digests ++ (sizes_text config ++ (refused_count_text refused
    ++ (accesses_text heading.is_unseen ++ (chain_text heading.chain ++ (codes "}" ++ 10 ∷ []))))))

-- the first line
abbrev pub header_line : Heading → Configuration → List ℕ
header_line heading config = codes "{\"custody\":" ++ heading_text heading config None

-- the number of a volume in its history, if it has a head, which says it
abbrev pub head_number_text : Option ℕ → List ℕ
head_number_text None = []
head_number_text (Some number) = member (codes ",\"number\":") number

-- the line of a volume by its place among those that were read: the line of its first call, how many calls it has, its
-- number if it has a head, and its digest, if texts are named
unfoldable pub volume_line : ℕ → VolumeEntry → List ℕ
volume_line place volume = member (codes "{\"volume\":") place ++ (member (codes ",\"line\":") volume.line ++ (member (codes ",\"calls\":") volume.calls
    ++ (head_number_text volume.number ++ (trace_text volume.digest ++ (codes "}" ++ 10 ∷ [])))))

-- the lines of these volumes, by their places from this one on
abbrev pub volumes_from : ℕ → List VolumeEntry → List ℕ
volumes_from place [] = []
volumes_from place (volume ∷ volumes) = volume_line place volume ++ volumes_from (place + 1) volumes

-- the lines of all volumes
abbrev pub volumes_text : List VolumeEntry → List ℕ
volumes_text volumes = volumes_from 1 volumes

-- the last line: how many calls the trace has, how many lines of changes and notes the text has, and how many calls
-- were refused or rejected
abbrev pub end_line : ℕ → ℕ → ℕ → List ℕ
end_line calls lines refused = member (codes "{\"calls\":") calls ++ (member (codes ",\"lines\":") lines ++ (member (codes ",\"refused\":") refused ++ (codes "}" ++ 10 ∷ [])))

-- the text of the changes that a trace makes, or several volumes of one, given the numbers of its calls and of those
-- that were refused or rejected
abbrev pub custody_text_of : Heading → Configuration → List VolumeEntry → ℕ → ℕ → List Change → List ℕ
custody_text_of heading config volumes calls refused changes = header_line heading config ++ (volumes_text volumes
    ++ (flat_map (λ change. placed_text volumes (line_of_change change) (change_line change)) changes ++ end_line calls (length changes) refused))

-- upper bounds for the text of a custody, of an image, of 16 images, of a launch measurement, of what was measured, and of a
-- change
abbrev pub longest_custody : ℕ
longest_custody = 100

abbrev pub longest_image : ℕ
longest_image = 135

abbrev pub longest_images : ℕ
longest_images = 2176

abbrev pub longest_launch : ℕ
longest_launch = 80

abbrev pub longest_measurement : ℕ
longest_measurement = 2270

abbrev pub longest_change : ℕ
longest_change = 2400

-- and for that of a digest in quotation marks, of a trace that is named by it, of what calls begin with, and of all
-- that was read
abbrev pub longest_digest : ℕ
longest_digest = 66

abbrev pub longest_trace : ℕ
longest_trace = 76

abbrev pub longest_start : ℕ
longest_start = 110

abbrev pub longest_digests : ℕ
longest_digests = 190

-- for that of which volumes were read
abbrev pub longest_chain : ℕ
longest_chain = 106

-- and for that of a volume's place with what comes before it, and of a volume's line
abbrev pub longest_place : ℕ
longest_place = 30

abbrev pub longest_volume : ℕ
longest_volume = 256
