-- How a state is spelled: a line for each thing that a dump leaves out, and then its dump.
use Rattle.std.specs.Prelude.{ℕ, Bool, if◌then◌else◌, List, [], ◌∷◌, ◌++◌, length, map, drop, codes, Option, Some, None, ◌==◌}
use Rattle.std.specs.Fmt.{decimal}
use Rattle.std.specs.List.{flat_map, list_all}
use Rattle.hex.specs.Hex.{encode_lower}
use Rattle.kc_model.specs.State.{State, Vcpu, Image}
use Rattle.kc_dump_text.specs.DumpText.{line, dump_text}
use Rattle.kc_snapshot.specs.Told.{Told, Rest, SlotRest, slot_rest, rest_of, told_of}
use Rattle.kc_trace.specs.declared.header.Position.{Position}
use Rattle.kc_trace.specs.Header.{position_line}
use Rattle.kc_state_text.specs.declared.sizes.Sizes.{Sizes}

-- the first line of a state without a position, with its newline
abbrev pub state_header : List ℕ
state_header = codes "kcore-state 1" ++ 10 ∷ []

abbrev pub sizes_words : Sizes → List (List ℕ)
sizes_words sizes = decimal sizes.slots ∷ decimal sizes.frames ∷ decimal sizes.host ∷ decimal sizes.approved ∷ []

-- how many slots and frames there are, how many frames were the host's at boot, and how many digests are approved
abbrev pub sizes_line : Sizes → List ℕ
sizes_line sizes = line (codes "config") (sizes_words sizes)

abbrev pub approved_words : List ℕ → List (List ℕ)
approved_words digest = encode_lower digest ∷ []

abbrev pub approved_line : List ℕ → List ℕ
approved_line digest = line (codes "approved") (approved_words digest)

-- a virtual processor: a dash if it is not registered, a dot if it waits for nothing, else the guest frame that it
-- waits for
abbrev pub fault_word : Option ℕ → List ℕ
fault_word None = codes "."
fault_word (Some g) = decimal g

abbrev pub vcpu_word : Vcpu → List ℕ
vcpu_word vcpu = if vcpu.registered then fault_word vcpu.fault else codes "-"

abbrev pub vcpu_words : Vcpu → List (List ℕ)
vcpu_words vcpu = vcpu_word vcpu ∷ []

-- an image: its first guest frame, its length in bytes, its pages so far
abbrev pub image_words : Image → List (List ℕ)
image_words image = decimal image.base ∷ decimal image.len ∷ decimal image.pages ∷ []

abbrev pub vcpus_words : List Vcpu → List (List ℕ)
vcpus_words vcpus = map vcpu_word vcpus

abbrev pub images_words : List Image → List (List ℕ)
images_words images = flat_map image_words images

abbrev pub slot_words : SlotRest → List (List ℕ)
slot_words rest = vcpus_words rest.vcpus ++ images_words rest.images

abbrev pub slot_line : SlotRest → List ℕ
slot_line rest = line (codes "slot") (slot_words rest)

abbrev pub is_zero : List ℕ → Bool
is_zero bytes = list_all (λ b. b == 0) bytes

-- a page: a dash if all its bytes are zero
abbrev pub page_word : List ℕ → List ℕ
page_word bytes = if is_zero bytes then codes "-" else encode_lower bytes

abbrev pub page_words : List ℕ → List (List ℕ)
page_words bytes = page_word bytes ∷ []

abbrev pub page_line : List ℕ → List ℕ
page_line bytes = line (codes "page") (page_words bytes)

-- what the lines before the dump say
pub record Front : Type 0 where
  pub sizes : Sizes
  pub approved : List (List ℕ)
  pub slots : List SlotRest
  pub pages : List (List ℕ)

-- these lines: the header, the sizes, a line for each approved digest, each slot and each page
abbrev pub front_text : Front → List ℕ
front_text front =
    state_header ++ (sizes_line front.sizes
    ++ (flat_map approved_line front.approved ++ (flat_map slot_line front.slots ++ flat_map page_line front.pages)))

abbrev pub sizes_of : Rest → Sizes
sizes_of rest = record { slots = length rest.slots; frames = length rest.pages; host = rest.host; approved = length rest.approved }

abbrev pub front_of : Rest → Front
front_of rest = record { sizes = sizes_of rest; approved = rest.approved; slots = rest.slots; pages = rest.pages }

abbrev pub told_text : Told → List ℕ
told_text t = front_text (front_of t.rest) ++ dump_text t.dump

-- a checkpoint: the one spelling of a state without a position
abbrev pub state_text : State → List ℕ
state_text m = told_text (told_of m)

-- the text of a state up to the lines of its pages
abbrev pub front_begin : State → List ℕ
front_begin m =
    state_header ++ (sizes_line (sizes_of (rest_of m))
    ++ (flat_map approved_line m.config.approved ++ flat_map slot_line (map slot_rest m.slots)))

-- ---- a state with a position: that of the volume that goes on from it

-- the first line of a state with a position, with its newline
abbrev pub second_header : List ℕ
second_header = codes "kcore-state 2" ++ 10 ∷ []

-- the line after it, which says the position, with its newline
abbrev pub volume_line : Position → List ℕ
volume_line position = position_line position ++ 10 ∷ []

-- the lines before that of the sizes, for this position or none
abbrev pub header_of : Option Position → List ℕ
header_of None = state_header
header_of (Some position) = second_header ++ volume_line position

-- the text of a state without a position, and what it is with this one
abbrev pub placed_text : Option Position → List ℕ → List ℕ
placed_text None text = text
placed_text (Some position) text = header_of (Some position) ++ drop 14 text

-- the one spelling of a state with this position or none
abbrev pub placed_state_text : Option Position → State → List ℕ
placed_state_text position m = placed_text position (state_text m)
