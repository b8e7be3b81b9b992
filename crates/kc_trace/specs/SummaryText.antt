-- How lives of VMs are spelled: one JSON object (RFC 8259) on each line.
use Rattle.std.specs.Prelude.{ℕ, ◌==◌, if◌then◌else◌, Bool, true, false, List, [], ◌∷◌, ◌++◌, codes, drop, length, Some}
use Rattle.std.specs.List.{flat_map}
use Rattle.kc_types.specs.Configuration.{Configuration}
use Rattle.kc_types.specs.declared.custody.Sharing.{Sharing}
use Rattle.kc_types.specs.declared.custody.Life.{Life}
use Rattle.kc_types.specs.Refusals.{name_of}
use Rattle.kc_types.specs.declared.refusal.Refusal.{Refusal}
use Rattle.kc_remarks.specs.declared.attempt.Attempt.{Attempt}
use Rattle.kc_remarks.specs.Attempts.{attempts_in_life, count_attempts, refusals}
use Rattle.kc_trace.specs.declared.custody_writer.Heading.{Heading}
use Rattle.kc_trace.specs.declared.volume_writer.VolumeEntry.{VolumeEntry}
use Rattle.kc_trace.specs.CustodyText.{member, number_text, measurement_text, heading_text, volumes_text}

-- its slot, and the lines of its turns
abbrev pub turns_text : Life → List ℕ
turns_text life = member (codes "{\"vm\":") life.vm ++ (member (codes ",\"registered\":") life.registered ++ (codes ",\"active\":" ++ (number_text life.active
    ++ (codes ",\"dead\":" ++ (number_text life.dead ++ (codes ",\"cleared\":" ++ number_text life.cleared))))))

-- how many reads and writes by the host were served, unless the machine's accesses are not in the trace
abbrev pub accesses_counted : Bool → Life → List ℕ
accesses_counted false life = member (codes ",\"reads\":") life.reads ++ member (codes ",\"writes\":") life.writes
accesses_counted true life = codes ",\"reads\":null,\"writes\":null"

abbrev pub counts_text : Bool → Life → List ℕ
counts_text unseen life = member (codes ",\"frames\":") life.frames ++ (member (codes ",\"most\":") life.most ++ (member (codes ",\"left\":") life.left
    ++ (member (codes ",\"returned\":") life.returned ++ accesses_counted unseen life)))

abbrev pub sharing_text : Sharing → List ℕ
sharing_text sharing = member (codes "{\"frame\":") sharing.frame ++ (codes ",\"gfn\":" ++ (number_text sharing.gfn ++ (member (codes ",\"from\":") sharing.from
    ++ (codes ",\"to\":" ++ (number_text sharing.to ++ codes "}")))))

-- a stretch that is not the first, with a comma before it
abbrev pub more_sharing_text : Sharing → List ℕ
more_sharing_text sharing = 44 ∷ sharing_text sharing

-- with commas between them
abbrev pub sharings_text : List Sharing → List ℕ
sharings_text [] = []
sharings_text (sharing ∷ sharings) = sharing_text sharing ++ flat_map more_sharing_text sharings

abbrev pub shared_text : Life → List ℕ
shared_text life = codes ",\"shared\":[" ++ (sharings_text life.shared ++ (codes "]}" ++ 10 ∷ []))

-- a reason with the number of calls that were refused for it, after a comma; nothing if there are none
abbrev pub reason_member : Refusal → ℕ → List ℕ
reason_member reason count = if count == 0 then [] else codes ",\"" ++ (name_of reason ++ member (codes "\":") count)

abbrev pub reason_text : List Attempt → Refusal → List ℕ
reason_text attempts reason = reason_member reason (count_attempts attempts reason)

-- the reasons in the order of their numbers, with a comma between two
abbrev pub reasons_text : List Attempt → List ℕ
reasons_text attempts = drop 1 (flat_map (reason_text attempts) refusals)

-- the calls that were refused at pages of the VM, by their reasons
abbrev pub refused_text : List Attempt → List ℕ
refused_text attempts = codes ",\"refused\":{" ++ (reasons_text attempts ++ codes "}")

-- the line of a life, with its newline, by all attempts at pages of VMs
abbrev pub life_line : Bool → List Attempt → Life → List ℕ
life_line unseen attempts life = turns_text life ++ (measurement_text life.measurement ++ (counts_text unseen life ++ (refused_text (attempts_in_life life attempts) ++ shared_text life)))

-- the first line, given the number of calls that were refused or rejected
abbrev pub summary_header : Heading → Configuration → ℕ → List ℕ
summary_header heading config refused = codes "{\"summary\":" ++ heading_text heading config (Some refused)

-- the last line: how many calls the trace has, how many lives the text has, and how many calls were refused or rejected
abbrev pub summary_end : ℕ → ℕ → ℕ → List ℕ
summary_end calls lives refused = member (codes "{\"calls\":") calls ++ (member (codes ",\"lives\":") lives ++ (member (codes ",\"refused\":") refused ++ (codes "}" ++ 10 ∷ [])))

-- the text of the lives in a trace, or in several volumes of one, given the numbers of its calls and of those that
-- were refused or rejected, and the attempts at pages of VMs
abbrev pub summary_text_of : Heading → Configuration → List VolumeEntry → ℕ → ℕ → List Attempt → List Life → List ℕ
summary_text_of heading config volumes calls refused attempts lives = summary_header heading config refused ++ (volumes_text volumes
    ++ (flat_map (life_line heading.is_unseen attempts) lives ++ summary_end calls (length lives) refused))
