-- How notes are spelled: one JSON object (RFC 8259) on each line. None has bytes of a page.
use Rattle.std.specs.Prelude.{ℕ, List, [], ◌∷◌, ◌++◌, codes, length, Option, Some, None}
use Rattle.std.specs.List.{flat_map}
use Rattle.kc_types.specs.Configuration.{Configuration}
use Rattle.kc_types.specs.Refusals.{name_of}
use Rattle.kc_remarks.specs.declared.remark.CallKind.{CallKind}
use Rattle.kc_remarks.specs.declared.remark.CallKind.TheVariants.{Take, Give, HostFault, HostRead, HostWrite, RegisterVm, RegisterVcpu, SetBoot, Remap, Verify, Map, GuestRead, GuestWrite, Grant, Revoke, GrantRange, RevokeRange, Drop, Clear}
use Rattle.kc_remarks.specs.declared.remark.NamedFrame.{NamedFrame}
use Rattle.kc_remarks.specs.declared.remark.Denial.{Denial}
use Rattle.kc_remarks.specs.declared.remark.Denial.TheVariants.{Refused, Rejected}
use Rattle.kc_remarks.specs.declared.remark.Denied.{Denied}
use Rattle.kc_remarks.specs.declared.remark.Access.{Access}
use Rattle.kc_remarks.specs.declared.remark.Note.{Note}
use Rattle.kc_remarks.specs.declared.remark.Note.TheVariants as note
use Rattle.kc_trace.specs.declared.custody_writer.Heading.{Heading}
use Rattle.kc_trace.specs.declared.volume_writer.VolumeEntry.{VolumeEntry}
use Rattle.kc_trace.specs.CustodyText.{owner_text, number_text, member, event_line, line_of_event, placed_text, header_line, volumes_text, end_line}

-- the name of a call, as in traces
abbrev pub kind_text : CallKind → List ℕ
kind_text Take = codes "take"
kind_text Give = codes "give"
kind_text HostFault = codes "hfault"
kind_text HostRead = codes "hread"
kind_text HostWrite = codes "hwrite"
kind_text RegisterVm = codes "regvm"
kind_text RegisterVcpu = codes "regvcpu"
kind_text SetBoot = codes "setboot"
kind_text Remap = codes "remap"
kind_text Verify = codes "verify"
kind_text Map = codes "map"
kind_text GuestRead = codes "gread"
kind_text GuestWrite = codes "gwrite"
kind_text Grant = codes "grant"
kind_text Revoke = codes "revoke"
kind_text GrantRange = codes "grantr"
kind_text RevokeRange = codes "revoker"
kind_text Drop = codes "drop"
kind_text Clear = codes "clear"

-- what the line of each remark begins with
abbrev pub head_text : ℕ → CallKind → List ℕ
head_text line call = member (codes "{\"line\":") line ++ (codes ",\"call\":\"" ++ (kind_text call ++ codes "\""))

abbrev pub reason_text : Denial → List ℕ
reason_text (Refused refusal) = codes ",\"refused\":\"" ++ (name_of refusal ++ codes "\"")
reason_text (Rejected image) = member (codes ",\"rejected\":") image

abbrev pub slot_text : Option ℕ → List ℕ
slot_text slot = codes ",\"slot\":" ++ number_text slot

-- a frame that is named, or only its number if it is another VM's than the one reported
abbrev pub foreign_text : Option ℕ → List ℕ
foreign_text foreign = codes ",\"frame\":" ++ (number_text foreign ++ codes ",\"owner\":null,\"gfn\":null")

abbrev pub named_text : Option ℕ → Option NamedFrame → List ℕ
named_text foreign None = foreign_text foreign
named_text foreign (Some named) = member (codes ",\"frame\":") named.frame ++ (codes ",\"owner\":" ++ (owner_text named.owner ++ (codes ",\"gfn\":" ++ number_text named.gfn)))

-- the line of a call that was refused or rejected, with its newline
abbrev pub denied_line : Denied → List ℕ
denied_line told = head_text told.line told.call ++ (reason_text told.reason ++ (slot_text told.slot ++ (named_text told.foreign told.named ++ (codes "}" ++ 10 ∷ []))))

-- the line of an access by the host, with its newline
abbrev pub access_line : Access → List ℕ
access_line told = head_text told.line told.call ++ (member (codes ",\"frame\":") told.frame ++ (member (codes ",\"vm\":") told.vm ++ (codes ",\"gfn\":" ++ (number_text told.gfn
    ++ (member (codes ",\"off\":") told.offset ++ (member (codes ",\"len\":") told.len ++ (codes "}" ++ 10 ∷ [])))))))

-- a note's line, if it has one
abbrev pub note_line : Note → List ℕ
note_line (note.Denied told) = denied_line told
note_line (note.Access told) = access_line told
note_line (note.Event told) = event_line told

-- the line of the call that a note is on, in its trace; 0 if the note has no line of its own here
abbrev pub line_of_note : Note → ℕ
line_of_note (note.Denied told) = told.line
line_of_note (note.Access told) = told.line
line_of_note (note.Event told) = line_of_event told

-- the text of these notes on a trace, or on several volumes of one, given the numbers of its calls and of those that
-- were refused or rejected
abbrev pub notes_text_of : Heading → Configuration → List VolumeEntry → ℕ → ℕ → List Note → List ℕ
notes_text_of heading config volumes calls refused told = header_line heading config ++ (volumes_text volumes
    ++ (flat_map (λ note. placed_text volumes (line_of_note note) (note_line note)) told ++ end_line calls (length told) refused))

-- upper bounds for the text of a beginning, of a reason, of a slot, of a frame
abbrev pub longest_head : ℕ
longest_head = 60

abbrev pub longest_reason : ℕ
longest_reason = 40

abbrev pub longest_slot : ℕ
longest_slot = 20

abbrev pub longest_named : ℕ
longest_named = 90
