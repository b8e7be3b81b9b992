-- The marks of the picture of one VM: calls that were refused or rejected, and accesses of the host that were served.
use Rattle.std.specs.Prelude.{ℕ, List, [], ◌++◌, codes, filter_map, Option, Some, None, if◌then◌else◌}
use Rattle.std.specs.Fmt.{decimal}
use Rattle.kc_types.specs.Refusals.{name_of}
use Rattle.kc_model.specs.Lives.{is_owned_by}
use Rattle.kc_remarks.specs.declared.remark.CallKind.{CallKind}
use Rattle.kc_remarks.specs.declared.remark.CallKind.TheVariants.{HostWrite}
use Rattle.kc_remarks.specs.declared.remark.NamedFrame.{NamedFrame}
use Rattle.kc_remarks.specs.declared.remark.Denial.{Denial}
use Rattle.kc_remarks.specs.declared.remark.Denial.TheVariants as denial
use Rattle.kc_remarks.specs.declared.remark.Access.{Access}
use Rattle.kc_remarks.specs.declared.remark.Note.{Note}
use Rattle.kc_remarks.specs.declared.remark.Note.TheVariants as note
use Rattle.kc_trace.specs.RemarkText.{kind_text}
use Rattle.kc_picture.specs.declared.marks.Mark.{Mark}
use Rattle.kc_picture.specs.declared.marks.Mark.TheVariants as mark
use Rattle.kc_picture.specs.declared.shapes.MarkKind.{MarkKind}
use Rattle.kc_picture.specs.declared.shapes.MarkKind.TheVariants.{Read, Write, Refused, Rejected}
use Rattle.kc_picture.specs.Titles.{place_words, owner_words}

-- a note's mark: each has one but a change
abbrev pub mark_of : Note → Option Mark
mark_of (note.Denied told) = Some (mark.Denied told)
mark_of (note.Access told) = Some (mark.Access told)
mark_of (note.Event told) = None

abbrev pub marks : List Note → List Mark
marks told = filter_map mark_of told

-- the line of its call
abbrev pub line_of : Mark → ℕ
line_of (mark.Denied told) = told.line
line_of (mark.Access told) = told.line

-- what it looks like
abbrev pub denied_kind : Denial → MarkKind
denied_kind (denial.Refused reason) = Refused
denied_kind (denial.Rejected image) = Rejected

abbrev pub access_kind : CallKind → MarkKind
access_kind HostWrite = Write
access_kind _ = Read

abbrev pub kind_of : Mark → MarkKind
kind_of (mark.Denied told) = denied_kind told.reason
kind_of (mark.Access told) = access_kind told.call

-- the frame that a call names, if it is the VM's in this slot
abbrev pub frame_if_held : ℕ → Option NamedFrame → Option ℕ
frame_if_held v None = None
frame_if_held v (Some named) = if is_owned_by v named.owner then Some named.frame else None

-- the frame in whose row it is drawn, if it is at a frame of the VM's
abbrev pub frame_of : ℕ → Mark → Option ℕ
frame_of v (mark.Denied told) = frame_if_held v told.named
frame_of v (mark.Access told) = Some told.frame

-- why the call was denied
abbrev pub reason_words : Denial → List ℕ
reason_words (denial.Refused reason) = codes " refused, " ++ name_of reason
reason_words (denial.Rejected image) = codes " rejected, image " ++ decimal image

-- the number of a frame of another VM, if it names one
abbrev pub foreign_words : Option ℕ → List ℕ
foreign_words None = []
foreign_words (Some frame) = codes ": frame " ++ decimal frame

-- the frame that it names, if there is one
abbrev pub named_words : Option ℕ → Option NamedFrame → List ℕ
named_words foreign None = foreign_words foreign
named_words foreign (Some named) = (codes ": frame " ++ decimal named.frame ++ codes ", ") ++ owner_words named.owner named.gfn

-- which bytes of which frame were accessed, and by which call
abbrev pub access_words : Access → List ℕ
access_words told = codes "line " ++ (decimal told.line ++ (codes ": " ++ (kind_text told.call ++ (codes " of " ++ (decimal told.len
    ++ (codes " bytes from byte " ++ (decimal told.offset ++ (codes " of frame " ++ decimal told.frame))))))))

-- as "line 25: hwrite refused, not-present: frame 3, vm 0 at guest frame 7", "line 9: map refused, not-host: frame 5" of
-- another VM's frame, "line 8: verify rejected, image 0", and "line 31: hread of 49 bytes from byte 55 of frame 3 at guest
-- frame 7"
abbrev pub mark_title : Mark → List ℕ
mark_title (mark.Denied told) =
    (codes "line " ++ decimal told.line ++ codes ": " ++ kind_text told.call) ++ (reason_words told.reason ++ named_words told.foreign told.named)
mark_title (mark.Access told) = access_words told ++ place_words told.gfn

-- what several marks of a kind are
abbrev pub kind_words : MarkKind → List ℕ
kind_words Read = codes "reads"
kind_words Write = codes "writes"
kind_words Refused = codes "refused"
kind_words Rejected = codes "rejected"

-- marks that are drawn as one, as "12 refused, lines 17 to 40"
abbrev pub marks_title : (count : ℕ) → MarkKind → (first last : ℕ) → List ℕ
marks_title count kind first last = (decimal count ++ codes " " ++ kind_words kind) ++ (codes ", lines " ++ decimal first ++ codes " to " ++ decimal last)
