-- Which notes are reported, and what of them in a report of one VM.
use Rattle.std.specs.Prelude.{ℕ, ◌≡◌, Bool, true, false, not, ◌&&◌, ◌||◌, ◌==◌, List, filter, map, Option, Some, None, IfSome, if◌then◌else◌}
use Rattle.kc_types.specs.declared.owner.Owner.{Owner}
use Rattle.kc_types.specs.declared.owner.Owner.TheVariants.{Vm}
use Rattle.kc_types.specs.declared.custody.Change.TheVariants as change
use Rattle.kc_types.specs.declared.custody.Event.TheVariants as event
use Rattle.kc_model.specs.Lives.{is_owned_by}
use Rattle.kc_remarks.specs.declared.remark.NamedFrame.{NamedFrame}
use Rattle.kc_remarks.specs.declared.remark.Denied.{Denied}
use Rattle.kc_remarks.specs.declared.remark.Access.{Access}
use Rattle.kc_remarks.specs.declared.remark.Remarks.{Remarks}
use Rattle.kc_remarks.specs.declared.remark.Note.{Note}
use Rattle.kc_remarks.specs.declared.remark.Note.TheVariants as note
use Rattle.kc_custody.specs.Selected.{is_selected}

-- it is this slot that is named
abbrev pub is_slot : ℕ → Option ℕ → Bool
is_slot v None = false
is_slot v (Some named) = named == v

-- it is a frame of this slot's VM that is named
abbrev pub is_frame_of : ℕ → Option NamedFrame → Bool
is_frame_of v None = false
is_frame_of v (Some named) = is_owned_by v named.owner

-- a denied call, of one slot if one is given: it names that slot, or a frame of its VM
abbrev pub is_denied_at : Option ℕ → Denied → Bool
is_denied_at None told = true
is_denied_at (Some v) told = is_slot v told.slot || is_frame_of v told.named

-- an access, of one slot if one is given: to a frame of its VM
abbrev pub is_access_of : Option ℕ → Access → Bool
is_access_of None told = true
is_access_of (Some v) told = told.vm == v

-- a note that is reported: a change, of one slot if one is given, and what else is asked for of it
abbrev pub is_chosen : Option ℕ → Remarks → Note → Bool
is_chosen vm remarks (note.Denied told) = remarks.refused && is_denied_at vm told
is_chosen vm remarks (note.Access told) = remarks.accesses && is_access_of vm told
is_chosen vm remarks (note.Event told) = is_selected vm told

-- a slot that is named, if it is this one
abbrev pub own_slot : ℕ → Option ℕ → Option ℕ
own_slot v None = None
own_slot v (Some named) = if named == v then Some named else None

-- whether the owner is another VM than this slot's
abbrev pub is_other_vm : ℕ → Owner → Bool
is_other_vm v (Vm w) = not (w == v)
is_other_vm v _ = false

-- a frame that is named, if it is not another VM's
abbrev pub own_frame : ℕ → Option NamedFrame → Option NamedFrame
own_frame v None = None
own_frame v (Some named) = if is_other_vm v named.owner then None else Some named

-- the number of a frame that is named, if it is another VM's
abbrev pub foreign_frame : ℕ → Option NamedFrame → Option ℕ
foreign_frame v None = None
foreign_frame v (Some named) = if is_other_vm v named.owner then Some named.frame else None

-- a denied call without what belongs to other VMs than this slot's
abbrev pub own_denied : ℕ → Denied → Denied
own_denied v told = record told { slot = own_slot v told.slot; named = own_frame v told.named; foreign = foreign_frame v told.named }

-- a note without that
abbrev pub own_note : ℕ → Note → Note
own_note v (note.Denied told) = note.Denied (own_denied v told)
own_note v told = told

-- notes, without that if one slot is given
abbrev pub own_notes : Option ℕ → List Note → List Note
own_notes None told = told
own_notes (Some v) told = map (own_note v) told

-- the notes that are reported, as they are then
abbrev pub chosen : Option ℕ → Remarks → List Note → List Note
chosen vm remarks told = own_notes vm (filter (is_chosen vm remarks) told)

-- a note names no VM but this slot's: neither as a slot nor as the owner of a frame
abbrev pub NamesOnly : ℕ → Note → Type 0
NamesOnly v (note.Denied told) = IfSome told.slot (λ w. w ≡ v) × IfSome told.named (λ named. is_other_vm v named.owner ≡ false)
NamesOnly v (note.Access told) = told.vm ≡ v
NamesOnly v (note.Event (event.Change (change.Frame told))) = (is_other_vm v told.before.owner ≡ false) × (is_other_vm v told.after.owner ≡ false)
NamesOnly v (note.Event (event.Change (change.Phase told))) = told.vm ≡ v
NamesOnly v (note.Event (event.Read w)) = w ≡ v
NamesOnly v (note.Event (event.Write w)) = w ≡ v

-- nothing but the changes
abbrev pub no_remarks : Remarks
no_remarks = record { refused = false; accesses = false }
