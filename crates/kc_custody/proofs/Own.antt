-- A report of one VM names no other VM.
use Rattle.std.proofs.Common.{ℕ, ◌≡◌, ◌+◌, Bool, true, false, not, List, [], ◌∷◌, map, filter, get_or, All, Option, Some, None, refl, ap, inl, inr}
use Rattle.std.specs.Prelude.{◌⊎◌, IfSome, ◌==◌, if◌then◌else◌}
use Rattle.std.specs.List.{range_with_len}
use Rattle.std.specs.Option.{option_to_list}
use Rattle.std.proofs.lemmas.Bool.{eqb-true, and_parts, or_cases}
use Rattle.std.proofs.lemmas.List.Elements.{All-nil, All-cons, All-append, All-map, All-filter, All-from_get_or, filter_passes}
use Rattle.kc_types.specs.Configuration.{slot_count}
use Rattle.kc_types.specs.declared.owner.Owner.{Owner}
use Rattle.kc_types.specs.declared.owner.Owner.TheVariants.{Core, Host, Free, Vm}
use Rattle.kc_types.specs.declared.call.Call.{Call}
use Rattle.kc_types.specs.declared.call.Call.TheVariants.{HostRead, HostWrite}
use Rattle.kc_types.specs.declared.reply.Reply.{Reply}
use Rattle.kc_types.specs.declared.reply.Reply.TheVariants as reply
use Rattle.kc_types.specs.declared.custody.Change.{Change}
use Rattle.kc_types.specs.declared.custody.Change.TheVariants as change
use Rattle.kc_types.specs.declared.custody.Event.{Event}
use Rattle.kc_types.specs.declared.custody.Event.TheVariants as event
use Rattle.kc_model.specs.State.{State, Frame, frame_at}
use Rattle.kc_model.specs.Lawful.{IsLawful}
use Rattle.kc_model.specs.Lives.{is_owned_by}
use Rattle.kc_model.specs.Next.{next}
use Rattle.kc_model.specs.Custody.{changes_by, frame_change, frame_changes_by, phase_change, phase_changes_by, has_moved, has_turned, first_line}
use Rattle.kc_model.specs.Events.{of_owner, access_by, events_by}
use Rattle.kc_model.specs.Safety.{EachStep}
use Rattle.kc_model.specs.Passing.{Passes, PassesFrames}
use Rattle.kc_model.proofs.Promises.{promises_kept}
use Rattle.kc_remarks.specs.declared.remark.NamedFrame.{NamedFrame}
use Rattle.kc_remarks.specs.declared.remark.Remarks.{Remarks}
use Rattle.kc_remarks.specs.declared.remark.Note.{Note}
use Rattle.kc_remarks.specs.declared.remark.Note.TheVariants as note
use Rattle.kc_remarks.specs.Remarks.{named_by, remark_by, notes_by, notes_from, notes, events_in}
use Rattle.kc_remarks.proofs.Events.{of-remark}
use Rattle.kc_custody.specs.Chosen.{is_chosen, own_slot, is_other_vm, own_frame, own_note, chosen, NamesOnly}

-- ---- what belongs to others is left out of denied calls

slot-by : (v named : ℕ) (b : Bool) → (b ≡ true → named ≡ v) → IfSome (if b then Some named else None) (λ w. w ≡ v)
slot-by v named true h = h refl
slot-by v named false h = tt

slot : (v : ℕ) (named : Option ℕ) → IfSome (own_slot v named) (λ w. w ≡ v)
slot v None = tt
slot v (Some named) = slot-by v named (named == v) (eqb-true named v)

frame-by : (v : ℕ) (named : NamedFrame) (b : Bool) → is_other_vm v named.owner ≡ b → IfSome (if b then None else Some named) (λ one. is_other_vm v one.owner ≡ false)
frame-by v named true is = tt
frame-by v named false is = is

frame : (v : ℕ) (named : Option NamedFrame) → IfSome (own_frame v named) (λ one. is_other_vm v one.owner ≡ false)
frame v None = tt
frame v (Some named) = frame-by v named (is_other_vm v named.owner) refl

-- ---- a frame comes to a VM from the host and goes to the free list

is-own : (v : ℕ) (owner : Owner) → is_owned_by v owner ≡ true → is_other_vm v owner ≡ false
is-own v (Vm w) h = ap not h
is-own v Core h = refl
is-own v Host h = refl
is-own v Free h = refl

before : (v : ℕ) (old new : Frame) → Passes old new → is_owned_by v new.owner ≡ true → is_other_vm v old.owner ≡ false
before v old new (inl same) h = is-own v old.owner (rw same at h)
before v old new (inr (inl taken)) h = rw taken.0 refl
before v old new (inr (inr (inl given))) h = rw given.0 refl
before v old new (inr (inr (inr (inl handed)))) h = rw handed.1 refl
before v old new (inr (inr (inr (inr freed)))) h = absurd (let none : false ≡ true = rw freed.2 at h in cc)

after : (v : ℕ) (old new : Frame) → Passes old new → is_owned_by v old.owner ≡ true → is_other_vm v new.owner ≡ false
after v old new (inl same) h = rw same (is-own v old.owner h)
after v old new (inr (inl taken)) h = rw taken.1 refl
after v old new (inr (inr (inl given))) h = rw given.1 refl
after v old new (inr (inr (inr (inl handed)))) h = absurd (let none : false ≡ true = rw handed.1 at h in cc)
after v old new (inr (inr (inr (inr freed)))) h = rw freed.2 refl

passed : (v : ℕ) (old new : Frame) → Passes old new → (is_owned_by v old.owner ≡ true) ⊎ (is_owned_by v new.owner ≡ true) → (is_other_vm v old.owner ≡ false) × (is_other_vm v new.owner ≡ false)
passed v old new h (inl owned) = (is-own v old.owner owned, after v old new h owned)
passed v old new h (inr owned) = (before v old new h owned, is-own v new.owner owned)

-- ---- each note that is chosen

-- if the note is reported, it names no other VM there
abbrev IsOwn : ℕ → Remarks → Note → Type 0
IsOwn v remarks told = is_chosen (Some v) remarks told ≡ true → NamesOnly v (own_note v told)

each-made : {X : Type 0} (P : Change → Type 0) (wrap : X → Change) (make : ℕ → X) (numbers : List ℕ) → ((n : ℕ) → P (wrap (make n))) → All P (map wrap (map make numbers))
each-made P wrap make numbers each = All-map P wrap (map make numbers) (All-map (λ told. P (wrap told)) make numbers (All-from_get_or (λ n. P (wrap (make n))) numbers 0 (λ i lt. each (get_or numbers i 0))))

changes-own : (v : ℕ) (remarks : Remarks) (line : ℕ) (m : State) (call : Call) → PassesFrames m call (next m call).0 (next m call).1 → All (λ told. IsOwn v remarks (note.Event (event.Change told))) (changes_by line m (next m call).1)
changes-own v remarks line m call passes =
    let new = (next m call).1 in
    let P : Change → Type 0 = λ told. IsOwn v remarks (note.Event (event.Change told)) in
    All-append P (map change.Frame (frame_changes_by line m new)) (map change.Phase (phase_changes_by line m new))
    (each-made P change.Frame (frame_change line m new) (filter (has_moved m new) (range_with_len 0 m.config.frames)) (λ f h. passed v (frame_at m f) (frame_at new f) (passes f) (or_cases _ _ h)))
    (each-made P change.Phase (phase_change line m new) (filter (has_turned m new) (range_with_len 0 (slot_count m.config))) (λ w h. eqb-true w v h))

owner-own : (v : ℕ) (remarks : Remarks) (made : ℕ → Event) (owner : Owner) → ((w : ℕ) → IsOwn v remarks (note.Event (made w))) → All (λ told. IsOwn v remarks (note.Event told)) (of_owner made owner)
owner-own v remarks made (Vm w) own = All-cons (λ told. IsOwn v remarks (note.Event told)) (made w) [] (own w) (All-nil (λ told. IsOwn v remarks (note.Event told)))
owner-own v remarks made Core own = All-nil (λ told. IsOwn v remarks (note.Event told))
owner-own v remarks made Host own = All-nil (λ told. IsOwn v remarks (note.Event told))
owner-own v remarks made Free own = All-nil (λ told. IsOwn v remarks (note.Event told))

access-own : (v : ℕ) (remarks : Remarks) (m : State) (call : Call) (answer : Reply) → All (λ told. IsOwn v remarks (note.Event told)) (access_by m call answer)
access-own v remarks m (HostRead f off len) (reply.Data bytes) = owner-own v remarks event.Read (frame_at m f).owner (λ w h. absurd cc)
access-own v remarks m (HostWrite f off bytes) reply.Done = owner-own v remarks event.Write (frame_at m f).owner (λ w h. absurd cc)
access-own v remarks m call answer = All-nil (λ told. IsOwn v remarks (note.Event told))

events-own : (v : ℕ) (remarks : Remarks) (line : ℕ) (m : State) (call : Call) → PassesFrames m call (next m call).0 (next m call).1 → All (λ told. IsOwn v remarks (note.Event told)) (events_by line m call)
events-own v remarks line m call passes =
    All-append (λ told. IsOwn v remarks (note.Event told)) (access_by m call (next m call).0) _
    (access-own v remarks m call (next m call).0)
    (All-map (λ told. IsOwn v remarks (note.Event told)) event.Change _ (changes-own v remarks line m call passes))

remark-own : (v : ℕ) (remarks : Remarks) (told : Option Note) → events_in (option_to_list told) ≡ [] → All (IsOwn v remarks) (option_to_list told)
remark-own v remarks None none = All-nil (IsOwn v remarks)
remark-own v remarks (Some (note.Denied told)) none = All-cons (IsOwn v remarks) (note.Denied told) [] (λ h. (slot v told.slot, frame v told.named)) (All-nil (IsOwn v remarks))
remark-own v remarks (Some (note.Access told)) none = All-cons (IsOwn v remarks) (note.Access told) [] (λ h. eqb-true told.vm v (and_parts remarks.accesses (told.vm == v) h).1) (All-nil (IsOwn v remarks))
remark-own v remarks (Some (note.Event told)) none = absurd cc

call-own : (v : ℕ) (remarks : Remarks) (line : ℕ) (m : State) (call : Call) → PassesFrames m call (next m call).0 (next m call).1 → All (IsOwn v remarks) (notes_by line m call)
call-own v remarks line m call passes =
    All-append (IsOwn v remarks) (option_to_list (remark_by line m call)) _
    (remark-own v remarks (remark_by line m call) (of-remark line (named_by m call) call (next m call).0))
    (All-map (IsOwn v remarks) note.Event (events_by line m call) (events-own v remarks line m call passes))

calls-own : (v : ℕ) (remarks : Remarks) (line : ℕ) (m : State) (calls : List Call) → EachStep PassesFrames m calls → All (IsOwn v remarks) (notes_from line m calls)
calls-own v remarks line m [] passes = All-nil (IsOwn v remarks)
calls-own v remarks line m (call ∷ calls) passes =
    All-append (IsOwn v remarks) (notes_by line m call) _ (call-own v remarks line m call passes.0) (calls-own v remarks (line + 1) (next m call).1 calls passes.1)

all-chosen : (v : ℕ) (remarks : Remarks) (told : List Note) → All (IsOwn v remarks) told → All (λ one. NamesOnly v (own_note v one)) (filter (is_chosen (Some v) remarks) told)
all-chosen v remarks told own = λ k d lt. All-filter (is_chosen (Some v) remarks) (IsOwn v remarks) told own k d lt (filter_passes (is_chosen (Some v) remarks) told k d lt)

-- in a report of one VM no note names another VM
pub names_only : (m : State) (calls : List Call) → IsLawful m → (v : ℕ) (remarks : Remarks) → All (NamesOnly v) (chosen (Some v) remarks (notes m calls))
names_only m calls is v remarks =
    All-map (NamesOnly v) (own_note v) _ (all-chosen v remarks (notes m calls) (calls-own v remarks first_line m calls (promises_kept m calls is).passing.passes))
