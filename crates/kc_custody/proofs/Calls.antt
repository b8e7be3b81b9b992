-- What is reported of a call, if marks and changes went from hand to hand.
use Rattle.std.proofs.Common.{ℕ, ◌≡◌, true, List, [], ◌∷◌, ◌++◌, map, filter, Option, refl, sym, ap, ap₂, ◌∙◌, append_assoc}
use Rattle.std.specs.Option.{option_map, option_to_list}
use Rattle.std.proofs.lemmas.List.{map-append}
use Rattle.kc_types.specs.declared.call.Call.{Call}
use Rattle.kc_types.specs.declared.call.Call.TheVariants.{HostRead, HostWrite}
use Rattle.kc_types.specs.declared.reply.Reply.{Reply}
use Rattle.kc_types.specs.declared.reply.Reply.TheVariants as reply
use Rattle.kc_types.specs.declared.owner.Owner.{Owner}
use Rattle.kc_types.specs.declared.owner.Owner.TheVariants.{Core, Host, Free, Vm}
use Rattle.kc_types.specs.declared.custody.FrameChange.{FrameChange}
use Rattle.kc_types.specs.declared.custody.Measurement.{Measurement}
use Rattle.kc_types.specs.declared.custody.PhaseChange.{PhaseChange}
use Rattle.kc_types.specs.declared.custody.Event.{Event}
use Rattle.kc_types.specs.declared.custody.Event.TheVariants as event
use Rattle.kc_types.specs.declared.custody.Change.TheVariants as change
use Rattle.kc_types.specs.Slots.{vm_of}
use Rattle.kc_model.specs.State.{State, frame_at}
use Rattle.kc_model.specs.Lawful.{IsLawful}
use Rattle.kc_model.specs.Next.{next}
use Rattle.kc_model.specs.Resources.{is_in}
use Rattle.kc_model.specs.Custody.{frame_changes_by, phase_changes_by, changes_by, measurement_by}
use Rattle.kc_model.specs.Events.{of_owner, access_by, events_by}
use Rattle.kc_custody.specs.Movable.{movable}
use Rattle.kc_custody.specs.Marks.{mark_of, settled, differs, frame_event, turning, phase_mark, phase_told, phase_event, accessed, access_told}
use Rattle.kc_custody.proofs.Ordered.{IsRisingFrom}
use Rattle.kc_custody.proofs.Told.{told-is}
use Rattle.kc_custody.proofs.Turned.{phases-told}

-- the marks of frames that hold all that a call may move, and the mark of its slot
pub record IsMarked (line : ℕ) (m : State) (call : Call) (marks : List FrameChange) (mark : Option PhaseChange) : Type 0 where
  pub frames : List ℕ
  pub rising : IsRisingFrom 0 frames
  pub held : (f : ℕ) → is_in (movable m call) f ≡ true → is_in frames f ≡ true
  pub each : marks ≡ map (mark_of line m) frames
  pub slot : mark ≡ option_map (phase_mark line m) (turning call)

of-owner : (made : ℕ → Event) (owner : Owner) → map made (option_to_list (vm_of owner)) ≡ of_owner made owner
of-owner made Core = refl
of-owner made Host = refl
of-owner made Free = refl
of-owner made (Vm v) = refl

-- what is reported of the host's read or write
access-is : (m : State) (call : Call) (answered : Reply) → access_told call (accessed m call) answered ≡ access_by m call answered
access-is m (HostRead f off len) (reply.Data bytes) = of-owner event.Read (frame_at m f).owner
access-is m (HostWrite f off bytes) reply.Done = of-owner event.Write (frame_at m f).owner
access-is m _ _ = refl

map-map : {X Y Z : Type 0} (g : Y → Z) (f : X → Y) (xs : List X) → map g (map f xs) ≡ map (λ x. g (f x)) xs
map-map g f [] = refl
map-map g f (x ∷ xs) = ap (λ ys. g (f x) ∷ ys) (map-map g f xs)

spread : (a b c d : List Event) → ((a ++ b) ++ c) ++ d ≡ a ++ (b ++ (c ++ d))
spread a b c d = append_assoc (a ++ b) c d ∙ append_assoc a b (c ++ d)

-- the events of changes, of frames and of slots
abbrev effects : ℕ → State → State → List Event
effects line m new = map frame_event (frame_changes_by line m new) ++ map phase_event (phase_changes_by line m new)

-- changes as events, of frames and of slots
events-of-changes : (line : ℕ) (m new : State) → map event.Change (changes_by line m new) ≡ effects line m new
events-of-changes line m new =
    map-append event.Change (map change.Frame (frame_changes_by line m new)) (map change.Phase (phase_changes_by line m new))
    ∙ ap₂ (λ (xs ys : List Event). xs ++ ys) (map-map event.Change change.Frame (frame_changes_by line m new)) (map-map event.Change change.Phase (phase_changes_by line m new))

-- the events that the marks report are those of the call
pub call-told : (line : ℕ) (m new : State) (call : Call) (vm : Option ℕ) (reply : Reply) (marks : List FrameChange) (mark : Option PhaseChange) (found : Measurement) (before accesses frames after : List Event)
    → IsLawful m → IsMarked line m call marks mark → vm ≡ accessed m call → reply ≡ (next m call).0 → new ≡ (next m call).1 → found ≡ measurement_by m call
    → accesses ≡ before ++ access_told call vm reply → frames ≡ accesses ++ map frame_event (filter differs (map (settled new) marks)) → after ≡ frames ++ phase_told new found mark → after ≡ before ++ events_by line m call
call-told line m new call vm reply marks mark found before accesses frames after is marked at answered left measured told-access told-frames told-slot =
    let told : filter differs (map (settled new) marks) ≡ frame_changes_by line m (next m call).1 =
    ap₂ (λ (s : State) (all : List FrameChange). filter differs (map (settled s) all)) left marked.each
    ∙ told-is line m call marked.frames is marked.rising marked.held in
    let turned : phase_told new found mark ≡ map phase_event (phase_changes_by line m (next m call).1) =
    ap₂ (λ (s : State) (at : Option PhaseChange). phase_told s found at) left marked.slot
    ∙ phases-told line m call found is measured in
    let served : access_told call vm reply ≡ access_by m call (next m call).0 = ap₂ (access_told call) at answered ∙ access-is m call (next m call).0 in
    told-slot
    ∙ ap₂ (λ (xs ys : List Event). xs ++ ys) (told-frames ∙ ap₂ (λ (xs : List Event) (fs : List FrameChange). xs ++ map frame_event fs) (told-access ∙ ap (λ xs. before ++ xs) served) told) turned
    ∙ spread before (access_by m call (next m call).0) (map frame_event (frame_changes_by line m (next m call).1)) (map phase_event (phase_changes_by line m (next m call).1))
    ∙ ap (λ (xs : List Event). before ++ (access_by m call (next m call).0 ++ xs)) (sym (events-of-changes line m (next m call).1))
