-- The changes among events, the events of one trace after another, and what is read off changes alone.
use Rattle.std.proofs.Common.{ℕ, suc, ◌≡◌, ◌+◌, List, [], ◌∷◌, ◌++◌, map, length, refl, sym, ap, ap₂, ◌∙◌, arith, append_assoc}
use Rattle.std.specs.List.{flat_map}
use Rattle.std.proofs.lemmas.List.Elements.{filter_map-append}
use Rattle.kc_types.specs.declared.call.Call.{Call}
use Rattle.kc_types.specs.declared.call.Call.TheVariants.{HostRead, HostWrite}
use Rattle.kc_types.specs.declared.reply.Reply.{Reply}
use Rattle.kc_types.specs.declared.reply.Reply.TheVariants as reply
use Rattle.kc_types.specs.declared.owner.Owner.{Owner}
use Rattle.kc_types.specs.declared.owner.Owner.TheVariants.{Vm}
use Rattle.kc_types.specs.declared.custody.Change.{Change}
use Rattle.kc_types.specs.declared.custody.Event.{Event}
use Rattle.kc_types.specs.declared.custody.Event.TheVariants as event
use Rattle.kc_model.specs.State.{State, frame_at}
use Rattle.kc_model.specs.Next.{next, state_after}
use Rattle.kc_model.specs.Custody.{changes_by, custody_from, custody, first_line}
use Rattle.kc_model.specs.Events.{of_owner, access_by, events_by, events_from, events, change_in, changes_in}

-- the host's accesses are not changes
changes-of-reads : (owner : Owner) → changes_in (of_owner event.Read owner) ≡ []
changes-of-reads (Vm v) = refl
changes-of-reads _ = refl

changes-of-writes : (owner : Owner) → changes_in (of_owner event.Write owner) ≡ []
changes-of-writes (Vm v) = refl
changes-of-writes _ = refl

changes-of-access : (m : State) (call : Call) (answer : Reply) → changes_in (access_by m call answer) ≡ []
changes-of-access m (HostRead f off len) (reply.Data bytes) = changes-of-reads (frame_at m f).owner
changes-of-access m (HostWrite f off bytes) reply.Done = changes-of-writes (frame_at m f).owner
changes-of-access m _ _ = refl

-- the changes among events that are all changes
pub changes-of-changes : (changes : List Change) → changes_in (map event.Change changes) ≡ changes
changes-of-changes [] = refl
changes-of-changes (change ∷ more) = ap (λ (rest : List Change). change ∷ rest) (changes-of-changes more)

-- the changes among a call's events are its changes
pub changes-of-call : (n : ℕ) (m : State) (call : Call) → changes_in (events_by n m call) ≡ changes_by n m (next m call).1
changes-of-call n m call =
    let told = map event.Change (changes_by n m (next m call).1) in
    filter_map-append change_in (access_by m call (next m call).0) told
    ∙ ap₂ ◌++◌ (changes-of-access m call (next m call).0) (changes-of-changes (changes_by n m (next m call).1))

-- the changes among the events of calls are their changes
pub changes-of-events_from : (n : ℕ) (m : State) (calls : List Call) → changes_in (events_from n m calls) ≡ custody_from n m calls
changes-of-events_from n m [] = refl
changes-of-events_from n m (call ∷ calls) =
    filter_map-append change_in (events_by n m call) (events_from (n + 1) (next m call).1 calls)
    ∙ ap₂ ◌++◌ (changes-of-call n m call) (changes-of-events_from (n + 1) (next m call).1 calls)

pub changes-of-events : (m : State) (calls : List Call) → changes_in (events m calls) ≡ custody m calls
changes-of-events m calls = changes-of-events_from first_line m calls

-- calls after others
pub events-append : (n : ℕ) (m : State) (xs ys : List Call) → events_from n m (xs ++ ys) ≡ events_from n m xs ++ events_from (n + length xs) (state_after m xs) ys
events-append n m [] ys = let e : n ≡ n + 0 = omega arith in ap (λ k. events_from k m ys) e
events-append n m (x ∷ xs) ys =
    let there : (n + 1) + length xs ≡ n + suc (length xs) = omega arith in
    let rest = events-append (n + 1) (next m x).1 xs ys ∙ ap (λ k. events_from (n + 1) (next m x).1 xs ++ events_from k (state_after (next m x).1 xs) ys) there in
    ap (λ (more : List Event). events_by n m x ++ more) rest
    ∙ sym (append_assoc (events_by n m x) (events_from (n + 1) (next m x).1 xs) (events_from (n + suc (length xs)) (state_after (next m x).1 xs) ys))

-- what is read off events that are all changes is what is read off the changes
pub flat-changes : {X : Type 0} (of_event : Event → List X) (of_change : Change → List X) → ((change : Change) → of_event (event.Change change) ≡ of_change change) → (changes : List Change)
    → flat_map of_event (map event.Change changes) ≡ flat_map of_change changes
flat-changes of_event of_change same [] = refl
flat-changes of_event of_change same (change ∷ more) = ap₂ ◌++◌ (same change) (flat-changes of_event of_change same more)
