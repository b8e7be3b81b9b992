-- What the events of one call say of a slot.
use Rattle.std.proofs.Common.{ℕ, ◌≡◌, ◌<◌, ◌+◌, ◌⊎◌, inl, inr, Bool, true, false, cond, not, ◌&&◌, ◌||◌, ◌≤◌, nat_eq, Some, None, subst, ap₂, append-nil, List, [], ◌∷◌, ◌++◌, map, length, All, refl, sym, ap, ◌∙◌, arith, append_assoc}
use Rattle.std.proofs.lemmas.List.Elements.{All-nil, All-cons, All-append, All-map, All-weaker, All-head, All-tail, All-filter, filter_map-append}
use Rattle.std.specs.List.{list_any, cons_option}
use Rattle.std.proofs.lemmas.Bool.{eq-eqb, ne_eqb, and_right, cond-false}
use Rattle.std.proofs.Math.Bool.{and-true}
use Rattle.kc_types.specs.Configuration.{slot_count}
use Rattle.kc_types.specs.declared.call.Call.{Call}
use Rattle.kc_types.specs.declared.call.Call.TheVariants.{HostRead, HostWrite}
use Rattle.kc_types.specs.declared.reply.Reply.{Reply}
use Rattle.kc_types.specs.declared.reply.Reply.TheVariants as reply
use Rattle.kc_types.specs.declared.owner.Owner.{Owner}
use Rattle.kc_types.specs.declared.owner.Owner.TheVariants.{Vm}
use Rattle.kc_types.specs.declared.custody.FrameChange.{FrameChange}
use Rattle.kc_types.specs.declared.custody.PhaseChange.{PhaseChange}
use Rattle.kc_types.specs.declared.custody.Change.TheVariants as change
use Rattle.kc_types.specs.declared.custody.Event.{Event}
use Rattle.kc_types.specs.declared.custody.Event.TheVariants as event
use Rattle.kc_model.specs.State.{State, frame_at, slot_at}
use Rattle.kc_model.specs.Next.{next}
use Rattle.kc_model.specs.Lawful.{IsLawful}
use Rattle.kc_model.specs.Resources.{is_in}
use Rattle.kc_model.specs.Custody.{has_moved, frame_change, phase_change, frame_changes_by, phase_changes_by}
use Rattle.kc_model.specs.Events.{of_owner, access_by, events_by}
use Rattle.kc_model.specs.Lives.{is_owned_by, is_gain, is_loss, is_read, is_write, frame_gained, frames_gained}
use Rattle.kc_model.specs.Summaries.{reads_from, writes_to}
use Rattle.kc_model.proofs.Custody.Same.{is-same}
use Rattle.kc_model.proofs.Custody.Told.{moved, turned, among-range}
use Rattle.kc_model.proofs.Custody.Ordered.{in-range}
use Rattle.kc_model.proofs.States.Counts.{one_if}
use Rattle.kc_model.proofs.Summaries.Counts.{count, count-cons, count-append, count-map, count-none, count-filter}
use Rattle.kc_model.proofs.Summaries.Owned.{has, all_frames, gained, lost, owned-balance, goes-one-way}

-- the event that a slot turned
abbrev pub slot_event : ℕ → State → State → ℕ → Event
slot_event n old new v = event.Change (change.Phase (phase_change n old new v))

-- the events of a call before those of slots
abbrev pub front : ℕ → State → Call → List Event
front n m call = access_by m call (next m call).0 ++ map event.Change (map change.Frame (frame_changes_by n m (next m call).1))

-- those of slots
abbrev pub rear : ℕ → State → Call → List Event
rear n m call = map (slot_event n m (next m call).1) (turned m (next m call).1)

map-append : {X Y : Type 0} (make : X → Y) (xs ys : List X) → map make (xs ++ ys) ≡ map make xs ++ map make ys
map-append make [] ys = refl
map-append make (x ∷ xs) ys = ap (λ zs. make x ∷ zs) (map-append make xs ys)

map-thrice : (make : ℕ → PhaseChange) (xs : List ℕ) → map event.Change (map change.Phase (map make xs)) ≡ map (λ x. event.Change (change.Phase (make x))) xs
map-thrice make [] = refl
map-thrice make (x ∷ xs) = ap (λ zs. event.Change (change.Phase (make x)) ∷ zs) (map-thrice make xs)

pub events-parted : (n : ℕ) (m : State) (call : Call) → events_by n m call ≡ front n m call ++ rear n m call
events-parted n m call =
    let new = (next m call).1 in
    let access = access_by m call (next m call).0 in
    let frames = map event.Change (map change.Frame (frame_changes_by n m new)) in
    ap (λ zs. access ++ zs) (map-append event.Change (map change.Frame (frame_changes_by n m new)) (map change.Phase (phase_changes_by n m new)) ∙ ap (λ zs. frames ++ zs) (map-thrice (phase_change n m new) (turned m new)))
    ∙ sym (append_assoc access frames (rear n m call))

-- what holds of every access and of every change of a frame holds of the events before those of slots
owner-all : (P : Event → Type 0) (made : ℕ → Event) → ((w : ℕ) → P (made w)) → (owner : Owner) → All P (of_owner made owner)
owner-all P made each (Vm w) = All-cons P (made w) [] (each w) (All-nil P)
owner-all P made each _ = All-nil P

pub access-all : (P : Event → Type 0) → ((w : ℕ) → P (event.Read w)) → ((w : ℕ) → P (event.Write w)) → (m : State) (call : Call) (answer : Reply) → All P (access_by m call answer)
access-all P reads writes m (HostRead f off len) (reply.Data bytes) = owner-all P event.Read reads (frame_at m f).owner
access-all P reads writes m (HostWrite f off bytes) reply.Done = owner-all P event.Write writes (frame_at m f).owner
access-all P reads writes m _ _ = All-nil P

pub frames-all : (P : Event → Type 0) → ((told : FrameChange) → P (event.Change (change.Frame told))) → (told : List FrameChange) → All P (map event.Change (map change.Frame told))
frames-all P each told = All-map P event.Change (map change.Frame told) (All-map (λ change. P (event.Change change)) change.Frame told (λ i d lt. each _))

pub front-all : (P : Event → Type 0) → ((w : ℕ) → P (event.Read w)) → ((w : ℕ) → P (event.Write w)) → ((told : FrameChange) → P (event.Change (change.Frame told))) → (n : ℕ) (m : State) (call : Call) → All P (front n m call)
front-all P reads writes frames n m call =
    All-append P (access_by m call (next m call).0) (map event.Change (map change.Frame (frame_changes_by n m (next m call).1)))
    (access-all P reads writes m call (next m call).0) (frames-all P frames (frame_changes_by n m (next m call).1))

-- an event that does not count for the VM
pub record IsQuiet (v : ℕ) (told : Event) : Type 0 where
  pub gain : is_gain v told ≡ false
  pub loss : is_loss v told ≡ false
  pub read : is_read v told ≡ false
  pub write : is_write v told ≡ false

pub slot-quiet : (v n : ℕ) (old new : State) (w : ℕ) → IsQuiet v (slot_event n old new w)
slot-quiet v n old new w = record { gain = refl; loss = refl; read = refl; write = refl }

-- what the events of a call count, by the states before and after it and by its reply
pub record CallTells (v : ℕ) (m : State) (call : Call) (told : List Event) : Type 0 where
  pub reads : count (is_read v) told ≡ one_if (reads_from v m call (next m call).0)
  pub writes : count (is_write v) told ≡ one_if (writes_to v m call (next m call).0)
  pub balance : length (slot_at m v).frames + count (is_gain v) told ≡ length (slot_at (next m call).1 v).frames + count (is_loss v) told
  pub one_way : (count (is_gain v) told ≡ 0) ⊎ (count (is_loss v) told ≡ 0)
  pub losses : count (is_loss v) told ≡ count (lost m (next m call).1 v) (all_frames m)
  pub gains : (f : ℕ) → f < m.config.frames → is_in (frames_gained v told) f ≡ gained m (next m call).1 v f
  pub within : All (λ f. f < m.config.frames) (frames_gained v told)

reads-owner : (v : ℕ) (owner : Owner) → count (is_read v) (of_owner event.Read owner) ≡ one_if (is_owned_by v owner)
reads-owner v (Vm w) = let one = count-cons (is_read v) (event.Read w) [] in omega (arith, one)
reads-owner v _ = refl

writes-owner : (v : ℕ) (owner : Owner) → count (is_write v) (of_owner event.Write owner) ≡ one_if (is_owned_by v owner)
writes-owner v (Vm w) = let one = count-cons (is_write v) (event.Write w) [] in omega (arith, one)
writes-owner v _ = refl

access-reads : (v : ℕ) (m : State) (call : Call) (answer : Reply) → count (is_read v) (access_by m call answer) ≡ one_if (reads_from v m call answer)
access-reads v m (HostRead f off len) (reply.Data bytes) = reads-owner v (frame_at m f).owner
access-reads v m (HostWrite f off bytes) reply.Done = count-none (is_read v) (of_owner event.Write (frame_at m f).owner) (owner-all (λ told. is_read v told ≡ false) event.Write (λ w. refl) (frame_at m f).owner)
access-reads v m _ _ = refl

access-writes : (v : ℕ) (m : State) (call : Call) (answer : Reply) → count (is_write v) (access_by m call answer) ≡ one_if (writes_to v m call answer)
access-writes v m (HostRead f off len) (reply.Data bytes) = count-none (is_write v) (of_owner event.Read (frame_at m f).owner) (owner-all (λ told. is_write v told ≡ false) event.Read (λ w. refl) (frame_at m f).owner)
access-writes v m (HostWrite f off bytes) reply.Done = writes-owner v (frame_at m f).owner
access-writes v m _ _ = refl

-- a test of the changes of frames, as one of frames
count-moved : (test : Event → Bool) (n : ℕ) (old new : State) → ((f : ℕ) → has_moved old new f ≡ false → test (event.Change (change.Frame (frame_change n old new f))) ≡ false)
    → count test (map event.Change (map change.Frame (frame_changes_by n old new))) ≡ count (λ f. test (event.Change (change.Frame (frame_change n old new f)))) (all_frames old)
count-moved test n old new still =
    count-map test event.Change (map change.Frame (frame_changes_by n old new))
    ∙ count-map (λ change. test (event.Change change)) change.Frame (frame_changes_by n old new)
    ∙ count-map (λ told. test (event.Change (change.Frame told))) (frame_change n old new) (moved old new)
    ∙ count-filter (λ f. test (event.Change (change.Frame (frame_change n old new f)))) (has_moved old new) still (all_frames old)

-- what stays with its owner is neither gained nor lost
has-still : (old new : State) (v f : ℕ) → has_moved old new f ≡ false → has new v f ≡ has old v f
has-still old new v f still = ap (λ custody. is_owned_by v custody.owner) (is-same old new f still)

not-and : (b : Bool) → (not b && b) ≡ false
not-and true = refl
not-and false = refl

and-not : (b : Bool) → (b && not b) ≡ false
and-not true = refl
and-not false = refl

-- changes of frames gain what the VM has only after them, and lose what it has only before them
pub frames-gain : (v n : ℕ) (old new : State) → count (is_gain v) (map event.Change (map change.Frame (frame_changes_by n old new))) ≡ count (gained old new v) (all_frames old)
frames-gain v n old new = count-moved (is_gain v) n old new (λ f still. ap (λ b. not (has old v f) && b) (has-still old new v f still) ∙ not-and (has old v f))

pub frames-lose : (v n : ℕ) (old new : State) → count (is_loss v) (map event.Change (map change.Frame (frame_changes_by n old new))) ≡ count (lost old new v) (all_frames old)
frames-lose v n old new = count-moved (is_loss v) n old new (λ f still. ap (λ b. has old v f && not b) (has-still old new v f still) ∙ and-not (has old v f))

front-gains : (v n : ℕ) (m : State) (call : Call) → count (is_gain v) (front n m call) ≡ count (gained m (next m call).1 v) (all_frames m)
front-gains v n m call =
    let new = (next m call).1 in
    let access = access_by m call (next m call).0 in
    let none = count-none (is_gain v) access (access-all (λ told. is_gain v told ≡ false) (λ w. refl) (λ w. refl) m call (next m call).0) in
    count-append (is_gain v) access (map event.Change (map change.Frame (frame_changes_by n m new))) ∙ omega (arith, none, frames-gain v n m new)

front-losses : (v n : ℕ) (m : State) (call : Call) → count (is_loss v) (front n m call) ≡ count (lost m (next m call).1 v) (all_frames m)
front-losses v n m call =
    let new = (next m call).1 in
    let access = access_by m call (next m call).0 in
    let none = count-none (is_loss v) access (access-all (λ told. is_loss v told ≡ false) (λ w. refl) (λ w. refl) m call (next m call).0) in
    count-append (is_loss v) access (map event.Change (map change.Frame (frame_changes_by n m new))) ∙ omega (arith, none, frames-lose v n m new)

-- an event that is not a gain brings no frame
gained-none : (v : ℕ) (told : Event) → is_gain v told ≡ false → frame_gained v told ≡ None
gained-none v (event.Change (change.Frame told)) none = cond-false (is_gain v (event.Change (change.Frame told))) (Some told.frame) None none
gained-none v (event.Change (change.Phase told)) none = refl
gained-none v (event.Read w) none = refl
gained-none v (event.Write w) none = refl

pub none-gained : (v : ℕ) (told : List Event) → All (λ told. is_gain v told ≡ false) told → frames_gained v told ≡ []
none-gained v [] none = refl
none-gained v (x ∷ xs) none =
    ap₂ cons_option (gained-none v x (All-head (λ told. is_gain v told ≡ false) x xs none)) (none-gained v xs (All-tail (λ told. is_gain v told ≡ false) x xs none))

-- the frames that changes bring are those of their frames that are gained
moved-gains : (v n : ℕ) (old new : State) (fs : List ℕ) (f : ℕ) → is_in (frames_gained v (map event.Change (map change.Frame (map (frame_change n old new) fs)))) f ≡ list_any (λ g. gained old new v g && nat_eq g f) fs
moved-gains v n old new [] f = refl
moved-gains v n old new (g ∷ gs) f = by_gain (gained old new v g) (moved-gains v n old new gs f)
  where
    by_gain : (b : Bool) → is_in (frames_gained v (map event.Change (map change.Frame (map (frame_change n old new) gs)))) f ≡ list_any (λ g. gained old new v g && nat_eq g f) gs
        → is_in (cons_option (cond b (Some g) None) (frames_gained v (map event.Change (map change.Frame (map (frame_change n old new) gs))))) f ≡ ((b && nat_eq g f) || list_any (λ g. gained old new v g && nat_eq g f) gs)
    by_gain true rest = ap (λ b. nat_eq g f || b) rest
    by_gain false rest = rest

moved-within : (P : ℕ → Type 0) (v n : ℕ) (old new : State) (fs : List ℕ) → All P fs → All P (frames_gained v (map event.Change (map change.Frame (map (frame_change n old new) fs))))
moved-within P v n old new [] each = All-nil P
moved-within P v n old new (g ∷ gs) each = by_gain (gained old new v g) (frames_gained v (map event.Change (map change.Frame (map (frame_change n old new) gs)))) (moved-within P v n old new gs (All-tail P g gs each))
  where
    by_gain : (b : Bool) (rest : List ℕ) → All P rest → All P (cons_option (cond b (Some g) None) rest)
    by_gain true rest are = All-cons P g rest (All-head P g gs each) are
    by_gain false rest are = are

-- what has not moved is not gained
gained-moved : (old new : State) (v f : ℕ) → (has_moved old new f && (gained old new v f && nat_eq f f)) ≡ gained old new v f
gained-moved old new v f = by_moved (has_moved old new f) refl
  where
    by_moved : (b : Bool) → has_moved old new f ≡ b → (b && (gained old new v f && nat_eq f f)) ≡ gained old new v f
    by_moved true is = ap (λ b. gained old new v f && b) (eq-eqb f f refl) ∙ and-true (gained old new v f)
    by_moved false still = sym (ap (λ b. not (has old v f) && b) (has-still old new v f still) ∙ not-and (has old v f))

-- the frames that changes bring are those that the VM has only after them
pub frames-bring : (v n : ℕ) (old new : State) (f : ℕ) → f < old.config.frames → is_in (frames_gained v (map event.Change (map change.Frame (frame_changes_by n old new)))) f ≡ gained old new v f
frames-bring v n old new f lt =
    moved-gains v n old new (moved old new) f
    ∙ among-range (λ g. gained old new v g && nat_eq g f) (has_moved old new) 0 old.config.frames f (λ g differs. and_right (gained old new v g) (nat_eq g f) (ne_eqb g f differs)) (omega arith) (omega (arith, lt))
    ∙ gained-moved old new v f

pub frames-within : (v n : ℕ) (old new : State) → All (λ f. f < old.config.frames) (frames_gained v (map event.Change (map change.Frame (frame_changes_by n old new))))
frames-within v n old new =
    moved-within (λ f. f < old.config.frames) v n old new (moved old new)
    (All-filter (has_moved old new) (λ f. f < old.config.frames) (all_frames old) (All-weaker (λ f. (0 ≤ f) × (f < 0 + old.config.frames)) (λ f. f < old.config.frames) (λ f is. omega (arith, is.1)) (all_frames old) (in-range 0 old.config.frames)))

front-gained : (v n : ℕ) (m : State) (call : Call) → frames_gained v (front n m call) ≡ frames_gained v (map event.Change (map change.Frame (frame_changes_by n m (next m call).1)))
front-gained v n m call =
    let access = access_by m call (next m call).0 in
    let frames = map event.Change (map change.Frame (frame_changes_by n m (next m call).1)) in
    let none = none-gained v access (access-all (λ told. is_gain v told ≡ false) (λ w. refl) (λ w. refl) m call (next m call).0) in
    filter_map-append (frame_gained v) access frames ∙ ap (λ (first : List ℕ). first ++ frames_gained v frames) none

-- quiet events after others bring no frames
gained-quiet : (v : ℕ) (xs ys : List Event) → All (λ told. is_gain v told ≡ false) ys → frames_gained v (xs ++ ys) ≡ frames_gained v xs
gained-quiet v xs ys none = filter_map-append (frame_gained v) xs ys ∙ ap (λ (last : List ℕ). frames_gained v xs ++ last) (none-gained v ys none) ∙ append-nil (frames_gained v xs)

front-accesses : (test : Event → Bool) → ((told : FrameChange) → test (event.Change (change.Frame told)) ≡ false) → (n : ℕ) (m : State) (call : Call) → count test (front n m call) ≡ count test (access_by m call (next m call).0)
front-accesses test none n m call =
    let frames = map event.Change (map change.Frame (frame_changes_by n m (next m call).1)) in
    let zero = count-none test frames (frames-all (λ told. test told ≡ false) none (frame_changes_by n m (next m call).1)) in
    count-append test (access_by m call (next m call).0) frames ∙ omega (arith, zero)

-- quiet events after others
count-quiet : (test : Event → Bool) (xs ys : List Event) → All (λ told. test told ≡ false) ys → count test (xs ++ ys) ≡ count test xs
count-quiet test xs ys none = let zero = count-none test ys none in count-append test xs ys ∙ omega (arith, zero)

pub call-tells : (v n : ℕ) (m : State) (call : Call) (quiet : List Event) → IsLawful m → v < slot_count m.config → All (IsQuiet v) quiet → CallTells v m call (front n m call ++ quiet)
call-tells v n m call quiet is low each =
    let first = front n m call in
    let gains = count-quiet (is_gain v) first quiet (All-weaker (IsQuiet v) (λ told. is_gain v told ≡ false) (λ told q. q.gain) quiet each) ∙ front-gains v n m call in
    let losses = count-quiet (is_loss v) first quiet (All-weaker (IsQuiet v) (λ told. is_loss v told ≡ false) (λ told q. q.loss) quiet each) ∙ front-losses v n m call in
    let new = (next m call).1 in
    let brought = gained-quiet v first quiet (All-weaker (IsQuiet v) (λ told. is_gain v told ≡ false) (λ told q. q.gain) quiet each) ∙ front-gained v n m call in
    record {
      reads =
          count-quiet (is_read v) first quiet (All-weaker (IsQuiet v) (λ told. is_read v told ≡ false) (λ told q. q.read) quiet each)
          ∙ front-accesses (is_read v) (λ told. refl) n m call ∙ access-reads v m call (next m call).0;
      writes =
          count-quiet (is_write v) first quiet (All-weaker (IsQuiet v) (λ told. is_write v told ≡ false) (λ told q. q.write) quiet each)
          ∙ front-accesses (is_write v) (λ told. refl) n m call ∙ access-writes v m call (next m call).0;
      balance = let both = owned-balance m v call is low in omega (arith, gains, losses, both);
      one_way = elim (goes-one-way m v call is low) [
        | inl none ↦ inl (gains ∙ none)
        | inr none ↦ inr (losses ∙ none)
      ];
      losses = losses;
      gains = λ f lt. ap (λ (fs : List ℕ). is_in fs f) brought ∙ frames-bring v n m new f lt;
      within = subst (λ (fs : List ℕ). All (λ f. f < m.config.frames) fs) (sym brought) (frames-within v n m new);
    }
