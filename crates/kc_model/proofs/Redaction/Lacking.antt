-- Traces without such accesses have the same custody.
use Rattle.std.proofs.Common.{ℕ, ◌≡◌, ◌<◌, ◌+◌, Bool, true, false, not, List, [], ◌∷◌, ◌++◌, map, filter, length, set, refl, sym, ap, ap₂, subst, ◌∙◌, arith, Option, None, Some, is_none, is_some}
use Rattle.std.specs.List.{range_with_len}
use Rattle.std.proofs.lemmas.Bool.{and_parts}
use Rattle.std.proofs.lemmas.List.{set-get_or, length-set}
use Rattle.kc_types.specs.declared.call.Call.{Call}
use Rattle.kc_types.specs.declared.call.Call.TheVariants.{HostRead, HostWrite, GuestRead, GuestWrite}
use Rattle.kc_types.specs.declared.refusal.Refusal.{Refusal}
use Rattle.kc_types.specs.declared.owner.Owner.TheVariants.{Core}
use Rattle.kc_types.specs.declared.slot.Phase.TheVariants.{Active}
use Rattle.kc_types.specs.declared.custody.Change.TheVariants as change
use Rattle.kc_types.specs.Configuration.{slot_count}
use Rattle.kc_model.specs.State.{State, Frame, Slot, Vcpu, frame_at, slot_at, vcpu_at, mapped_at, with_frame, untouched, absent_vcpu, no_slot}
use Rattle.kc_model.specs.Slot.{awaiting, vcpu_of}
use Rattle.kc_model.specs.Refusals.{refusal, is_active}
use Rattle.kc_model.specs.Effects.{effect, guest_read, guest_written, written, with_fault}
use Rattle.kc_model.specs.Next.{next, unless_refused}
use Rattle.kc_model.specs.Lawful.{IsLawful}
use Rattle.kc_model.specs.Custody.{has_moved, has_turned, frame_change, phase_change, changes_by, custody_from, first_line}
use Rattle.kc_model.specs.Events.{changes_in}
use Rattle.kc_model.specs.Redaction.{counts, keeps_images, KeepsImages, DifferInBytes}
use Rattle.kc_model.specs.LeavingOut.{may_lack, marked, MayLackOthers, custody_on, TellsAll, AccessesChangeNothing}
use Rattle.kc_model.proofs.Lawful.Keeps.{lawful-next}
use Rattle.kc_model.proofs.Lawful.GuestCalls.{guest_access-served, owner-mapped}
use Rattle.kc_model.proofs.Custody.Same.{not-moved, not-turned}
use Rattle.kc_model.proofs.Custody.Events.{changes-of-call}
use Rattle.kc_model.proofs.Views.Alike.{alike-itself, alike-unseen, AlikeFrames, frames-set}
use Rattle.kc_model.proofs.Views.Events.{changes-told}
use Rattle.kc_model.proofs.Redaction.AsView.{view_of, seen-is, to-view, from-view, itself, back, then}
use Rattle.kc_model.proofs.Redaction.Traces.{pair}

-- one frame gets other bytes, which do not count
other-bytes : (kept : ℕ → Bool) (m : State) (f : ℕ) (bytes : List ℕ) → counts kept m f (frame_at m f).owner ≡ false → DifferInBytes kept m (with_frame m f (record (frame_at m f) { bytes = bytes }))
other-bytes kept m f bytes none =
    let x = frame_at m f in
    let y : Frame = record x { bytes = bytes } in
    from-view kept m (with_frame m f y) (record {
      config = refl;
      free = refl;
      slots = refl;
      number = length-set m.frames f y;
      frames = subst (λ xs. AlikeFrames (view_of kept) m xs (set m.frames f y)) (set-get_or m.frames f (untouched Core))
          (frames-set (view_of kept) m m.frames m.frames f x y refl (λ k. alike-itself _ (frame_at m k)) (alike-unseen _ x y (seen-is kept m f x.owner x.gfn ∙ none) refl));
    })

-- a virtual processor that waits for no page goes on
same-vcpu : (vcpu : Vcpu) → is_none vcpu.fault ≡ true → record vcpu { fault = None } ≡ vcpu
same-vcpu vcpu none = by-fault vcpu.fault refl none
  where
    by-fault : (fault : Option ℕ) → vcpu.fault ≡ fault → is_none fault ≡ true → record vcpu { fault = None } ≡ vcpu
    by-fault None e h = ap (λ at. record vcpu { fault = at }) (sym e)
    by-fault (Some g) e h = absurd cc

goes-on : (m : State) (v c : ℕ) → is_none (vcpu_at m v c).fault ≡ true → with_fault m v c None ≡ m
goes-on m v c none =
    let slot = slot_at m v in
    let vcpus : set slot.vcpus c (record (vcpu_of slot c) { fault = None }) ≡ slot.vcpus = ap (set slot.vcpus c) (same-vcpu (vcpu_of slot c) none) ∙ set-get_or slot.vcpus c absent_vcpu in
    let same : awaiting slot c None ≡ slot = ap (λ vcpus. record slot { vcpus = vcpus }) vcpus in
    ap (λ (slots : List Slot). record m { slots = slots }) (ap (set m.slots v) same ∙ set-get_or m.slots v no_slot)

reads-nothing : (kept : ℕ → Bool) (m : State) (v c g off len : ℕ) (at : Option ℕ) → is_none (vcpu_at m v c).fault ≡ true → is_some at ≡ true → DifferInBytes kept m (guest_read m v c g off len at).1
reads-nothing kept m v c g off len None none some = absurd cc
reads-nothing kept m v c g off len (Some f) none some = subst (DifferInBytes kept m) (sym (goes-on m v c none)) (itself kept m)

writes-unseen : (kept : ℕ → Bool) (m : State) (v c g off : ℕ) (bytes : List ℕ) (at : Option ℕ) → IsLawful m → v < slot_count m.config → (slot_at m v).phase ≡ Active → mapped_at m v g ≡ at → is_none (vcpu_at m v c).fault ≡ true → is_some at ≡ true
    → DifferInBytes kept m (guest_written m v c g off bytes at).1
writes-unseen kept m v c g off bytes None is v_in active e none some = absurd cc
writes-unseen kept m v c g off bytes (Some f) is v_in active e none some =
    let owner = owner-mapped m v g f is v_in e in
    let unseen : counts kept m f (frame_at m f).owner ≡ false = ap (counts kept m f) owner ∙ ap (λ phase. not (is_active phase)) active in
    subst (DifferInBytes kept m) (sym (goes-on (written m f off bytes) v c none)) (other-bytes kept m f _ unseen)

not-counted : (b : Bool) → not b ≡ true → b ≡ false
not-counted false h = refl
not-counted true h = cc

lacks-effect : (kept : ℕ → Bool) (m : State) (call : Call) → IsLawful m → may_lack kept m call ≡ true → refusal m call ≡ None → DifferInBytes kept m (effect m call).1
lacks-effect kept m (HostRead f off len) is may served = itself kept m
lacks-effect kept m (HostWrite f off bytes) is may served = other-bytes kept m f _ (not-counted (counts kept m f (frame_at m f).owner) may)
lacks-effect kept m (GuestRead v c g off len) is may served =
    let parts = and_parts (is_none (vcpu_at m v c).fault) (is_some (mapped_at m v g)) may in
    reads-nothing kept m v c g off len (mapped_at m v g) parts.0 parts.1
lacks-effect kept m (GuestWrite v c g off bytes) is may served =
    let parts = and_parts (is_none (vcpu_at m v c).fault) (is_some (mapped_at m v g)) may in
    let seen = (guest_access-served m v c g off (length bytes) served).0 in
    writes-unseen kept m v c g off bytes (mapped_at m v g) is seen.vm seen.active refl parts.0 parts.1
lacks-effect kept m _ is may served = absurd cc

lacks-unless : (refused : Option Refusal) (kept : ℕ → Bool) (m : State) (call : Call) → IsLawful m → may_lack kept m call ≡ true → refusal m call ≡ refused → DifferInBytes kept m (unless_refused refused m call).1
lacks-unless None kept m call is may served = lacks-effect kept m call is may served
lacks-unless (Some r) kept m call is may served = itself kept m

-- an access that may be left out changes only bytes that do not count
lacks-next : (kept : ℕ → Bool) (m : State) (call : Call) → IsLawful m → may_lack kept m call ≡ true → DifferInBytes kept m (next m call).1
unfolding next
lacks-next kept m call is may = lacks-unless (refusal m call) kept m call is may refl

-- nothing is reported of it
none-picked : {X Y : Type 0} (p : X → Bool) (g : X → Y) (xs : List X) → ((x : X) → p x ≡ false) → map g (filter p xs) ≡ []
none-picked p g [] none = refl
none-picked p g (x ∷ xs) none = rw (none x) (none-picked p g xs none)

nothing-told : (line : ℕ) (m : State) → changes_by line m m ≡ []
nothing-told line m =
    ap₂ ◌++◌ (ap (map change.Frame) (none-picked (has_moved m m) (frame_change line m m) (range_with_len 0 m.config.frames) (λ f. not-moved m m f refl)))
    (ap (map change.Phase) (none-picked (has_turned m m) (phase_change line m m) (range_with_len 0 (slot_count m.config)) (λ v. not-turned m m v refl)))

untold : (kept : ℕ → Bool) (line : ℕ) (m n : State) → DifferInBytes kept m n → changes_by line m n ≡ []
untold kept line m n differ = changes-told (view_of kept) line m m m n (to-view kept m m (itself kept m)) (to-view kept m n differ) (λ v turned. refl) ∙ nothing-told line m

-- a call that is in both traces
same-told : (kept : ℕ → Bool) (line : ℕ) (m n : State) (call : Call) → IsLawful m → IsLawful n → DifferInBytes kept m n → keeps_images kept call ≡ true → changes_by line n (next n call).1 ≡ changes_by line m (next m call).1
same-told kept line m n call is other_is differ keeps =
    sym (changes-of-call line n call) ∙ ap changes_in ((pair kept m n call call is other_is differ refl keeps).told line) ∙ changes-of-call line m call

tells-all : (kept : ℕ → Bool) (m n : State) (marks : List Bool) (calls : List Call) → IsLawful m → IsLawful n → DifferInBytes kept m n → MayLackOthers kept m marks calls → KeepsImages kept calls → TellsAll kept m n marks calls
tells-all kept m n [] [] is other_is differ may keeps = record { custody = λ lines number. none lines; replies = tt; states = differ }
  where
    none : (lines : List ℕ) → custody_on (marked [] lines) n [] ≡ custody_on lines m []
    none [] = refl
    none (line ∷ lines) = refl
tells-all kept m n [] (call ∷ calls) is other_is differ may keeps = absurd may
tells-all kept m n (mark ∷ marks) [] is other_is differ may keeps = absurd (by-mark mark may)
  where
    by-mark : (mark : Bool) → MayLackOthers kept m (mark ∷ marks) [] → ⊥
    by-mark true h = h
    by-mark false h = h
tells-all kept m n (true ∷ marks) (call ∷ calls) is other_is differ may keeps =
    let here = pair kept m n call call is other_is differ refl keeps.0 in
    let later = tells-all kept (next m call).1 (next n call).1 marks calls (lawful-next m call is) (lawful-next n call other_is) here.states may keeps.1 in
    record {
      custody = λ lines number. both later.custody lines number;
      replies = (here.answer, later.replies);
      states = later.states;
    }
  where
    both : ((lines : List ℕ) → length lines ≡ length calls → custody_on (marked marks lines) (next n call).1 (marked marks calls) ≡ custody_on lines (next m call).1 calls)
        → (lines : List ℕ) → length lines ≡ length (call ∷ calls) → custody_on (marked (true ∷ marks) lines) n (marked (true ∷ marks) (call ∷ calls)) ≡ custody_on lines m (call ∷ calls)
    both later [] number = absurd cc
    both later (line ∷ lines) number = ap₂ ◌++◌ (same-told kept line m n call is other_is differ keeps.0) (later lines (omega (arith, number)))
tells-all kept m n (false ∷ marks) (call ∷ calls) is other_is differ may keeps =
    let quiet = lacks-next kept m call is may.0 in
    let after = then kept (next m call).1 m n (back kept m (next m call).1 quiet) differ in
    let later = tells-all kept (next m call).1 n marks calls (lawful-next m call is) other_is after may.1 keeps.1 in
    record {
      custody = λ lines number. rest quiet later.custody lines number;
      replies = later.replies;
      states = later.states;
    }
  where
    rest : DifferInBytes kept m (next m call).1 → ((lines : List ℕ) → length lines ≡ length calls → custody_on (marked marks lines) n (marked marks calls) ≡ custody_on lines (next m call).1 calls)
        → (lines : List ℕ) → length lines ≡ length (call ∷ calls) → custody_on (marked (false ∷ marks) lines) n (marked (false ∷ marks) (call ∷ calls)) ≡ custody_on lines m (call ∷ calls)
    rest quiet later [] number = absurd cc
    rest quiet later (line ∷ lines) number = later lines (omega (arith, number)) ∙ sym (ap (λ told. told ++ custody_on lines (next m call).1 calls) (untold kept line m (next m call).1 quiet))

-- the lines of a trace
on-lines : (k : ℕ) (m : State) (calls : List Call) → custody_on (range_with_len k (length calls)) m calls ≡ custody_from k m calls
on-lines k m [] = refl
on-lines k m (call ∷ calls) = ap (λ told. changes_by k m (next m call).1 ++ told) (on-lines (k + 1) (next m call).1 calls)

pub accesses_change_nothing : (m : State) (calls : List Call) → IsLawful m → AccessesChangeNothing m calls
accesses_change_nothing m calls is = (on-lines first_line m calls, λ kept n marks other_is differ may keeps. tells-all kept m n marks calls is other_is differ may keeps)
