-- How many frames a slot has: its list is as long as the number of frames that it owns, and a call brings it frames or
-- takes some from it, but not both.
use Rattle.std.proofs.Common.{ℕ, ◌≡◌, ◌<◌, ◌+◌, ◌⊎◌, inl, inr, Bool, true, false, not, ◌&&◌, ◌||◌, List, length, Option, None, Some, refl, sym, ap, ◌∙◌, arith}
use Rattle.std.specs.List.{range_with_len}
use Rattle.std.proofs.lemmas.Bool.{cases_eq, eqb-true}
use Rattle.std.proofs.Math.Bool.{or-false}
use Rattle.kc_types.specs.Configuration.{slot_count}
use Rattle.kc_types.specs.declared.refusal.Refusal.{Refusal}
use Rattle.kc_types.specs.declared.owner.Owner.{Owner}
use Rattle.kc_types.specs.declared.owner.Owner.TheVariants.{Core, Host, Free, Vm}
use Rattle.kc_types.specs.declared.call.Call.{Call}
use Rattle.kc_types.specs.declared.call.Call.TheVariants.{Remap, Map}
use Rattle.kc_model.specs.State.{State, frame_at, slot_at}
use Rattle.kc_model.specs.Refusals.{refusal, conditions, next_gfn, pending}
use Rattle.kc_model.specs.Effects.{effect, hand}
use Rattle.kc_model.specs.Next.{next, unless_refused}
use Rattle.kc_model.specs.Resources.{is_in, listed_in}
use Rattle.kc_model.specs.Footprints.{gains}
use Rattle.kc_model.specs.Lawful.{IsLawful, same_owner, times_in}
use Rattle.kc_model.specs.Lives.{is_owned_by}
use Rattle.kc_model.proofs.Refusals.Served.{none-of}
use Rattle.kc_model.proofs.Refusals.Answered.{was-host}
use Rattle.kc_model.proofs.States.Lists.{changed-other}
use Rattle.kc_model.proofs.States.Members.{times_in-held, held-times_in}
use Rattle.std.proofs.lemmas.List.Sums.{length-filter}
use Rattle.kc_model.proofs.States.Counts.{one_if, listed-long}
use Rattle.kc_model.proofs.States.Sizes.{sized-next}
use Rattle.kc_model.proofs.Lawful.Keeps.{lawful-next}
use Rattle.kc_model.proofs.Lawful.LawfulTraces.{orderly-is}
use Rattle.kc_model.proofs.Footprints.Grows.{Grows, grows-next}
use Rattle.kc_model.proofs.Summaries.Counts.{count, count-none, count-balance, count-same}

-- whether the VM owns the frame
abbrev pub has : State → ℕ → ℕ → Bool
has m v f = is_owned_by v (frame_at m f).owner

-- the frames that a state has
abbrev pub all_frames : State → List ℕ
all_frames m = range_with_len 0 m.config.frames

owned-same : (v : ℕ) (owner : Owner) → same_owner owner (Vm v) ≡ is_owned_by v owner
owned-same v Core = refl
owned-same v Host = refl
owned-same v Free = refl
owned-same v (Vm w) = refl

has-owner : (v : ℕ) (owner : Owner) → is_owned_by v owner ≡ true → owner ≡ Vm v
has-owner v Core is = cc
has-owner v Host is = cc
has-owner v Free is = cc
has-owner v (Vm w) is = ap Vm (eqb-true w v is)

-- its list holds each of its frames once
once : (m : State) (v : ℕ) → IsLawful m → v < slot_count m.config → (f : ℕ) → times_in (slot_at m v).frames f ≡ one_if (has m v f)
once m v is low f = is.listed v low f ∙ ap one_if (owned-same v (frame_at m f).owner)

-- so the list is as long as they are many
pub owned-count : (m : State) (v : ℕ) → IsLawful m → v < slot_count m.config → length (slot_at m v).frames ≡ count (has m v) (all_frames m)
owned-count m v is low =
    listed-long m (Vm v) (slot_at m v).frames is.frames (is.listed v low) refl
    ∙ sym (length-filter (λ f. same_owner (frame_at m f).owner (Vm v)) (all_frames m))
    ∙ count-same (λ f. same_owner (frame_at m f).owner (Vm v)) (has m v) (all_frames m) (λ i d lt. owned-same v (frame_at m _).owner)

-- the frames that a VM has in the second state and not in the first
abbrev pub gained : State → State → ℕ → ℕ → Bool
gained old new v f = not (has old v f) && has new v f

abbrev pub lost : State → State → ℕ → ℕ → Bool
lost old new v f = has old v f && not (has new v f)

balanced : (a b : Bool) → one_if a + one_if (not a && b) ≡ one_if b + one_if (a && not b)
balanced true true = refl
balanced true false = refl
balanced false true = refl
balanced false false = refl

-- what the VM has after a call, with what it lost, is what it had, with what it gained
pub owned-balance : (m : State) (v : ℕ) (call : Call) → IsLawful m → v < slot_count m.config
    → length (slot_at m v).frames + count (gained m (next m call).1 v) (all_frames m) ≡ length (slot_at (next m call).1 v).frames + count (lost m (next m call).1 v) (all_frames m)
owned-balance m v call is low =
    let new = (next m call).1 in
    let same : new.config ≡ m.config = (sized-next m call).config in
    let before = owned-count m v is low in
    let after : length (slot_at new v).frames ≡ count (has new v) (all_frames m) =
    owned-count new v (lawful-next m call is) (rw same low) ∙ ap (λ config. count (has new v) (range_with_len 0 config.frames)) same in
    let both = count-balance (has m v) (gained m new v) (has new v) (lost m new v) (λ f. balanced (has m v f) (has new v f)) (all_frames m) in
    omega (arith, before, after, both)

-- a call brings the VM no frame, or takes none from it
abbrev GoesOneWay : State → ℕ → State → Type 0
GoesOneWay m v new = ((f : ℕ) → has new v f ≡ true → has m v f ≡ true) ⊎ ((f : ℕ) → has m v f ≡ true → has new v f ≡ true)

-- a frame is in the list of the VM that owns it
pub has-listed : (m : State) (v : ℕ) → IsLawful m → v < slot_count m.config → (f : ℕ) → has m v f ≡ true → is_in (slot_at m v).frames f ≡ true
has-listed m v is low f has =
    let times = once m v is low f ∙ ap one_if has in
    held-times_in (slot_at m v).frames f (omega (arith, times))

listed-has : (m : State) (v : ℕ) → IsLawful m → v < slot_count m.config → (f : ℕ) → is_in (slot_at m v).frames f ≡ true → has m v f ≡ true
listed-has m v is low f listed = by_owner (has m v f) (times_in-held (slot_at m v).frames f listed) (once m v is low f)
  where
    by_owner : (b : Bool) → 0 < times_in (slot_at m v).frames f → times_in (slot_at m v).frames f ≡ one_if b → b ≡ true
    by_owner true some times = refl
    by_owner false some times = absurd (omega (arith, some, times))

-- only frames that the call's names bring come to the VM
brings-none : (m : State) (v : ℕ) (call : Call) (new : State) → IsLawful m → IsLawful new → v < slot_count m.config → v < slot_count new.config → Grows m call new
    → ((f : ℕ) → gains m.config (listed_in m) call (Vm v) f ≡ false) → (f : ℕ) → has new v f ≡ true → has m v f ≡ true
brings-none m v call new is law low low_new grows none f has =
    let grown = grows (Vm v) f (has-listed new v law low_new f has) in
    listed-has m v is low f (sym (or-false (is_in (slot_at m v).frames f)) ∙ ap (λ b. is_in (slot_at m v).frames f || b) (sym (none f)) ∙ grown)

-- a frame that is handed over was the host's
takes-none : (m : State) (w g k v : ℕ) → (frame_at m k).owner ≡ Host → (f : ℕ) → has m v f ≡ true → has (hand m w g k) v f ≡ true
takes-none m w g k v host f has = elim (cases_eq f k) [
  | inl same ↦ let mine = has-owner v (frame_at m f).owner has in let theirs : (frame_at m f).owner ≡ Host = rw same host in absurd cc
  | inr other ↦ ap (λ frame. is_owned_by v frame.owner) (changed-other m k _ f other) ∙ has
]

one-way-effect : (m : State) (v : ℕ) (call : Call) → IsLawful m → IsLawful (effect m call).1 → v < slot_count m.config → v < slot_count (effect m call).1.config → Grows m call (effect m call).1 → refusal m call ≡ None → GoesOneWay m v (effect m call).1
one-way-effect m v (Remap w i k) is law low low_new grows served = inr (takes-none m w (next_gfn m w i) k v (was-host m k (none-of (conditions m (Remap w i k)) served 6)))
one-way-effect m v (Map w c k) is law low low_new grows served = inr (takes-none m w (pending m w c) k v (was-host m k (none-of (conditions m (Map w c k)) served 8)))
one-way-effect m v call is law low low_new grows served = inl (brings-none m v call (effect m call).1 is law low low_new grows (λ f. refl))

one-way-unless : (refused : Option Refusal) (m : State) (v : ℕ) (call : Call) → refusal m call ≡ refused → IsLawful m → IsLawful (unless_refused refused m call).1 → v < slot_count m.config → v < slot_count (unless_refused refused m call).1.config
    → Grows m call (unless_refused refused m call).1 → GoesOneWay m v (unless_refused refused m call).1
one-way-unless None m v call served is law low low_new grows = one-way-effect m v call is law low low_new grows served
one-way-unless (Some r) m v call served is law low low_new grows = inl (λ f has. has)

one-way : (m : State) (v : ℕ) (call : Call) → IsLawful m → IsLawful (next m call).1 → v < slot_count m.config → v < slot_count (next m call).1.config → Grows m call (next m call).1 → GoesOneWay m v (next m call).1
unfolding next
one-way m v call is law low low_new grows = one-way-unless (refusal m call) m v call refl is law low low_new grows

-- if the second implies the first, it never holds without it
none-only : (a b : Bool) → (b ≡ true → a ≡ true) → (not a && b) ≡ false
none-only true b both = refl
none-only false true both = let h = both refl in cc
none-only false false both = refl

none-left : (a b : Bool) → (a ≡ true → b ≡ true) → (a && not b) ≡ false
none-left false b both = refl
none-left true true both = refl
none-left true false both = let h = both refl in cc

pub goes-one-way : (m : State) (v : ℕ) (call : Call) → IsLawful m → v < slot_count m.config
    → (count (gained m (next m call).1 v) (all_frames m) ≡ 0) ⊎ (count (lost m (next m call).1 v) (all_frames m) ≡ 0)
goes-one-way m v call is low =
    let new = (next m call).1 in
    let same : new.config ≡ m.config = (sized-next m call).config in
    elim (one-way m v call is (lawful-next m call is) low (rw same low) (grows-next m call (orderly-is m is))) [
      | inl none ↦ inl (count-none (gained m new v) (all_frames m) (λ i d lt. none-only _ _ (none _)))
      | inr none ↦ inr (count-none (lost m new v) (all_frames m) (λ i d lt. none-left _ _ (none _)))
    ]
