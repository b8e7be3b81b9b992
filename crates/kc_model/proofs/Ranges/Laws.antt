-- Laws of calls on ranges, from those of single calls.
use Rattle.std.proofs.Common.{ℕ, zero, suc, ◌≡◌, ◌≢◌, ◌+◌, Bool, true, false, List, [], ◌∷◌, Option, None, Some, refl, ap, ◌∙◌}
use Rattle.kc_types.specs.declared.call.Call.{Call}
use Rattle.kc_types.specs.declared.call.Call.TheVariants.{HostFault, Remap, Map, GuestRead, Grant, Revoke}
use Rattle.kc_types.specs.declared.refusal.Refusal.{Refusal}
use Rattle.kc_types.specs.Slots.{slot_of}
use Rattle.kc_model.specs.State.{State, Frame, Slot, slot_at, mapped_at, with_slot, no_slot}
use Rattle.kc_model.specs.Refusals.{refusal, next_gfn, pending}
use Rattle.kc_model.specs.Effects.{effect, guest_read, hand}
use Rattle.kc_model.specs.Next.{next, unless_refused, state_after}
use Rattle.kc_model.specs.Lawful.{IsLawful}
use Rattle.kc_model.specs.Passing.{IsLeftAlone}
use Rattle.kc_model.specs.Availability.{takes_page}
use Rattle.kc_model.specs.Blind.{Secret, IsPrivate, grants_secret, names_secret}
use Rattle.kc_model.specs.Resources.{Resources, merged, need, IsWithin}
use Rattle.kc_model.specs.Together.{first_refusal, unless_one_refused, all_or_none, each_call}
use Rattle.kc_model.specs.Lines.{Range, host_faults, remaps, maps, grants, revokes, filled, mapped_from, singles, slot_of_range}
use Rattle.kc_model.proofs.States.Frames.{part-set}
use Rattle.kc_model.proofs.Lawful.Keeps.{lawful-next}
use Rattle.kc_model.proofs.Lawful.LawfulTraces.{orderly-is}
use Rattle.kc_model.proofs.Local.Locality.{local}
use Rattle.kc_model.proofs.Safe.Alone.{alone}
use Rattle.kc_model.proofs.Safe.Available.{keeps}
use Rattle.kc_model.proofs.Blind.Private.{private-next}

-- each single call of a range
abbrev pub Each : (Call → Type 0) → List Call → Type 0
Each Fits [] = Unit {0}
Each Fits (call ∷ calls) = Fits call × Each Fits calls

-- what holds of the single calls of one form
pub record Singles (Fits : Call → Type 0) (r : Range) : Type 0 where
  pub marks : (f n h : ℕ) → r ≡ host_faults f n → Fits (HostFault h)
  pub hands : (v i f n h : ℕ) → r ≡ remaps v i f n → Fits (Remap v i h)
  pub fills : (v c f n h : ℕ) → r ≡ maps v c f n → Fits (Map v c h)
  pub waits : (v c f n h : ℕ) → r ≡ maps v c f n → Fits (GuestRead v c h 0 1)
  pub shares : (v c g n h : ℕ) → r ≡ grants v c g n → Fits (Grant v c h)
  pub unshares : (v c g n h : ℕ) → r ≡ revokes v c g n → Fits (Revoke v c h)

each-of : (Fits : Call → Type 0) (single : ℕ → Call) → ((h : ℕ) → Fits (single h)) → (g n : ℕ) → Each Fits (each_call single g n)
each-of Fits single fits g zero = tt
each-of Fits single fits g (suc n) = (fits g, each-of Fits single fits (g + 1) n)

filled-of : (Fits : Call → Type 0) (v c g f n : ℕ) → ((h : ℕ) → Fits (Map v c h)) → ((h : ℕ) → Fits (GuestRead v c h 0 1)) → Each Fits (filled v c g f n)
filled-of Fits v c g f zero fills waits = tt
filled-of Fits v c g f (suc n) fills waits = (waits g, (fills f, filled-of Fits v c (g + 1) (f + 1) n fills waits))

mapped-of : (Fits : Call → Type 0) (v c g f n : ℕ) → ((h : ℕ) → Fits (Map v c h)) → ((h : ℕ) → Fits (GuestRead v c h 0 1)) → Each Fits (mapped_from v c g f n)
mapped-of Fits v c g f zero fills waits = tt
mapped-of Fits v c g f (suc n) fills waits = (fills f, filled-of Fits v c (g + 1) (f + 1) n fills waits)

each-single : (Fits : Call → Type 0) (m : State) (r : Range) → Singles Fits r → Each Fits (singles m r)
each-single Fits m (host_faults f n) fits = each-of Fits HostFault (λ h. fits.marks f n h refl) f n
each-single Fits m (remaps v i f n) fits = each-of Fits (Remap v i) (λ h. fits.hands v i f n h refl) f n
each-single Fits m (maps v c f n) fits = mapped-of Fits v c (pending m v c) f n (λ h. fits.fills v c f n h refl) (λ h. fits.waits v c f n h refl)
each-single Fits m (grants v c g n) fits = each-of Fits (Grant v c) (λ h. fits.shares v c g n h refl) g n
each-single Fits m (revokes v c g n) fits = each-of Fits (Revoke v c) (λ h. fits.unshares v c g n h refl) g n

-- what each single call keeps, and what then holds of two calls one after another, the call on the range keeps
module _ (Fits : Call → Type 0) (Keeps : State → State → Type 0) (same : (m : State) → Keeps m m) (then : (a b c : State) → Keeps a b → Keeps b c → Keeps a c)
    (one : (m : State) (call : Call) → IsLawful m → Fits call → Keeps m (next m call).1) where
  keeps-calls : (m : State) (calls : List Call) → IsLawful m → Each Fits calls → Keeps m (state_after m calls)
  keeps-calls m [] is fits = same m
  keeps-calls m (call ∷ calls) is fits = then m (next m call).1 (state_after m (call ∷ calls)) (one m call is fits.0) (keeps-calls (next m call).1 calls (lawful-next m call is) fits.1)

  keeps-unless : (refused : Option Refusal) (m : State) (calls : List Call) → IsLawful m → Each Fits calls → Keeps m (unless_one_refused refused m calls).1
  keeps-unless None m calls is fits = keeps-calls m calls is fits
  keeps-unless (Some r) m calls is fits = same m

  pub keeps-range : (m : State) (r : Range) → IsLawful m → Singles Fits r → Keeps m (all_or_none m (singles m r)).1
  keeps-range m r is fits = keeps-unless (first_refusal m (singles m r)) m (singles m r) is (each-single Fits m r fits)

-- a slot that the call does not name is left alone
alone-then : (v : ℕ) (a b c : State) → IsLeftAlone a b v → IsLeftAlone b c v → IsLeftAlone a c v
alone-then v a b c first second = record {
  slot = second.slot ∙ first.slot;
  frames = λ f mine private.
      let here = first.frames f mine private in
      second.frames f (ap (λ (x : Frame). x.owner) here ∙ mine) (ap (λ (x : Frame). x.share) here ∙ private) ∙ here;
}

pub alone-range : (m : State) (r : Range) (v : ℕ) → IsLawful m → (slot_of_range r ≢ Some v) → IsLeftAlone m (all_or_none m (singles m r)).1 v
alone-range m r v is others = keeps-range (λ call. slot_of call ≢ Some v) (λ a b. IsLeftAlone a b v) (λ m. record { slot = refl; frames = λ f mine private. refl }) (alone-then v) (λ m call is ne. alone m call is v ne) m r is (record {
  marks = λ f n h e. λ (none : None ≡ Some v). cc;
  hands = λ w i f n h e. λ hit. others (ap slot_of_range e ∙ hit);
  fills = λ w c f n h e. λ hit. others (ap slot_of_range e ∙ hit);
  waits = λ w c f n h e. λ hit. others (ap slot_of_range e ∙ hit);
  shares = λ w c g n h e. λ hit. others (ap slot_of_range e ∙ hit);
  unshares = λ w c g n h e. λ hit. others (ap slot_of_range e ∙ hit);
})

-- no page is taken from a VM
pub pages-range : (m : State) (r : Range) (v g f : ℕ) → IsLawful m → mapped_at m v g ≡ Some f → mapped_at (all_or_none m (singles m r)).1 v g ≡ Some f
pages-range m r v g f is mapped = keeps-range (λ call. takes_page v g call ≡ false) (λ a b. mapped_at a v g ≡ Some f → mapped_at b v g ≡ Some f) (λ m h. h) (λ a b c first second h. second (first h)) (λ m call is kept h. keeps m call is v g f h kept) m r is (record {
  marks = λ f n h e. refl;
  hands = λ w i f n h e. refl;
  fills = λ w c f n h e. refl;
  waits = λ w c f n h e. refl;
  shares = λ w c g n h e. refl;
  unshares = λ w c g n h e. refl;
}) mapped

-- secrets stay private
pub private-range : (s : Secret) (m : State) (r : Range) → IsLawful m → ((v c g n h : ℕ) → r ≡ grants v c g n → names_secret s v h ≡ false) → IsPrivate s m → IsPrivate s (all_or_none m (singles m r)).1
private-range s m r is open_it private = keeps-range (λ call. grants_secret s call ≡ false) (λ a b. IsPrivate s a → IsPrivate s b) (λ m h. h) (λ a b c first second h. second (first h)) (λ m call is none h. private-next s m call is h none) m r is (record {
  marks = λ f n h e. refl;
  hands = λ w i f n h e. refl;
  fills = λ w c f n h e. refl;
  waits = λ w c f n h e. refl;
  shares = λ v c g n h e. open_it v c g n h e;
  unshares = λ w c g n h e. refl;
}) private

-- slots stay in their phases: so a call on a range registers, measures, ends and reports no slot
abbrev KeepsPhases : State → State → Type 0
KeepsPhases a b = (v : ℕ) → (slot_at b v).phase ≡ (slot_at a v).phase

abbrev is_single : Call → Bool
is_single (HostFault f) = true
is_single (Remap v i f) = true
is_single (Map v c f) = true
is_single (GuestRead v c g off len) = true
is_single (Grant v c g) = true
is_single (Revoke v c g) = true
is_single _ = false

all-single : (r : Range) → Singles (λ call. is_single call ≡ true) r
all-single r = record {
  marks = λ f n h e. refl;
  hands = λ w i f n h e. refl;
  fills = λ w c f n h e. refl;
  waits = λ w c f n h e. refl;
  shares = λ v c g n h e. refl;
  unshares = λ w c g n h e. refl;
}

phase-kept : (m : State) (w : ℕ) (slot : Slot) (v : ℕ) → slot.phase ≡ (slot_at m w).phase → (slot_at (with_slot m w slot) v).phase ≡ (slot_at m v).phase
phase-kept m w slot v same = part-set (λ (s : Slot). s.phase) m.slots w slot no_slot same v

waits-phase : (m : State) (w c g off len : ℕ) (at : Option ℕ) → KeepsPhases m (guest_read m w c g off len at).1
waits-phase m w c g off len None v = phase-kept m w _ v refl
waits-phase m w c g off len (Some f) v = phase-kept m w _ v refl

phase-effect : (m : State) (call : Call) → is_single call ≡ true → KeepsPhases m (effect m call).1
phase-effect m (HostFault f) single v = refl
phase-effect m (Remap w i f) single v = phase-kept (hand m w (next_gfn m w i) f) w _ v refl ∙ phase-kept m w _ v refl
phase-effect m (Map w c f) single v = phase-kept (hand m w (pending m w c) f) w _ v refl ∙ phase-kept m w _ v refl
phase-effect m (GuestRead w c g off len) single v = waits-phase m w c g off len (mapped_at m w g) v
phase-effect m (Grant w c g) single v = refl
phase-effect m (Revoke w c g) single v = refl
phase-effect m _ single v = cc

phase-unless : (refused : Option Refusal) (m : State) (call : Call) → is_single call ≡ true → KeepsPhases m (unless_refused refused m call).1
phase-unless None m call single = phase-effect m call single
phase-unless (Some r) m call single = λ v. refl

phase-next : (m : State) (call : Call) → is_single call ≡ true → KeepsPhases m (next m call).1
unfolding next
phase-next m call single = phase-unless (refusal m call) m call single

pub phases-range : (m : State) (r : Range) → IsLawful m → KeepsPhases m (all_or_none m (singles m r)).1
phases-range m r is = keeps-range (λ call. is_single call ≡ true) KeepsPhases (λ m v. refl) (λ a b c first second v. second v ∙ first v) (λ m call is single. phase-next m call single) m r is (all-single r)

-- locality: a list of calls depends only on what they need, one after another
abbrev pub NeedWithin : Resources → State → List Call → Type 0
NeedWithin here m [] = Unit {0}
NeedWithin here m (call ∷ calls) = IsWithin (need m call) here × NeedWithin here (next m call).1 calls

local-calls : (here : Resources) (m rest : State) (calls : List Call) → IsLawful m → NeedWithin here m calls → state_after (merged here m rest) calls ≡ merged here (state_after m calls) rest
local-calls here m rest [] is within = refl
local-calls here m rest (call ∷ calls) is within =
    ap (λ o. state_after o.1 calls) (local here m rest call (orderly-is m is) within.0)
    ∙ local-calls here (next m call).1 rest calls (lawful-next m call is) within.1
