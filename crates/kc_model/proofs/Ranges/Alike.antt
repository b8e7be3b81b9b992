-- A line does the same to two states that differ only in bytes that do not count.
use Rattle.std.proofs.Common.{ℕ, zero, suc, ◌≡◌, ◌+◌, true, List, [], ◌∷◌, Option, None, Some, refl, sym, ap, ap₂, subst, ◌∙◌}
use Rattle.kc_types.specs.declared.call.Call.{Call}
use Rattle.kc_types.specs.declared.call.Call.TheVariants.{HostFault, Remap, Grant, Revoke}
use Rattle.kc_types.specs.declared.refusal.Refusal.{Refusal}
use Rattle.kc_model.specs.State.{State, Slot}
use Rattle.kc_model.specs.Refusals.{refusal, or_else, pending}
use Rattle.kc_model.specs.Next.{next, state_after}
use Rattle.kc_model.specs.Redaction.{keeps_images}
use Rattle.kc_model.specs.Together.{first_refusal, unless_one_refused, all_or_none, each_call}
use Rattle.kc_model.specs.Lines.{Range, host_faults, remaps, maps, grants, revokes, singles, filled, mapped_from}
use Rattle.kc_model.specs.Lawful.{IsLawful}
use Rattle.kc_model.proofs.Lawful.Keeps.{lawful-next}
use Rattle.kc_model.proofs.Views.Alike.{View, Alike}
use Rattle.kc_model.proofs.Views.Steps.{IsView, bytes_of, MayWrite, step, refusal-same}
use Rattle.kc_model.proofs.Views.Calls.{own-bytes}

-- calls that write no bytes, and hand over only frames that are kept
abbrev pub ArePlain : View → List Call → Type 0
ArePlain view [] = Unit {0}
ArePlain view (call ∷ calls) = (bytes_of call ≡ []) × (keeps_images view.kept call ≡ true) × ArePlain view calls

may-itself : (view : View) (m : State) (call : Call) → MayWrite view m call (bytes_of call)
may-itself view m call = record { number = refl; same = λ served f at counts. refl }

-- all of them on two states
record AreSteps (view : View) (m n : State) (calls : List Call) : Type 0 where
  refusals : first_refusal n calls ≡ first_refusal m calls
  states : Alike view (state_after m calls) (state_after n calls)

steps : (view : View) (m n : State) (calls : List Call) → IsView view → IsLawful m → IsLawful n → Alike view m n → ArePlain view calls → AreSteps view m n calls
steps view m n [] is_view is other_is alike plain = record { refusals = refl; states = alike }
steps view m n (call ∷ calls) is_view is other_is alike plain =
    let own = own-bytes call in
    let first : Alike view (next m call).1 (next n call).1 = subst (λ (x : Call). Alike view (next m call).1 (next n x).1) own (step view m n call (bytes_of call) is_view is other_is alike (may-itself view m call) plain.1).states in
    let here : refusal n call ≡ refusal m call = sym (ap (refusal n) own) ∙ refusal-same view m n call (bytes_of call) alike refl in
    let later = steps view (next m call).1 (next n call).1 calls is_view (lawful-next m call is) (lawful-next n call other_is) first plain.2 in
    record {
      refusals = ap₂ or_else here later.refusals;
      states = later.states;
    }

by-refusal : (view : View) (r : Option Refusal) (m n : State) (calls : List Call) → Alike view m n → Alike view (state_after m calls) (state_after n calls) → Alike view (unless_one_refused r m calls).1 (unless_one_refused r n calls).1
by-refusal view None m n calls before after = after
by-refusal view (Some r) m n calls before after = before

reply-by : (r : Option Refusal) (m n : State) (calls : List Call) → (unless_one_refused r n calls).0 ≡ (unless_one_refused r m calls).0
reply-by None m n calls = refl
reply-by (Some r) m n calls = refl

pub together-alike : (view : View) (m n : State) (calls : List Call) → IsView view → IsLawful m → IsLawful n → Alike view m n → ArePlain view calls
    → Alike view (all_or_none m calls).1 (all_or_none n calls).1 × ((all_or_none n calls).0 ≡ (all_or_none m calls).0)
together-alike view m n calls is_view is other_is alike plain =
    let both = steps view m n calls is_view is other_is alike plain in (
      subst (λ r. Alike view (unless_one_refused (first_refusal m calls) m calls).1 (unless_one_refused r n calls).1) (sym both.refusals) (by-refusal view (first_refusal m calls) m n calls alike both.states),
      ap (λ r. (unless_one_refused r n calls).0) both.refusals ∙ reply-by (first_refusal m calls) m n calls,
    )

-- the calls of ranges are such calls

-- each frame of a range that becomes an image's is kept
abbrev pub KeepsRange : View → Range → Type 0
KeepsRange view (remaps v i f n) = (k : ℕ) → view.kept k ≡ true
KeepsRange view _ = Unit {0}

plain-each : (view : View) (single : ℕ → Call) → ((h : ℕ) → (bytes_of (single h) ≡ []) × (keeps_images view.kept (single h) ≡ true)) → (g n : ℕ) → ArePlain view (each_call single g n)
plain-each view single plain g zero = tt
plain-each view single plain g (suc n) = let here = plain g in (here.0, here.1, plain-each view single plain (g + 1) n)

plain-filled : (view : View) (v c g f n : ℕ) → ArePlain view (filled v c g f n)
plain-filled view v c g f zero = tt
plain-filled view v c g f (suc n) = (refl, refl, (refl, refl, plain-filled view v c (g + 1) (f + 1) n))

plain-mapped : (view : View) (v c g f n : ℕ) → ArePlain view (mapped_from v c g f n)
plain-mapped view v c g f zero = tt
plain-mapped view v c g f (suc n) = (refl, refl, plain-filled view v c (g + 1) (f + 1) n)

plain-range : (view : View) (m : State) (r : Range) → KeepsRange view r → ArePlain view (singles m r)
plain-range view m (host_faults f n) keeps = plain-each view HostFault (λ h. (refl, refl)) f n
plain-range view m (remaps v i f n) keeps = plain-each view (Remap v i) (λ h. (refl, keeps h)) f n
plain-range view m (maps v c f n) keeps = plain-mapped view v c (pending m v c) f n
plain-range view m (grants v c g n) keeps = plain-each view (Grant v c) (λ h. (refl, refl)) g n
plain-range view m (revokes v c g n) keeps = plain-each view (Revoke v c) (λ h. (refl, refl)) g n

singles-alike : (view : View) (m n : State) (r : Range) → Alike view m n → singles n r ≡ singles m r
singles-alike view m n (host_faults f k) alike = refl
singles-alike view m n (remaps v i f k) alike = refl
singles-alike view m n (maps v c f k) alike = ap (λ (slots : List Slot). mapped_from v c (pending (record m { slots = slots }) v c) f k) alike.slots
singles-alike view m n (grants v c g k) alike = refl
singles-alike view m n (revokes v c g k) alike = refl

-- so blindness, redaction, leaving out and blanking have no case for a call on a range
pub range-alike : (view : View) (m n : State) (r : Range) → IsView view → IsLawful m → IsLawful n → Alike view m n → KeepsRange view r
    → Alike view (all_or_none m (singles m r)).1 (all_or_none n (singles n r)).1 × ((all_or_none n (singles n r)).0 ≡ (all_or_none m (singles m r)).0)
range-alike view m n r is_view is other_is alike keeps =
    subst (λ calls. Alike view (all_or_none m (singles m r)).1 (all_or_none n calls).1 × ((all_or_none n calls).0 ≡ (all_or_none m (singles m r)).0)) (sym (singles-alike view m n r alike))
    (together-alike view m n (singles m r) is_view is other_is alike (plain-range view m r keeps))
