-- Through calls without a change of a frame, its custody stays.
use Rattle.std.proofs.Common.{ℕ, zero, suc, ◌≡◌, ◌<◌, ◌≤◌, ◌+◌, ◌-◌, inl, inr, List, length, refl, sym, ap, ◌∙◌, arith}
use Rattle.std.proofs.lemmas.Bool.{cases_lt}
use Rattle.std.proofs.lemmas.List.{get_or_past}
use Rattle.kc_types.specs.declared.call.Call.{Call}
use Rattle.kc_types.specs.declared.owner.Owner.TheVariants.{Core}
use Rattle.kc_model.specs.State.{State, untouched}
use Rattle.kc_model.specs.Lawful.{IsLawful}
use Rattle.kc_model.specs.Footprints.{state_at}
use Rattle.kc_model.specs.Custody.{custody_at, custody_of}
use Rattle.kc_model.specs.CustodyLaws.{IsStretch, HasNoChange, StaysInCustody}
use Rattle.kc_model.proofs.Lawful.LawfulTraces.{lawful-at}
use Rattle.kc_model.proofs.Footprints.Reaches.{config-at}
use Rattle.kc_model.proofs.Custody.Same.{is-same}
use Rattle.kc_model.proofs.Custody.Traced.{exact}

-- there is no frame past the last
past : (m : State) (calls : List Call) (f k : ℕ) → IsLawful m → k ≤ length calls → m.config.frames ≤ f → custody_at (state_at m calls k) f ≡ custody_of (untouched Core)
past m calls f k is le beyond =
    let there = lawful-at m calls is k le in
    let same : (state_at m calls k).config ≡ m.config = config-at m calls k in
    ap custody_of (get_or_past (state_at m calls k).frames f (untouched Core) (rw (there.frames, same) beyond))

pub one-call : (m : State) (calls : List Call) (i j f : ℕ) → IsLawful m → IsStretch calls i j → HasNoChange m calls i j f → (k : ℕ) → i ≤ k → k < j → custody_at (state_at m calls (k + 1)) f ≡ custody_at (state_at m calls k) f
one-call m calls i j f is stretch none k from below =
    let ends = stretch.ends in
    elim (cases_lt f m.config.frames) [
      | inl low ↦ is-same (state_at m calls k) (state_at m calls (k + 1)) f (sym (exact m calls k f (omega (arith, below, ends)) low) ∙ none k from below)
      | inr beyond ↦ past m calls f (k + 1) is (omega (arith, below, ends)) beyond ∙ sym (past m calls f k is (omega (arith, below, ends)) beyond)
    ]

-- this many calls after the first
after-some : (m : State) (calls : List Call) (i j f : ℕ) → IsLawful m → IsStretch calls i j → HasNoChange m calls i j f → (n : ℕ) → i + n ≤ j → custody_at (state_at m calls (i + n)) f ≡ custody_at (state_at m calls i) f
after-some m calls i j f is stretch none zero le = let here : i + 0 ≡ i = omega arith in rw here refl
after-some m calls i j f is stretch none (suc n) le =
    let there : i + suc n ≡ (i + n) + 1 = omega arith in
    rw there (one-call m calls i j f is stretch none (i + n) (omega arith) (omega (arith, le)) ∙ after-some m calls i j f is stretch none n (omega (arith, le)))

pub still : (m : State) (calls : List Call) → IsLawful m → StaysInCustody m calls
still m calls is i j f stretch none k from to =
    let there : i + (k - i) ≡ k = omega (arith, from) in
    ap (λ n. custody_at (state_at m calls n) f) (sym there) ∙ after-some m calls i j f is stretch none (k - i) (omega (arith, from, to))
