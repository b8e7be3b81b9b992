-- A footprint has only what exists.
use Rattle.std.proofs.Common.{ℕ, zero, suc, ◌≡◌, ◌<◌, ◌≤◌, Bool, true, false, ◌&&◌, nat_lt, nat_eq, eqb-true, List, length, refl, ap, subst, ◌∙◌, arith, inl, inr}
use Rattle.std.specs.Prelude.{eqb, Option, Some, None, IfSome}
use Rattle.std.proofs.lemmas.Bool.{ltb-true, and_parts, eqb-true, or_cases}
use Rattle.kc_types.specs.Configuration.{Configuration, slot_count}
use Rattle.kc_types.specs.declared.call.Call.{Call}
use Rattle.kc_types.specs.declared.call.Call.TheVariants.{Give, Remap, Map, Drop, Clear}
use Rattle.kc_types.specs.declared.owner.Owner.{Owner}
use Rattle.kc_types.specs.declared.owner.Owner.TheVariants.{Core, Free, Vm}
use Rattle.kc_model.specs.State.{State, frame_at}
use Rattle.kc_model.specs.Lawful.{IsLawful, same_owner}
use Rattle.kc_model.specs.Footprints.{call_at, gains, reach}
use Rattle.kc_model.proofs.States.Changes.{exists}
use Rattle.kc_footprints.specs.declared.names.Gain.{Gain}
use Rattle.kc_footprints.specs.declared.names.Gain.TheVariants.{Nothing, SlotTakesFrame, FreeTakesFrame, FreeTakesReach}
use Rattle.kc_footprints.specs.declared.names.Names.{Names}
use Rattle.kc_footprints.specs.Reach.{is_at, names_at, reach_of, gains_by, may_have}

low-same : (n g f : ℕ) → (nat_lt g n && nat_eq g f) ≡ true → f < n
low-same n g f h =
    let parts = and_parts (nat_lt g n) (nat_eq g f) h in
    subst (λ x. x < n) (eqb-true g f parts.1) (ltb-true g n parts.0)

-- the frames that the free list or a slot may gain exist, if those that they may have do
gains-low : (config : Configuration) (held : Owner → ℕ → Bool) → ((v f : ℕ) → held (Vm v) f ≡ true → f < config.frames) → (call : Call) (owner : Owner) (f : ℕ) → gains config held call owner f ≡ true → f < config.frames
gains-low config held low (Give g) Free f h = low-same config.frames g f h
gains-low config held low (Drop v c g) Free f h = low v f (and_parts (nat_lt v (slot_count config)) (held (Vm v) f) h).1
gains-low config held low (Clear v) Free f h = low v f (and_parts (nat_lt v (slot_count config)) (held (Vm v) f) h).1
gains-low config held low (Remap v i g) (Vm w) f h = low-same config.frames g f (and_parts (nat_eq v w) (nat_lt g config.frames && nat_eq g f) h).1
gains-low config held low (Map v c g) (Vm w) f h = low-same config.frames g f (and_parts (nat_eq v w) (nat_lt g config.frames && nat_eq g f) h).1
gains-low config held low call owner f h = cc

pub reach-low : (m : State) (calls : List Call) → IsLawful m → (k : ℕ) (owner : Owner) (f : ℕ) → same_owner Core owner ≡ false → reach m calls k owner f ≡ true → f < m.config.frames
reach-low m calls is zero owner f differs h = rw is.frames at (exists m f (λ core. let no : same_owner (frame_at m f).owner owner ≡ false = ap (λ o. same_owner o owner) core ∙ differs in cc))
reach-low m calls is (suc k) owner f differs h =
    elim (or_cases (reach m calls k owner f) (gains m.config (reach m calls k) (call_at calls k) owner f) h) [
      | inl old ↦ reach-low m calls is k owner f differs old
      | inr new ↦ gains-low m.config (reach m calls k) (λ v f there. reach-low m calls is k (Vm v) f refl there) (call_at calls k) owner f new
    ]

-- ---- the same for the planner's numbers

at_low : (o : Option ℕ) (n f : ℕ) → IfSome o (λ x. x < n) → is_at o f ≡ true → f < n
at_low None n f low h = cc
at_low (Some x) n f low h = subst (λ (y : ℕ). y < n) (eqb-true x f h) low

reach_of_low : (reach : ℕ → ℕ → Bool) (n : ℕ) → ((p f : ℕ) → reach p f ≡ true → f < n) → (o : Option ℕ) (f : ℕ) → reach_of reach o f ≡ true → f < n
reach_of_low reach n low None f h = cc
reach_of_low reach n low (Some p) f h = low p f h

gained_low : (free n : ℕ) (reach : ℕ → ℕ → Bool) → ((p f : ℕ) → reach p f ≡ true → f < n) → (names : Names) → IfSome names.frame (λ f. f < n) → (gain : Gain) (p f : ℕ) → gains_by free reach names gain p f ≡ true → f < n
gained_low free n reach low names frame Nothing p f h = cc
gained_low free n reach low names frame SlotTakesFrame p f h = at_low names.frame n f frame (and_parts (is_at names.slot p) (is_at names.frame f) h).1
gained_low free n reach low names frame FreeTakesFrame p f h = at_low names.frame n f frame (and_parts (names.free && eqb free p) (is_at names.frame f) h).1
gained_low free n reach low names frame FreeTakesReach p f h = reach_of_low reach n low names.slot f (and_parts (names.free && eqb free p) (reach_of reach names.slot f) h).1

pub may_have_low : (free n : ℕ) (start : ℕ → ℕ → Bool) (cs : List Names) → ((p f : ℕ) → start p f ≡ true → f < n) → ((k : ℕ) → k < length cs → IfSome (names_at cs k).frame (λ f. f < n))
    → (k p f : ℕ) → k ≤ length cs → may_have free start cs k p f ≡ true → f < n
may_have_low free n start cs low frames zero p f few h = low p f h
may_have_low free n start cs low frames (suc k) p f few h =
    let before : (q g : ℕ) → may_have free start cs k q g ≡ true → g < n = λ q g there. may_have_low free n start cs low frames k q g (omega arith) there in
    elim (or_cases (may_have free start cs k p f) (gains_by free (may_have free start cs k) (names_at cs k) (names_at cs k).gain p f) h) [
      | inl old ↦ before p f old
      | inr new ↦ gained_low free n (may_have free start cs k) before (names_at cs k) (frames k (omega arith)) (names_at cs k).gain p f new
    ]
