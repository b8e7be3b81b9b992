-- What a call needs lies in its footprint, in every trace from a lawful state.
use Rattle.std.proofs.Common.{ℕ, zero, suc, ◌≡◌, ◌<◌, ◌≤◌, Bool, true, false, ◌&&◌, ◌||◌, Option, Some, None, nat_lt, List, length, refl, subst, ◌∙◌, arith}
use Rattle.kc_types.specs.Configuration.{Configuration, slot_count}
use Rattle.kc_types.specs.declared.call.Call.{Call}
use Rattle.kc_types.specs.declared.call.Call.TheVariants.{Drop, Clear}
use Rattle.kc_types.specs.declared.owner.Owner.{Owner}
use Rattle.kc_types.specs.declared.owner.Owner.TheVariants.{Free, Vm}
use Rattle.kc_model.specs.State.{State}
use Rattle.kc_model.specs.Lawful.{IsLawful}
use Rattle.kc_model.specs.Resources.{Resource, names_frame, uses_free, of_slot, listed_in, touched, need, IsWithin}
use Rattle.kc_model.specs.Footprints.{call_at, state_at, gains, reach, footprint, part_at}
use Rattle.kc_model.specs.Local.{IsOrderly}
use Rattle.kc_model.proofs.States.Sizes.{sized-next}
use Rattle.kc_model.proofs.Footprints.Grows.{grows-next}
use Rattle.kc_model.proofs.Local.Orderly.{listed-owned}
use Rattle.kc_model.proofs.Local.Agreeing.{keeps-others}
use Rattle.kc_types.specs.declared.resource.Resource.TheVariants as resource
use Rattle.kc_types.specs.Slots.{slot_of}

abbrev pub IsHeldWithin : (Owner → ℕ → Bool) → (Owner → ℕ → Bool) → Type 0
IsHeldWithin held wider = (owner : Owner) (f : ℕ) → held owner f ≡ true → wider owner f ≡ true

and-second : (a b c : Bool) → (b ≡ true → c ≡ true) → (a && b) ≡ true → (a && c) ≡ true
and-second true b c le h = le h
and-second false b c le h = h

or-both : (a b c d : Bool) → (a ≡ true → c ≡ true) → (b ≡ true → d ≡ true) → (a || b) ≡ true → (c || d) ≡ true
or-both true b true d first second h = refl
or-both true b false d first second h = let c = first refl in cc
or-both false b true d first second h = refl
or-both false b false d first second h = second h

gains-wider : (config : Configuration) (held wider : Owner → ℕ → Bool) → IsHeldWithin held wider → (call : Call) (owner : Owner) (f : ℕ) → gains config held call owner f ≡ true → gains config wider call owner f ≡ true
gains-wider config held wider le (Drop v c g) Free f h = and-second (nat_lt v (slot_count config)) (held (Vm v) f) (wider (Vm v) f) (le (Vm v) f) h
gains-wider config held wider le (Clear v) Free f h = and-second (nat_lt v (slot_count config)) (held (Vm v) f) (wider (Vm v) f) (le (Vm v) f) h
gains-wider config held wider le call owner f h = h

of_slot-wider : (config : Configuration) (held wider : Owner → ℕ → Bool) → IsHeldWithin held wider → (named : Option ℕ) (f : ℕ) → of_slot config held named f ≡ true → of_slot config wider named f ≡ true
of_slot-wider config held wider le None f h = h
of_slot-wider config held wider le (Some v) f h = and-second (nat_lt v (slot_count config)) (held (Vm v) f) (wider (Vm v) f) (le (Vm v) f) h

-- the more frames the owners may have, the more a call touches
pub touched-wider : (config : Configuration) (held wider : Owner → ℕ → Bool) → IsHeldWithin held wider → (call : Call) → IsWithin (touched config held call) (touched config wider call)
touched-wider config held wider le call (resource.Frame f) h =
    or-both ((names_frame call f && nat_lt f config.frames) || of_slot config held (slot_of call) f) (uses_free call && held Free f) ((names_frame call f && nat_lt f config.frames) || of_slot config wider (slot_of call) f) (uses_free call && wider Free f)
    (or-both (names_frame call f && nat_lt f config.frames) (of_slot config held (slot_of call) f) (names_frame call f && nat_lt f config.frames) (of_slot config wider (slot_of call) f)
    (λ first. first)
    (of_slot-wider config held wider le (slot_of call) f))
    (and-second (uses_free call) (held Free f) (wider Free f) (le Free f))
    h
touched-wider config held wider le call (resource.Vm v) h = h
touched-wider config held wider le call resource.Free h = h

pub not-held : (a b : Bool) → (a ≡ true → b ≡ true) → b ≡ false → a ≡ false
not-held true b le no_b = let is = le refl in cc
not-held false b le no_b = refl

-- no call changes the configuration
pub config-at : (m : State) (calls : List Call) (k : ℕ) → (state_at m calls k).config ≡ m.config
config-at m calls zero = refl
config-at m calls (suc k) = (sized-next (state_at m calls k) (call_at calls k)).config ∙ config-at m calls k

module _ (m : State) (calls : List Call) (start : IsLawful m) (throughout : (k : ℕ) → k < length calls → IsOrderly (state_at m calls k)) where
  -- each list stays within the reach of its owner
  pub listed-reached : (k : ℕ) → k ≤ length calls → IsHeldWithin (listed_in (state_at m calls k)) (reach m calls k)
  listed-reached zero le owner f h = listed-owned m start owner f h
  listed-reached (suc k) le owner f h =
      let before : IsHeldWithin (listed_in (state_at m calls k)) (reach m calls k) = listed-reached k (omega arith) in
      or-both (listed_in (state_at m calls k) owner f) (gains (state_at m calls k).config (listed_in (state_at m calls k)) (call_at calls k) owner f) (reach m calls k owner f) (gains m.config (reach m calls k) (call_at calls k) owner f)
      (before owner f)
      (λ got. gains-wider m.config (listed_in (state_at m calls k)) (reach m calls k) before (call_at calls k) owner f
      (subst (λ config. gains config (listed_in (state_at m calls k)) (call_at calls k) owner f ≡ true) (config-at m calls k) got))
      (grows-next (state_at m calls k) (call_at calls k) (throughout k (omega arith)) owner f h)

  -- what a call needs lies in its footprint
  pub need-within : (k : ℕ) → k < length calls → IsWithin (need (state_at m calls k) (call_at calls k)) (footprint m calls k)
  need-within k lt r h =
      touched-wider m.config (listed_in (state_at m calls k)) (reach m calls k) (listed-reached k (omega arith)) (call_at calls k) r
      (subst (λ config. touched config (listed_in (state_at m calls k)) (call_at calls k) r ≡ true) (config-at m calls k) h)

  -- a call leaves everything outside its footprint as it was
  pub footprint-keeps : (k : ℕ) → k < length calls → (r : Resource) → footprint m calls k r ≡ false → part_at m calls (suc k) r ≡ part_at m calls k r
  footprint-keeps k lt r outside =
      keeps-others (state_at m calls k) (call_at calls k) (throughout k lt) r
      (not-held (need (state_at m calls k) (call_at calls k) r) (footprint m calls k r) (need-within k lt r) outside)
