-- A core keeps its parts together, and calls find what they need in them.
use Rattle.std.proofs.Common.{ℕ, ◌≡◌, ◌<◌, Bool, true, false, ◌&&◌, ◌||◌, nat_lt, nat_eq, Option, Some, None, is_some, Result, Ok, Err, OnOk, OnErr, refl, sym, ap, ◌∙◌}
use Rattle.std.proofs.lemmas.Bool.{ltb-true, eqb-true, and_parts}
use Rattle.kc_types.specs.Configuration.{Configuration, IsConfiguration, slot_count}
use Rattle.kc_types.specs.declared.call.Call.{Call}
use Rattle.kc_types.specs.declared.owner.Owner.{Owner}
use Rattle.kc_types.specs.declared.owner.Owner.TheVariants.{Core, Free, Vm}
use Rattle.kc_types.specs.declared.resource.Resource.{Resource}
use Rattle.kc_types.specs.declared.resource.Resource.TheVariants as resource
use Rattle.kc_types.specs.Slots.{slot_of}
use Rattle.kc_model.specs.State.{State, frame_at}
use Rattle.kc_model.specs.Lawful.{IsLawful, same_owner}
use Rattle.kc_model.specs.Next.{next}
use Rattle.kc_model.specs.Resources.{need, names_frame, uses_free, of_slot, exists_slot, listed_in, is_in}
use Rattle.kc_model.proofs.Lawful.AtBoot.{lawful-boot}
use Rattle.kc_model.proofs.Lawful.Keeps.{lawful-next}
use Rattle.kc_model.proofs.Local.Orderly.{listed-owned}
use Rattle.kc_model.proofs.States.Changes.{exists}
use Rattle.kc_model.proofs.Lawful.LawfulTraces.{orderly-is}
use Rattle.kc_parts.specs.Parts.{Held, page_at, vm_at}
use Rattle.kc_parts.specs.States.{state_of, here_of, IsLinked}
use Rattle.kc_parts.specs.Booting.{IsBooted}
use Rattle.kc_core.specs.Applying.{IsAble, KeepsPlaces}
use Rattle.kc_core.specs.KCore.{IsCore}

not_core : (owner other : Owner) → same_owner owner other ≡ true → (same_owner Core other ≡ false) → owner ≡ Core → ⊥
not_core owner other same differs core = let no : same_owner owner other ≡ false = ap (λ o. same_owner o other) core ∙ differs in cc

-- a listed frame exists
listed-low : (m : State) → IsLawful m → (owner : Owner) (f : ℕ) → same_owner Core owner ≡ false → listed_in m owner f ≡ true → f < m.config.frames
listed-low m is owner f differs listed = rw is.frames at (exists m f (not_core (frame_at m f).owner owner (listed-owned m is owner f listed) differs))

module _ (config : Configuration) (h : Held) (is : IsCore config h) where
  m : State
  m = state_of config h

  frame-here : (call : Call) (f : ℕ) → (a b c d : Bool) → nat_lt f config.frames ≡ b → of_slot config (listed_in (state_of config h)) (slot_of call) f ≡ c → (d ≡ true → is_in (state_of config h).free f ≡ true)
      → ((a && b) || c || d) ≡ true → is_some (page_at h f) ≡ true
  frame-here call f true true c d low e e' some = is.whole.frames f (ltb-true f config.frames low)
  frame-here call f a b true d low of e' some = is.whole.frames f (by_slot (slot_of call) of)
    where
      by_slot : (named : Option ℕ) → of_slot config (listed_in (state_of config h)) named f ≡ true → f < config.frames
      by_slot None of = cc
      by_slot (Some v) of = listed-low (state_of config h) is.lawful (Vm v) f refl (and_parts (nat_lt v (slot_count config)) _ of).1
  frame-here call f a b c true low of free some = is.whole.frames f (listed-low (state_of config h) is.lawful Free f refl (free refl))
  frame-here call f true false false false low of free some = cc
  frame-here call f false b false false low of free some = cc

  slot-here : (named : Option ℕ) (w : ℕ) → exists_slot config named w ≡ true → is_some (vm_at h w) ≡ true
  slot-here None w there = cc
  slot-here (Some v) w there = by_tests (nat_lt v (slot_count config)) (nat_eq v w) refl refl there
    where
      by_tests : (low same : Bool) → nat_lt v (slot_count config) ≡ low → nat_eq v w ≡ same → (low && same) ≡ true → is_some (vm_at h w) ≡ true
      by_tests true true low same both = is.whole.vms w (rw (← eqb-true v w same) (ltb-true v (slot_count config) low))
      by_tests true false low same both = cc
      by_tests false same' low same both = cc

  pub able : (call : Call) → IsAble config h call
  able call = record {
    orderly = orderly-is (state_of config h) is.lawful;
    linked = is.linked;
    here = here;
  }
    where
      here : (r : Resource) → need (state_of config h) call r ≡ true → here_of h r ≡ true
      here (resource.Frame f) needed = frame-here call f (names_frame call f) (nat_lt f config.frames) (of_slot config (listed_in (state_of config h)) (slot_of call) f) (uses_free call && is_in (state_of config h).free f) refl refl
          (λ used. (and_parts (uses_free call) (is_in (state_of config h).free f) used).1) needed
      here (resource.Vm w) needed = slot-here (slot_of call) w needed
      here resource.Free needed = is.whole.free

-- a core stays a core if everything that was here stays, and the state is lawful
pub core-kept : (config : Configuration) (old new : Held) → IsCore config old → IsLawful (state_of config new) → IsLinked config new → KeepsPlaces old new → IsCore config new
core-kept config old new is lawful linked places = record {
  lawful = lawful;
  linked = linked;
  whole = record {
    numbers = places.numbers ∙ is.whole.numbers;
    frames = λ f low. places.here (resource.Frame f) ∙ is.whole.frames f low;
    vms = λ v low. places.here (resource.Vm v) ∙ is.whole.vms v low;
    past = λ v some. is.whole.past v (sym (places.here (resource.Vm v)) ∙ some);
    free = places.here resource.Free ∙ is.whole.free;
  };
}

-- a call that is answered, or that runs out of memory, leaves the state lawful
pub lawful-left : {X E : Type 0} (answer : Result X E) (config : Configuration) (old new : Held) (call : Call) → IsLawful (state_of config old)
    → OnOk answer (state_of config new ≡ (next (state_of config old) call).1) → OnErr answer (new ≡ old) → IsLawful (state_of config new)
lawful-left (Ok reply) config old new call is state same = rw state (lawful-next _ call is)
lawful-left (Err refused) config old new call is state same = rw same is

-- the parts of the boot state are a core
pub core-booted : (config : Configuration) (is_reserved : Bool) (parts : Held) → IsBooted config is_reserved parts → IsConfiguration config → IsCore config parts
core-booted config is_reserved parts is valid = record { lawful = rw is.state (lawful-boot config valid); linked = is.linked; whole = is.whole }
