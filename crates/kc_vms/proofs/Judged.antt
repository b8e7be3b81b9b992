-- Whether a slot may be as described.
use Rattle.std.proofs.Common.{ℕ, zero, suc, ◌≡◌, ◌<◌, Bool, false, inl, inr, List, [], ◌∷◌, length, get_or, take, refl, sym, subst, ◌∙◌, arith, All}
use Rattle.std.specs.Prelude.{◌↔◌}
use Rattle.std.proofs.lemmas.List.{ext_get_or, get_or_past, get_or_default}
use Rattle.std.proofs.lemmas.Bool.{or_parts, cases_lt}
use Rattle.std.proofs.lemmas.Grind.{common_steps}
use Rattle.std.specs.List.{list_any}
use Rattle.kc_model.specs.State.{Vcpu, Image, absent_vcpu, no_vcpus}
use Rattle.kc_model.specs.Refusals.{overlaps}
use Rattle.kc_model.specs.Lawful.{Apart, IsLawfulVcpu}
use Rattle.kc_types.specs.Configuration.{vcpus_of}
use Rattle.kc_types.specs.declared.version.Version.{Version}
use Rattle.kc_types.specs.declared.slot.Phase.{Phase}
use Rattle.kc_model.proofs.States.Slots.{length-no_vcpus, at-no_vcpus, waits-not}

pub all-absent : (version : Version) (vcpus : List Vcpu) → length vcpus ≡ vcpus_of version → All (λ (vcpu : Vcpu). vcpu ≡ absent_vcpu) vcpus → vcpus ≡ no_vcpus version
all-absent version vcpus count all = ext_get_or absent_vcpu vcpus (no_vcpus version) (count ∙ sym (length-no_vcpus version)) (λ i low. all i absent_vcpu low ∙ sym (at-no_vcpus version i))

-- each virtual processor, and the absent one past the last
pub each-vcpu : (version : Version) (phase : Phase) (vcpus : List Vcpu) → All (IsLawfulVcpu version phase) vcpus ↔ ((c : ℕ) → IsLawfulVcpu version phase (get_or vcpus c absent_vcpu))
each-vcpu version phase vcpus = (
  λ all c. elim (cases_lt c (length vcpus)) [
    | inl low ↦ all c absent_vcpu low
    | inr past ↦ subst (IsLawfulVcpu version phase) (sym (get_or_past vcpus c absent_vcpu past)) (waits-not version phase absent_vcpu refl)
  ],
  λ each k d low. subst (IsLawfulVcpu version phase) (sym (get_or_default vcpus k d absent_vcpu low)) (each k),
)

overlaps-turned : (a b : Image) → overlaps a.base a.len b ≡ overlaps b.base b.len a
overlaps-turned a b = grind (arith, common_steps)

-- no image overlaps one before it
pub apart-before : (images : List Image) (i : ℕ) (d : Image) → i < length images → Apart images → list_any (overlaps (get_or images i d).base (get_or images i d).len) (take i images) ≡ false
apart-before [] i d low apart = absurd (omega (arith, low))
apart-before (image ∷ images) zero d low apart = refl
apart-before (image ∷ images) (suc i) d low apart =
    let here = get_or images i d in
    let first : overlaps here.base here.len image ≡ false = overlaps-turned here image ∙ none-at (overlaps image.base image.len) images i d (omega (arith, low)) apart.0 in
    rw first (apart-before images i d (omega (arith, low)) apart.1)
  where
    none-at : (test : Image → Bool) (images : List Image) (i : ℕ) (d : Image) → i < length images → list_any test images ≡ false → test (get_or images i d) ≡ false
    none-at test [] i d low none = absurd (omega (arith, low))
    none-at test (image ∷ images) zero d low none = (or_parts (test image) (list_any test images) none).0
    none-at test (image ∷ images) (suc i) d low none = none-at test images i d (omega (arith, low)) (or_parts (test image) (list_any test images) none).1
