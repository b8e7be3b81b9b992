-- What holds of a slot alone, change by change.
use Rattle.std.proofs.Common.{ℕ, zero, suc, ◌≡◌, ◌<◌, ◌≤◌, ◌+◌, inl, inr, Bool, true, false, ◌&&◌, ◌||◌, nat_eq, nat_le, nat_lt, None, List, [], ◌∷◌, ◌++◌, length, get_or, set, replicate, refl, sym, ap, ◌∙◌, arith, length-set, length-append, get_or-set_same, get_or-set_other, All}
use Rattle.std.proofs.lemmas.Bool.{cases_eq, cases_lt, cases_Bool, or_parts}
use Rattle.std.proofs.lemmas.Grind.{common_steps}
use Rattle.std.proofs.lemmas.List.Elements.{All-append, All-nil}
use Rattle.std.proofs.lemmas.List.Folds.{list_any-append, list_any_at}
use Rattle.std.proofs.lemmas.List.{get_or_past, length-replicate}
use Rattle.std.proofs.Math.Bool.{or_assoc, or-false}
use Rattle.std.specs.List.{list_any}
use Rattle.std.specs.Ordering.{nat_cmp}
use Rattle.std.specs.FinMap as map
use Rattle.kc_types.specs.Configuration.{Configuration, slot_count, vcpus_of, most_images}
use Rattle.kc_types.specs.declared.version.Version.{Version}
use Rattle.kc_types.specs.declared.slot.Phase.{Phase}
use Rattle.kc_types.specs.declared.slot.Phase.TheVariants.{Empty, Booting}
use Rattle.kc_model.specs.State.{State, Slot, Vcpu, Image, absent_vcpu, no_vcpus, no_slot, empty_slot, slot_at, with_vcpu}
use Rattle.kc_model.specs.Refusals.{pages_of, overlaps}
use Rattle.kc_model.specs.Lawful.{IsLawfulSlot, IsLawfulVcpu, IsLawfulImage, Apart, holds}

-- a list of one value
pub get_or-same : {X : Type 0} (n : ℕ) (x : X) (i : ℕ) → get_or (replicate n x) i x ≡ x
get_or-same zero x i = refl
get_or-same (suc n) x zero = refl
get_or-same (suc n) x (suc i) = get_or-same n x i

pub length-no_vcpus : (version : Version) → length (no_vcpus version) ≡ vcpus_of version
unfolding no_vcpus
length-no_vcpus version = length-replicate (vcpus_of version) absent_vcpu

pub at-no_vcpus : (version : Version) (c : ℕ) → get_or (no_vcpus version) c absent_vcpu ≡ absent_vcpu
unfolding no_vcpus
at-no_vcpus version c = get_or-same (vcpus_of version) absent_vcpu c

-- a virtual processor that waits for nothing
pub waits-not : (version : Version) (phase : Phase) (vcpu : Vcpu) → vcpu.fault ≡ None → IsLawfulVcpu version phase vcpu
waits-not version phase vcpu none = record {
  registered = λ g h. cc;
  active = λ g h. cc;
  gfn = λ g h. cc;
}

-- a slot with nothing in it, in a phase
pub fresh_slot : Version → Phase → Slot
fresh_slot version phase = record (empty_slot version) { phase = phase }

lawful-fresh : (config : Configuration) (phase : Phase) → (phase ≡ Empty → fresh_slot config.version phase ≡ empty_slot config.version) → IsLawfulSlot config (fresh_slot config.version phase)
unfolding fresh_slot
lawful-fresh config phase empty = record {
  vcpus = length-no_vcpus config.version;
  each_vcpu = λ c. rw (at-no_vcpus config.version) (waits-not config.version phase absent_vcpu refl);
  few_images = omega arith;
  each_image = All-nil (IsLawfulImage config.version);
  apart = tt;
  few_leaves = omega arith;
  leaves_once = λ root. omega arith;
  each_leaf = All-nil _;
  rooted = λ g f h. let none = map.get-empty {X = ℕ} nat_cmp g in cc;
  booting = λ h g. rw map.get-empty refl;
  empty = empty;
}

pub lawful-empty_slot : (config : Configuration) → IsLawfulSlot config (empty_slot config.version)
unfolding fresh_slot
lawful-empty_slot config = lawful-fresh config Empty (λ h. refl)

-- an empty slot becomes registered
pub lawful-registered : (config : Configuration) (slot : Slot) → IsLawfulSlot config slot → slot.phase ≡ Empty → IsLawfulSlot config (record slot { phase = Booting })
unfolding fresh_slot
lawful-registered config slot is empty = rw (is.empty empty) (lawful-fresh config Booting (λ h. cc))

-- what holds of the written element and of the others holds at each place after the write
pub each-place : {X : Type 0} (P : X → Type 0) (xs : List X) (i : ℕ) (x d : X) → i < length xs → ((k : ℕ) → P (get_or xs k d)) → P x → (k : ℕ) → P (get_or (set xs i x) k d)
each-place P xs i x d lt all here k = elim (cases_eq k i) [
  | inl same ↦ rw (same, get_or-set_same xs i x d lt) here
  | inr other ↦ rw (get_or-set_other xs i k x d other) (all k)
]

-- only one that the slot has can be registered
pub registered-within : (vcpus : List Vcpu) (c : ℕ) → (get_or vcpus c absent_vcpu).registered ≡ true → c < length vcpus
registered-within vcpus c is = elim (cases_lt c (length vcpus)) [
  | inl low ↦ low
  | inr past ↦ let none : false ≡ true = sym (ap (λ (vcpu : Vcpu). vcpu.registered) (get_or_past vcpus c absent_vcpu past)) ∙ is in cc
]

-- a virtual processor that is written
pub lawful-with_vcpu : (config : Configuration) (slot : Slot) (c : ℕ) (vcpu : Vcpu) → IsLawfulSlot config slot → (slot.phase ≡ Empty → ⊥) → c < vcpus_of config.version → IsLawfulVcpu config.version slot.phase vcpu → IsLawfulSlot config (with_vcpu slot c vcpu)
lawful-with_vcpu config slot c vcpu is used lt here = record {
  vcpus = length-set slot.vcpus c vcpu ∙ is.vcpus;
  each_vcpu = each-place (IsLawfulVcpu config.version slot.phase) slot.vcpus c vcpu absent_vcpu (rw is.vcpus lt) is.each_vcpu here;
  few_images = is.few_images;
  each_image = is.each_image;
  apart = is.apart;
  few_leaves = is.few_leaves;
  leaves_once = is.leaves_once;
  each_leaf = is.each_leaf;
  rooted = is.rooted;
  booting = is.booting;
  empty = λ h. absurd (used h);
}

-- a booting slot that leaves its phase
pub lawful-with_phase : (config : Configuration) (slot : Slot) (phase : Phase) → IsLawfulSlot config slot → slot.phase ≡ Booting → (phase ≡ Booting → ⊥) → (phase ≡ Empty → ⊥) → IsLawfulSlot config (record slot { phase = phase })
lawful-with_phase config slot phase is was not_booting not_empty = record {
  vcpus = is.vcpus;
  each_vcpu = λ c. record {
    registered = (is.each_vcpu c).registered;
    active = λ g h. let active = (is.each_vcpu c).active g h in cc;
    gfn = (is.each_vcpu c).gfn;
  };
  few_images = is.few_images;
  each_image = is.each_image;
  apart = is.apart;
  few_leaves = is.few_leaves;
  leaves_once = is.leaves_once;
  each_leaf = is.each_leaf;
  rooted = is.rooted;
  booting = λ h. absurd (not_booting h);
  empty = λ h. absurd (not_empty h);
}

-- images

overlaps-turned : (a b : Image) → overlaps a.base a.len b ≡ overlaps b.base b.len a
overlaps-turned a b = grind (arith, common_steps)

pub apart-push : (images : List Image) (new : Image) → Apart images → list_any (overlaps new.base new.len) images ≡ false → Apart (images ++ new ∷ [])
apart-push [] new apart none = (refl, tt)
apart-push (image ∷ images) new apart none =
    let parts = or_parts (overlaps new.base new.len image) (list_any (overlaps new.base new.len) images) none in
    let turned = overlaps-turned image new in
    let last : (list_any (overlaps image.base image.len) images || (overlaps image.base image.len new || false)) ≡ false = rw (apart.0, turned, parts.0) refl in
    (list_any-append (overlaps image.base image.len) images (new ∷ []) ∙ last, apart-push images new apart.1 parts.1)

holds-none : (g : ℕ) (image : Image) → image.pages ≡ 0 → holds g image ≡ false
holds-none g image none = grind (arith, common_steps)

-- one more image, with no pages yet
pub lawful-with_image : (config : Configuration) (slot : Slot) (image : Image) → IsLawfulSlot config slot → slot.phase ≡ Booting → length slot.images < most_images config.version → IsLawfulImage config.version image → image.pages ≡ 0 → list_any (overlaps image.base image.len) slot.images ≡ false → IsLawfulSlot config (record slot { images = slot.images ++ image ∷ [] })
lawful-with_image config slot image is was few here none apart = record {
  vcpus = is.vcpus;
  each_vcpu = is.each_vcpu;
  few_images = simp length-append (omega arith);
  each_image = All-append (IsLawfulImage config.version) slot.images (image ∷ []) is.each_image (only image here);
  apart = apart-push slot.images image is.apart apart;
  few_leaves = is.few_leaves;
  leaves_once = is.leaves_once;
  each_leaf = is.each_leaf;
  rooted = is.rooted;
  booting = λ h g. is.booting h g ∙ sym (list_any-append (holds g) slot.images (image ∷ []) ∙ ap (λ b. list_any (holds g) slot.images || (b || false)) (holds-none g image none) ∙ or-false _);
  empty = λ h. absurd cc;
}
  where
    only : (x : Image) → IsLawfulImage config.version x → All (IsLawfulImage config.version) (x ∷ [])
    only x h zero d lt = h
    only x h (suc k) d lt = absurd (omega arith)

pub list_any-set_same : {X : Type 0} (p : X → Bool) (xs : List X) (i : ℕ) (x d : X) → i < length xs → p x ≡ p (get_or xs i d) → list_any p (set xs i x) ≡ list_any p xs
list_any-set_same p [] i x d lt same = refl
list_any-set_same p (y ∷ ys) zero x d lt same = ap (λ b. b || list_any p ys) same
list_any-set_same p (y ∷ ys) (suc i) x d lt same = ap (λ b. p y || b) (list_any-set_same p ys i x d (omega arith) same)

or-swap : (a b c : Bool) → ((a || b) || c) ≡ ((a || c) || b)
or-swap true b c = refl
or-swap false true true = refl
or-swap false true false = refl
or-swap false false true = refl
or-swap false false false = refl

pub list_any-set_more : {X : Type 0} (p : X → Bool) (xs : List X) (i : ℕ) (x d : X) (more : Bool) → i < length xs → p x ≡ (p (get_or xs i d) || more) → list_any p (set xs i x) ≡ (list_any p xs || more)
list_any-set_more p [] i x d more lt is = absurd (omega arith)
list_any-set_more p (y ∷ ys) zero x d more lt is = ap (λ b. b || list_any p ys) is ∙ or-swap (p y) more (list_any p ys)
list_any-set_more p (y ∷ ys) (suc i) x d more lt is = ap (λ b. p y || b) (list_any-set_more p ys i x d more (omega arith) is) ∙ sym (or_assoc (p y) (list_any p ys) more)

-- the extent stays the same
pub apart-set : (images : List Image) (i : ℕ) (image d : Image) → i < length images → image.base ≡ (get_or images i d).base → image.len ≡ (get_or images i d).len → Apart images → Apart (set images i image)
apart-set [] i image d lt base len apart = apart
apart-set (first ∷ images) zero image d lt base len apart = (rw (base, len) apart.0, apart.1)
apart-set (first ∷ images) (suc i) image d lt base len apart =
    (list_any-set_same (overlaps first.base first.len) images i image d (omega arith) (rw (base, len) refl) ∙ apart.0, apart-set images i image d (omega arith) base len apart.1)

pub holds-more : (g base pages : ℕ) → (nat_le base g && nat_lt g (base + (pages + 1))) ≡ ((nat_le base g && nat_lt g (base + pages)) || nat_eq g (base + pages))
holds-more g base pages = grind (arith, common_steps)

-- no image holds a guest frame in the extent of an image that no other overlaps
outside-others : (version : Version) (base len g : ℕ) (images : List Image) → list_any (overlaps base len) images ≡ false → All (IsLawfulImage version) images → base ≤ g → g < base + pages_of len → list_any (holds g) images ≡ false
outside-others version base len g [] none all low high = refl
outside-others version base len g (image ∷ images) none all low high =
    let parts = or_parts (overlaps base len image) (list_any (overlaps base len) images) none in
    let is = all zero image (omega arith) in
    let pages = is.pages in
    let first : holds g image ≡ false = grind (arith, common_steps, parts.0, pages) in
    rw first (outside-others version base len g images parts.1 (λ k d lt. all (suc k) d (omega arith)) low high)

-- what fails for each element of a list fails for this one
pub none-at : {X : Type 0} (p : X → Bool) (xs : List X) (j : ℕ) (d : X) → j < length xs → list_any p xs ≡ false → p (get_or xs j d) ≡ false
none-at p xs j d lt none = elim (cases_Bool (p (get_or xs j d))) [
  | inl holds_it ↦ let h = list_any_at p xs j d lt holds_it in absurd cc
  | inr fails ↦ fails
]

-- no image holds the next page of an image
pub next-held : (version : Version) (images : List Image) (i : ℕ) (d : Image) (g : ℕ) → Apart images → All (IsLawfulImage version) images → i < length images → g ≡ (get_or images i d).base + (get_or images i d).pages → (get_or images i d).pages < pages_of (get_or images i d).len → list_any (holds g) images ≡ false
next-held version [] i d g apart all lt is short = refl
next-held version (image ∷ images) zero d g apart all lt is short =
    let first : holds g image ≡ false = grind (arith, common_steps, is) in
    rw first (outside-others version image.base image.len g images apart.0 (λ k e l. all (suc k) e (omega arith)) (omega arith) (omega arith))
next-held version (image ∷ images) (suc i) d g apart all lt is short =
    let within : i < length images = omega arith in
    let turned : overlaps image.base image.len (get_or images i d) ≡ false = none-at (overlaps image.base image.len) images i d within apart.0 in
    let here = all zero image (omega arith) in
    let pages = here.pages in
    let first : holds g image ≡ false = grind (arith, common_steps, is, pages, turned, short) in
    rw first (next-held version images i d g apart.1 (λ k e l. all (suc k) e (omega arith)) within is short)

-- there is no slot past the last
pub slot-past : (m : State) (v : ℕ) → length m.slots ≡ slot_count m.config → slot_count m.config ≤ v → slot_at m v ≡ no_slot
slot-past m v slots past = get_or_past m.slots v no_slot (rw slots past)
