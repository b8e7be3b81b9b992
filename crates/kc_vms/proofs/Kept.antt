-- What holds of a slot alone, change by change.
use Rattle.std.proofs.Common.{ℕ, zero, suc, ◌≡◌, ◌<◌, ◌≤◌, ◌+◌, false, not, nat_le, None, List, [], ◌∷◌, ◌++◌, length, get_or, set, drop, replicate, refl, sym, ap, ◌∙◌, subst, arith, length-set, length-append}
use Rattle.std.proofs.lemmas.List.{take_at}
use Rattle.std.proofs.lemmas.List.Elements.{All-set, All-push}
use Rattle.std.proofs.lemmas.Bool.{leb-false}
use Rattle.std.specs.List.{list_any, refill}
use Rattle.kc_types.specs.Configuration.{vcpus_of, gfns_of, most_images, most_image_bytes}
use Rattle.kc_types.specs.declared.version.Version.{Version}
use Rattle.kc_types.specs.declared.slot.Phase.{Phase}
use Rattle.kc_types.specs.declared.slot.Phase.TheVariants.{Empty}
use Rattle.kc_types.specs.declared.refusal.Refusal.TheVariants.{NoImage, ImageFull}
use Rattle.kc_model.specs.State.{Vcpu, Image, absent_vcpu, no_vcpus}
use Rattle.kc_model.specs.Refusals.{first_of_these, pages_of, overlaps, is_short, when}
use Rattle.kc_model.specs.Lawful.{IsLawfulVcpu, IsLawfulImage}
use Rattle.kc_model.specs.Linked.{LinkedSlot}
use Rattle.kc_model.proofs.Refusals.Served.{when-none, none-of}
use Rattle.kc_model.proofs.States.Slots.{lawful-empty_slot, at-no_vcpus, waits-not, each-place, apart-push, apart-set}
use Rattle.kc_model.proofs.Refusals.Answered.{is_short-is}
use Rattle.kc_vms.specs.Vm.{IsSlot}
use Rattle.kc_model.specs.Slot.{image_of}
use Rattle.kc_vms.specs.Refusals.{no_vm_in, not_booting_in, next_page_refusal}

pub slot-empty : (version : Version) → IsSlot version Empty (no_vcpus version) []
slot-empty version =
    let is = lawful-empty_slot (record { version = version; frames = 0; core = 0; host = 0; leaves = 0; approved = [] }) in
    record {
      vcpu_count = is.vcpus;
      each_vcpu = is.each_vcpu;
      few_images = is.few_images;
      each_image = is.each_image;
      apart = is.apart;
      empty_vcpus = λ h. refl;
      empty_images = λ h. refl;
    }

-- as many as the version has, each absent
pub no_vcpus-filled : (version : Version) (count : ℕ) (vcpu : Vcpu) (vcpus : List Vcpu) → count ≡ vcpus_of version → vcpu ≡ absent_vcpu → vcpus ≡ replicate count vcpu → vcpus ≡ no_vcpus version
unfolding no_vcpus
no_vcpus-filled version count vcpu vcpus many absent filled = rw (filled, many, absent) refl

-- all elements are written back
refilled : {X : Type 0} (xs ws : List X) → length ws ≡ length xs → refill (length xs) xs ws ≡ ws
refilled xs ws same = take_at ws (drop (length ws) xs) (length xs) same

set-replicate : {X : Type 0} (n c : ℕ) (x : X) → set (replicate n x) c x ≡ replicate n x
set-replicate zero c x = refl
set-replicate (suc n) zero x = refl
set-replicate (suc n) (suc c) x = ap (λ xs. x ∷ xs) (set-replicate n c x)

set-no_vcpus : (version : Version) (c : ℕ) → set (no_vcpus version) c absent_vcpu ≡ no_vcpus version
unfolding no_vcpus
set-no_vcpus version c = set-replicate (vcpus_of version) c absent_vcpu

-- a virtual processor that waits for nothing
pub slot-spent : (version : Version) (phase : Phase) (vcpus : List Vcpu) (images : List Image) (c : ℕ) (there : Vcpu) → IsSlot version phase vcpus images → c < length vcpus → there ≡ get_or vcpus c absent_vcpu
    → IsSlot version phase (set vcpus c (record there { fault = None })) images
slot-spent version phase vcpus images c there is low read =
    let spent : Vcpu = record (get_or vcpus c absent_vcpu) { fault = None } in
    rw read (record {
      vcpu_count = length-set vcpus c spent ∙ is.vcpu_count;
      each_vcpu = each-place (IsLawfulVcpu version phase) vcpus c spent absent_vcpu low is.each_vcpu (waits-not version phase spent refl);
      few_images = is.few_images;
      each_image = is.each_image;
      apart = is.apart;
      empty_vcpus = λ h. rw (is.empty_vcpus h, at-no_vcpus version) (set-no_vcpus version c);
      empty_images = is.empty_images;
    })

-- one more image, with no pages yet
pub slot-with_image : (version : Version) (phase : Phase) (vcpus : List Vcpu) (images : List Image) (base len : ℕ) → IsSlot version phase vcpus images → (phase ≡ Empty → ⊥) → length images < most_images version
    → 0 < len → len ≤ most_image_bytes version → base + pages_of len ≤ gfns_of version → list_any (overlaps base len) images ≡ false → IsSlot version phase vcpus (images ++ record { base = base; len = len; pages = 0 } ∷ [])
slot-with_image version phase vcpus images base len is used few some small within none =
    let image : Image = record { base = base; len = len; pages = 0 } in
    record {
      vcpu_count = is.vcpu_count;
      each_vcpu = is.each_vcpu;
      few_images = simp length-append (omega arith);
      each_image = All-push (IsLawfulImage version) images image is.each_image (record { some = some; small = small; within = within; pages = omega arith });
      apart = apart-push images image is.apart none;
      empty_vcpus = λ h. absurd (used h);
      empty_images = λ h. absurd (used h);
    }

-- one more page of an image
pub slot-with_page : (version : Version) (phase : Phase) (vcpus : List Vcpu) (images now : List Image) (i : ℕ) (absent : Image) → IsSlot version phase vcpus images → now ≡ images → i < length images
    → (get_or images i absent).pages < pages_of (get_or images i absent).len
    → IsSlot version phase vcpus (refill (length images) images (set now i (record (get_or now i absent) { pages = (get_or now i absent).pages + 1 })))
slot-with_page version phase vcpus images now i absent is same lt short =
    let image = get_or images i absent in
    let paged : Image = record image { pages = image.pages + 1 } in
    let was : IsLawfulImage version image = is.each_image i absent lt in
    let written : refill (length images) images (set now i (record (get_or now i absent) { pages = (get_or now i absent).pages + 1 })) ≡ set images i paged
    = rw same (refilled images (set images i paged) (length-set images i paged)) in
    subst (λ (is : List Image). IsSlot version phase vcpus is) (sym written) (record {
      vcpu_count = is.vcpu_count;
      each_vcpu = is.each_vcpu;
      few_images = rw length-set is.few_images;
      each_image = All-set (IsLawfulImage version) images i paged (record { some = was.some; small = was.small; within = was.within; pages = omega arith }) is.each_image;
      apart = apart-set images i paged absent lt refl refl is.apart;
      empty_vcpus = is.empty_vcpus;
      empty_images = λ h. let none = is.empty_images h in rw none refl;
    })

pub booting-used : (slot : LinkedSlot) → first_of_these (no_vm_in slot ∷ not_booting_in slot ∷ []) ≡ None → slot.phase ≡ Empty → ⊥
booting-used slot served empty =
    let used = when-none _ _ (none-of (no_vm_in slot ∷ not_booting_in slot ∷ []) served 0) in
    let no = rw empty at used in
    cc

-- an image that has a next page
pub next_page-served : (slot : LinkedSlot) (i : ℕ) → next_page_refusal slot i ≡ None → (i < length slot.images) × ((image_of slot i).pages < pages_of (image_of slot i).len)
next_page-served slot i served =
    let none = none-of (no_vm_in slot ∷ not_booting_in slot ∷ when (nat_le (length slot.images) i) NoImage ∷ when (not (is_short (image_of slot i))) ImageFull ∷ []) served in
    (leb-false _ _ (when-none _ _ (none 2)), is_short-is (image_of slot i) (when-none _ _ (none 3)))
