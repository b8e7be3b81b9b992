-- A frame that goes between the host and the free list.
use Rattle.std.proofs.Common.{ℕ, ◌≡◌, ◌<◌, false, None, List, [], ◌∷◌, ◌++◌, length, refl, ap, subst, ◌∙◌}
use Rattle.kc_types.specs.declared.call.Call.TheVariants.{Give}
use Rattle.kc_types.specs.declared.owner.Owner.TheVariants.{Host, Free}
use Rattle.kc_model.specs.State.{State, frame_at, with_frame, zero_page}
use Rattle.kc_model.specs.Refusals.{refusal, conditions}
use Rattle.kc_model.specs.Effects.{effect, host_takes}
use Rattle.kc_model.specs.Lawful.{IsLawful, ListsOnce, same_owner, is_vm}
use Rattle.kc_model.proofs.Refusals.Served.{none-of}
use Rattle.kc_model.proofs.Refusals.Answered.{frame-in, was-host}
use Rattle.kc_model.proofs.States.Lists.{lists-gained, lists-lost, lists-first}
use Rattle.kc_model.proofs.States.Changes.{lawful-moved, exists, free-is}
use Rattle.kc_model.proofs.States.ZeroPage.{zero_page-is}

-- the first free frame exists, and is free
pub first_free : (m : State) (f : ℕ) (rest : List ℕ) → IsLawful m → m.free ≡ f ∷ rest → ((frame_at m f).owner ≡ Free) × (f < length m.frames)
first_free m f rest is e =
    let once : ListsOnce m Free (f ∷ rest) = subst (λ (free : List ℕ). ListsOnce m Free free) e is.free in
    let free = free-is _ (lists-first m Free f rest once) in
    (free, exists m f (λ core. cc))

-- the first free frame becomes the host's
lawful-take : (m : State) (f : ℕ) (rest : List ℕ) → IsLawful m → m.free ≡ f ∷ rest → IsLawful (record (with_frame m f (record (frame_at m f) { owner = Host; present = false })) { free = rest })
lawful-take m f rest is e =
    let once : ListsOnce m Free (f ∷ rest) = subst (λ (free : List ℕ). ListsOnce m Free free) e is.free in
    let first = first_free m f rest is e in
    let frame = is.each_frame f first.1 in
    let not_vm : is_vm (frame_at m f).owner ≡ false = ap is_vm first.0 in
    lawful-moved m f (record (frame_at m f) { owner = Host; present = false }) rest is first.1 not_vm refl (record {
      core = (λ h. cc, λ h. let core = frame.core.1 h in cc);
      mapped = frame.mapped ∙ not_vm;
      shared = frame.shared;
      sharer = λ h. let vm = frame.sharer h in cc;
      reached = λ h. cc;
      zeroed = λ h. cc;
      page = frame.page;
      slot = λ v h. cc;
      gfn = frame.gfn;
    }) (lists-lost m f (record (frame_at m f) { owner = Host; present = false }) Free rest first.1 once refl)

pub lawful-takes : (m : State) (free : List ℕ) → IsLawful m → m.free ≡ free → IsLawful (host_takes m free).1
lawful-takes m [] is e = is
lawful-takes m (f ∷ rest) is e = lawful-take m f rest is e

-- a frame of the host's becomes free
pub lawful-give : (m : State) (f : ℕ) → IsLawful m → refusal m (Give f) ≡ None → IsLawful (effect m (Give f)).1
lawful-give m f is served =
    let none = none-of (conditions m (Give f)) served in
    let within = frame-in m f (none 0) in
    let lt : f < length m.frames = rw is.frames within in
    let host = was-host m f (none 1) in
    let frame = is.each_frame f lt in
    let not_vm : is_vm (frame_at m f).owner ≡ false = ap is_vm host in
    let not_free : same_owner (frame_at m f).owner Free ≡ false = ap (λ o. same_owner o Free) host in
    lawful-moved m f (record (frame_at m f) { owner = Free; present = false; bytes = zero_page }) (m.free ++ f ∷ []) is lt not_vm refl (record {
      core = (λ h. cc, λ h. let core = frame.core.1 h in cc);
      mapped = frame.mapped ∙ not_vm;
      shared = frame.shared;
      sharer = λ h. let vm = frame.sharer h in cc;
      reached = λ h. cc;
      zeroed = λ h. refl;
      page = zero_page-is;
      slot = λ v h. cc;
      gfn = frame.gfn;
    }) (lists-gained m f (record (frame_at m f) { owner = Free; present = false; bytes = zero_page }) Free m.free lt is.free not_free refl)
