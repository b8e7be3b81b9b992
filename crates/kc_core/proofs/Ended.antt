-- The ends of a core's lists.
use Rattle.std.proofs.Common.{ℕ, ◌≡◌, ◌<◌, List, [], ◌∷◌, Bor, Option, Some, None, IfSome, refl, sym, ap, ◌∙◌}
use Rattle.std.specs.Option.{option_copied, option_map}
use Rattle.kc_types.specs.Configuration.{Configuration, slot_count}
use Rattle.kc_types.specs.declared.link.Ends.{Ends}
use Rattle.kc_types.specs.declared.owner.Owner.TheVariants.{Free, Vm}
use Rattle.kc_model.specs.State.{slot_at}
use Rattle.kc_model.specs.Links.{first_of}
use Rattle.kc_model.specs.Linked.{last_of, ends_of}
use Rattle.kc_links.specs.Chain.{Links, first_or, last_or}
use Rattle.kc_links.specs.Ending.{Chain, listed}
use Rattle.kc_vms.specs.Vm.{VmSlot}
use Rattle.kc_parts.specs.Parts.{Held, vm_at, links_of}
use Rattle.kc_parts.specs.States.{list_in, state_of}
use Rattle.kc_core.specs.KCore.{IsCore}
use Rattle.kc_core.proofs.Shown.{vm-listed}

-- the first and the last of a sequence are the same by its links and by itself
pub first-same : (fs : List ℕ) → first_or None fs ≡ first_of fs
first-same [] = refl
first-same (f ∷ fs) = refl

pub last-same : (before : Option ℕ) (fs : List ℕ) → last_or before fs ≡ last_of before fs
last-same before [] = refl
last-same before (f ∷ fs) = last-same (Some f) fs

-- a chain's ends are those of its sequence
chain-ends : (m : Links) (ends : Ends) (fs : List ℕ) → Chain m ends fs → ends ≡ ends_of fs
chain-ends m ends fs chain = λ i. record { head = (chain.head ∙ first-same fs) i; tail = (chain.tail ∙ last-same None fs) i; count = chain.count i }

module _ (config : Configuration) (h : Held) (is : IsCore config h) where
  pub free-some : (ends : Ends) → h.free ≡ Some ends → ends ≡ ends_of (list_in (links_of h) h.free)
  free-some ends e = rw e (chain-ends (links_of h) ends (listed (links_of h) ends) (is.linked.lists.spelled Free ends e))

  pub free-none : h.free ≡ None → ◌≡◌ {A = Ends} (record { head = None; tail = None; count = 0 }) (ends_of (list_in (links_of h) h.free))
  free-none e = rw e refl

  pub slot-ended : (v : ℕ) → v < slot_count config → (there : Option (Bor VmSlot)) → option_copied there ≡ vm_at h v → IfSome there (λ slot. slot.now.slot.frames ≡ ends_of (slot_at (state_of config h) v).frames)
  slot-ended v low None e = tt
  slot-ended v low (Some slot) e =
      let ends : Ends = slot.now.slot.frames in
      let frames : (slot_at (state_of config h) v).frames ≡ listed (links_of h) ends = vm-listed config h v slot.now low (sym e) in
      chain-ends (links_of h) ends (listed (links_of h) ends) (is.linked.lists.spelled (Vm v) ends (ap (option_map (λ (vm : VmSlot). vm.slot.frames)) (sym e))) ∙ ap ends_of (sym frames)
