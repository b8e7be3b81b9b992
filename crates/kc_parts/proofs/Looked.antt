-- Looking up finds the frame or the slot of the state.
use Rattle.std.proofs.Common.{ℕ, ◌≡◌, ◌<◌, ◌≤◌, ◌/◌, inl, inr, Bool, true, false, not, ◌&&◌, ◌||◌, ◌==◌, nat_le, nat_lt, List, length, Option, Some, None, is_some, get_or, refl, sym, ap, subst, ◌∙◌, arith}
use Rattle.std.proofs.lemmas.List.{get_or_past}
use Rattle.std.proofs.lemmas.List.FromFn.{length-map-range_with_len}
use Rattle.std.specs.Ordering.{nat_cmp}
use Rattle.std.specs.FinMap as map
use Rattle.kc_types.specs.Configuration.{Configuration, slot_count}
use Rattle.kc_types.specs.declared.owner.Owner.TheVariants.{Core}
use Rattle.std.specs.List.{list_any}
use Rattle.std.proofs.lemmas.Grind.{common_steps}
use Rattle.std.proofs.lemmas.Bool.{cases_lt}
use Rattle.kc_types.specs.declared.refusal.Refusal.TheVariants.{TablesFull}
use Rattle.kc_model.specs.Refusals.{when, tables_full}
use Rattle.kc_vms.specs.Stage2.{fits}
use Rattle.kc_vms.specs.Vm.{VmSlot, Capacity, capacity_of, slot_table}
use Rattle.kc_model.specs.State.{State, Slot, frame_at, slot_at, untouched, absent_vcpu, no_slot}
use Rattle.kc_page.specs.declared.page.Page.{Page}
use Rattle.kc_page.specs.declared.page.PageRecord.{PageRecord}
use Rattle.kc_parts.specs.Parts.{Held, page_at, vm_at, links_of}
use Rattle.kc_parts.specs.States.{frame_in, slot_in, unlinked_slot, state_of, IsLinked}
use Rattle.kc_links.specs.Ending.{listed}
use Rattle.kc_parts.proofs.Seen.{frame-seen, slot-seen}
use Rattle.kc_parts.specs.LookUps.{IsMetaOf}

-- what is seen of a page is the frame of its number, if the frame exists
pub record-seen : (config : Configuration) (h : Held) (f found : ℕ) (meta : PageRecord) → found ≡ f → f < config.frames → IsMetaOf (frame_in (page_at h found)) meta → IsMetaOf (frame_at (state_of config h) f) meta
record-seen config h f found meta same low is = subst (λ frame. IsMetaOf frame meta) (ap (λ g. frame_in (page_at h g)) same ∙ sym (frame-seen config h f low)) is

-- past the last frame there are none
pub frame-past : (config : Configuration) (h : Held) (f : ℕ) → config.frames ≤ f → frame_at (state_of config h) f ≡ untouched Core
frame-past config h f past = get_or_past (state_of config h).frames f (untouched Core) (rw (length-map-range_with_len (λ g. frame_in (page_at h g)) 0 config.frames) past)

-- and so it is of every number, if the parts are linked
pub record-linked : (config : Configuration) (h : Held) (f : ℕ) (meta : PageRecord) → IsLinked config h → IsMetaOf (frame_in (page_at h f)) meta → IsMetaOf (frame_at (state_of config h) f) meta
record-linked config h f meta linked is = elim (cases_lt f config.frames) [
  | inl low ↦ record-seen config h f f meta refl low is
  | inr past ↦ rw (frame-past config h f past) (by_page past (page_at h f) refl is)
]
  where
    by_page : config.frames ≤ f → (there : Option Page) → page_at h f ≡ there → IsMetaOf (frame_in there) meta → IsMetaOf (untouched Core) meta
    by_page past None at is = is
    by_page past (Some page) at is = let low = linked.frames f (ap is_some at) in absurd (omega (arith, low, past))

-- where there is no slot, there is no virtual processor and no mapped guest frame
pub vcpu-none : (slot : Slot) (c : ℕ) → slot ≡ no_slot → absent_vcpu ≡ get_or slot.vcpus c absent_vcpu
vcpu-none slot c is = sym (ap (λ (there : Slot). get_or there.vcpus c absent_vcpu) is)

pub mapped-none : (slot : Slot) (g : ℕ) → slot ≡ no_slot → None ≡ map.get slot.mapped g
mapped-none slot g is = sym (ap (λ (there : Slot). map.get there.mapped g) is ∙ map.get-empty nat_cmp g)

-- a slot's table takes a guest frame if the state says so
pub fits-seen : (m : State) (v g : ℕ) (vm : VmSlot) (frames : List ℕ) → slot_at m v ≡ unlinked_slot vm.slot frames → vm.capacity ≡ capacity_of m.config → tables_full m v g ≡ when (not (fits (slot_table vm) g)) TablesFull
fits-seen m v g vm frames is capacity = rw is (ap (λ full. when full TablesFull) (rw (← ap (λ (made : Capacity). made.leaves) capacity) (turned (list_any (λ root. root == g / 512) vm.slot.leaves) vm.capacity.leaves (length vm.slot.leaves))))
  where
    past : (n k : ℕ) → nat_le n k ≡ not (nat_lt k n)
    past n k = elim (cases_lt k n) [
      | inl low ↦ grind (arith, common_steps, low)
      | inr high ↦ grind (arith, common_steps, high)
    ]

    turned : (a : Bool) (n k : ℕ) → (not a && nat_le n k) ≡ not (a || nat_lt k n)
    turned true n k = refl
    turned false n k = past n k

-- the slot of a number that is here
pub slot-is : (config : Configuration) (h : Held) (v : ℕ) (vm : VmSlot) → v < slot_count config → vm_at h v ≡ Some vm → slot_at (state_of config h) v ≡ unlinked_slot vm.slot (listed (links_of h) vm.slot.frames)
slot-is config h v vm low at = slot-seen config h v low ∙ ap (slot_in (links_of h)) at
