-- Parts that hold a state's resources, with the state's links and ends.
use Rattle.std.specs.Prelude.{ℕ, ◌≡◌, Bool, true, false, cond, nat_lt, Option, Some, None}
use Rattle.std.specs.Option.{option_map}
use Rattle.kc_types.specs.Configuration.{Configuration, slot_count}
use Rattle.kc_types.specs.declared.link.Link.{Link}
use Rattle.kc_types.specs.declared.owner.Owner.{Owner}
use Rattle.kc_types.specs.declared.owner.Owner.TheVariants.{Core, Host, Free, Vm}
use Rattle.kc_types.specs.declared.resource.Resource.TheVariants as resource
use Rattle.kc_model.specs.State.{State}
use Rattle.kc_model.specs.Resources.{Resource, Resources, IsWithin, is_in}
use Rattle.kc_model.specs.Links.{list_of}
use Rattle.kc_model.specs.Linked.{LinkedPart, frame_and_link, slot_and_ends, free_ends, linked_part_of}
use Rattle.kc_page.specs.Page.{frame_of}
use Rattle.kc_vms.specs.Vm.{VmSlot, capacity_of}
use Rattle.kc_links.specs.Chain.{unlinked}
use Rattle.kc_parts.specs.Parts.{Held, vm_at, link_of}
use Rattle.kc_parts.specs.States.{HasRoom}
use Rattle.kc_parts.specs.Cuts.{HeldPart, held_at}
use Rattle.kc_parts.specs.Cuts.HeldPart.{page_part, slot_part, ends_part}

-- the neighbours of a page; those of the core's pages mean nothing
abbrev pub seen_link : Owner → Link → Link
seen_link Core link = unlinked
seen_link _ link = link

-- a part as the definitions see it
abbrev pub seen_part : HeldPart → LinkedPart
seen_part (page_part page) = frame_and_link (frame_of page) (seen_link page.meta.owner (link_of page))
seen_part (slot_part vm) = slot_and_ends vm.slot
seen_part (ends_part ends) = free_ends ends

abbrev pub seen_at : Held → Resource → Option LinkedPart
seen_at h r = option_map seen_part (held_at h r)

-- the resources that exist
abbrev pub exists_in : Configuration → Resources
exists_in config (resource.Frame f) = nat_lt f config.frames
exists_in config (resource.Vm v) = nat_lt v (slot_count config)
exists_in config resource.Free = true

-- the parts are those of the state at the resources, and nothing else, and they have memory if they are reserved
pub record IsRestricted (m : State) (here : Resources) (h : Held) : Type 0 where
  pub parts : (r : Resource) → seen_at h r ≡ cond (here r) (Some (linked_part_of m r)) None
  pub capacities : (v : ℕ) (vm : VmSlot) → vm_at h v ≡ Some vm → vm.capacity ≡ capacity_of m.config
  pub room : HasRoom h

-- the ends of the owner's list are among the resources
abbrev pub has_ends : Resources → Owner → Bool
has_ends here Core = false
has_ends here Host = false
has_ends here Free = here resource.Free
has_ends here (Vm v) = here (resource.Vm v)

-- the resources exist, and include all frames of a list if they include its ends
pub record IsClosed (m : State) (here : Resources) : Type 0 where
  pub exist : IsWithin here (exists_in m.config)
  pub lists : (owner : Owner) (f : ℕ) → has_ends here owner ≡ true → is_in (list_of m owner) f ≡ true → here (resource.Frame f) ≡ true
