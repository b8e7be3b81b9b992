-- Every call depends only on what it needs, and changes nothing else.
use Rattle.std.proofs.Common.{ℕ, ◌≡◌, None, refl}
use Rattle.kc_types.specs.declared.call.Call.{Call}
use Rattle.kc_types.specs.declared.call.Call.TheVariants.{Take, Give, HostFault, HostRead, HostWrite, RegisterVm, RegisterVcpu, SetBoot, Remap, Verify, Map, GuestRead, GuestWrite, Grant, Revoke, GrantRange, RevokeRange, Drop, Clear}
use Rattle.kc_model.specs.State.{State, slot_at}
use Rattle.kc_model.specs.Refusals.{refusal}
use Rattle.kc_model.specs.Resources.{Resources, need, IsWithin}
use Rattle.kc_model.specs.Local.{IsLocal, IsOrderly}
use Rattle.kc_model.proofs.States.Members.{is_in-first, same_number}
use Rattle.kc_model.proofs.Local.Locals.{local-host_fault, local-host_read, local-host_write, local-give, local-take}
use Rattle.kc_model.proofs.Local.GuestLocals.{local-register_vm, local-register_vcpu, local-set_boot, local-guest_read, local-guest_write, local-grant, local-revoke, local-drop, local-map, local-remap, local-clear}
use Rattle.kc_model.proofs.Local.RangeLocals.{local-grant_range, local-revoke_range}
use Rattle.kc_model.proofs.Local.VerifyLocal.{HasImages, local-verify}
use Rattle.kc_model.proofs.Local.Needs.{has_named, has_slot, has_frames, has_mapped, has_free, has_images}
use Rattle.kc_model.proofs.Lawful.Verifies.{verify-served}
use Rattle.kc_types.specs.declared.resource.Resource.TheVariants as resource

verify-images : (here : Resources) (m : State) (v : ℕ) → IsOrderly m → IsWithin (need m (Verify v)) here → refusal m (Verify v) ≡ None → HasImages here m v (slot_at m v).images
verify-images here m v is within served =
    let seen = verify-served m v served in
    has_images here m (Verify v) is within v refl seen.0 (slot_at m v).images ((is.each_slot v seen.0).images seen.1) seen.2

-- the law of one call
pub local : (here : Resources) (m rest : State) (call : Call) → IsOrderly m → IsWithin (need m call) here → IsLocal here m rest call
local here m rest Take is within = local-take here m rest (within resource.Free refl) (λ f fs e lt. has_free here m Take is within f refl (rw e (is_in-first f fs)))
local here m rest (Give f) is within = local-give here m rest f (has_named here m (Give f) is within f (same_number f)) (within resource.Free refl)
local here m rest (HostFault f) is within = local-host_fault here m rest f (has_named here m (HostFault f) is within f (same_number f))
local here m rest (HostRead f off len) is within = local-host_read here m rest f off len (has_named here m (HostRead f off len) is within f (same_number f))
local here m rest (HostWrite f off bytes) is within = local-host_write here m rest f off bytes (has_named here m (HostWrite f off bytes) is within f (same_number f))
local here m rest (RegisterVm v) is within = local-register_vm here m rest v (has_slot here m (RegisterVm v) is within v refl)
local here m rest (RegisterVcpu v c) is within = local-register_vcpu here m rest v c (has_slot here m (RegisterVcpu v c) is within v refl)
local here m rest (SetBoot v base len) is within = local-set_boot here m rest v base len (has_slot here m (SetBoot v base len) is within v refl)
local here m rest (Remap v i f) is within = local-remap here m rest v i f (has_slot here m (Remap v i f) is within v refl) (has_named here m (Remap v i f) is within f (same_number f))
local here m rest (Verify v) is within = local-verify here m rest v (has_slot here m (Verify v) is within v refl) (verify-images here m v is within)
local here m rest (Map v c f) is within = local-map here m rest v c f (has_slot here m (Map v c f) is within v refl) (has_named here m (Map v c f) is within f (same_number f))
local here m rest (GuestRead v c g off len) is within = local-guest_read here m rest v c g off len (has_slot here m (GuestRead v c g off len) is within v refl) (has_mapped here m (GuestRead v c g off len) is within v g refl)
local here m rest (GuestWrite v c g off bytes) is within = local-guest_write here m rest v c g off bytes (has_slot here m (GuestWrite v c g off bytes) is within v refl) (has_mapped here m (GuestWrite v c g off bytes) is within v g refl)
local here m rest (Grant v c g) is within = local-grant here m rest v c g (has_slot here m (Grant v c g) is within v refl) (has_mapped here m (Grant v c g) is within v g refl)
local here m rest (Revoke v c g) is within = local-revoke here m rest v c g (has_slot here m (Revoke v c g) is within v refl) (has_mapped here m (Revoke v c g) is within v g refl)
local here m rest (GrantRange v c g n) is within = local-grant_range here m rest v c g n (has_slot here m (GrantRange v c g n) is within v refl) (λ h. has_mapped here m (GrantRange v c g n) is within v h refl)
local here m rest (RevokeRange v c g n) is within = local-revoke_range here m rest v c g n (has_slot here m (RevokeRange v c g n) is within v refl) (λ h. has_mapped here m (RevokeRange v c g n) is within v h refl)
local here m rest (Drop v c g) is within = local-drop here m rest v c g (has_slot here m (Drop v c g) is within v refl) (has_mapped here m (Drop v c g) is within v g refl) (within resource.Free refl)
local here m rest (Clear v) is within = local-clear here m rest v (has_slot here m (Clear v) is within v refl) (has_frames here m (Clear v) is within v refl) (within resource.Free refl)
