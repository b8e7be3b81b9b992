-- The slot that is meant.
use Rattle.std.specs.Prelude.{ℕ, Option, Some, None}
use Rattle.kc_types.specs.declared.call.Call.{Call}
use Rattle.kc_types.specs.declared.call.Call.TheVariants.{Take, Give, HostFault, HostRead, HostWrite, RegisterVm, RegisterVcpu, SetBoot, Remap, Verify, Map, GuestRead, GuestWrite, Grant, Revoke, GrantRange, RevokeRange, Drop, Clear}
use Rattle.kc_types.specs.declared.owner.Owner.{Owner}
use Rattle.kc_types.specs.declared.owner.Owner.TheVariants.{Vm}

-- the slot that the call names
abbrev pub slot_of : Call → Option ℕ
slot_of Take = None
slot_of (Give f) = None
slot_of (HostFault f) = None
slot_of (HostRead f off len) = None
slot_of (HostWrite f off bytes) = None
slot_of (RegisterVm v) = Some v
slot_of (RegisterVcpu v c) = Some v
slot_of (SetBoot v base len) = Some v
slot_of (Remap v i f) = Some v
slot_of (Verify v) = Some v
slot_of (Map v c f) = Some v
slot_of (GuestRead v c g off len) = Some v
slot_of (GuestWrite v c g off bytes) = Some v
slot_of (Grant v c g) = Some v
slot_of (Revoke v c g) = Some v
slot_of (GrantRange v c g n) = Some v
slot_of (RevokeRange v c g n) = Some v
slot_of (Drop v c g) = Some v
slot_of (Clear v) = Some v

-- the slot of the VM that is the owner, if one is
abbrev pub vm_of : Owner → Option ℕ
vm_of (Vm v) = Some v
vm_of _ = None
