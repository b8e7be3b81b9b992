-- Each call keeps a lawful state lawful.
use Rattle.std.proofs.Common.{◌≡◌, Option, None, Some, refl}
use Rattle.kc_types.specs.declared.call.Call.{Call}
use Rattle.kc_types.specs.declared.call.Call.TheVariants.{Take, Give, HostFault, HostRead, HostWrite, RegisterVm, RegisterVcpu, SetBoot, Remap, Verify, Map, GuestRead, GuestWrite, Grant, Revoke, GrantRange, RevokeRange, Drop, Clear}
use Rattle.kc_types.specs.declared.refusal.Refusal.{Refusal}
use Rattle.kc_model.specs.State.{State}
use Rattle.kc_model.specs.Lawful.{IsLawful}
use Rattle.kc_model.specs.Next.{next, unless_refused}
use Rattle.kc_model.specs.Refusals.{refusal}
use Rattle.kc_model.specs.Effects.{effect}
use Rattle.kc_model.proofs.Lawful.Moves.{lawful-takes, lawful-give}
use Rattle.kc_model.proofs.Lawful.HostCalls.{lawful-host_fault, lawful-host_write}
use Rattle.kc_model.proofs.Lawful.SlotCalls.{lawful-register_vm, lawful-register_vcpu, lawful-set_boot}
use Rattle.kc_model.proofs.Lawful.HandCalls.{lawful-remap, lawful-map}
use Rattle.kc_model.proofs.Lawful.Verifies.{lawful-verify}
use Rattle.kc_model.proofs.Lawful.GuestCalls.{lawful-guest_read, lawful-guest_write, lawful-grant, lawful-revoke}
use Rattle.kc_model.proofs.Lawful.RangeCalls.{lawful-grant_range, lawful-revoke_range}
use Rattle.kc_model.proofs.Lawful.Drops.{lawful-drop}
use Rattle.kc_model.proofs.Lawful.Clears.{lawful-clear}

lawful-effect : (m : State) (call : Call) → IsLawful m → refusal m call ≡ None → IsLawful (effect m call).1
lawful-effect m Take is served = lawful-takes m m.free is refl
lawful-effect m (Give f) is served = lawful-give m f is served
lawful-effect m (HostFault f) is served = lawful-host_fault m f is served
lawful-effect m (HostRead f off len) is served = is
lawful-effect m (HostWrite f off bytes) is served = lawful-host_write m f off bytes is served
lawful-effect m (RegisterVm v) is served = lawful-register_vm m v is served
lawful-effect m (RegisterVcpu v c) is served = lawful-register_vcpu m v c is served
lawful-effect m (SetBoot v base len) is served = lawful-set_boot m v base len is served
lawful-effect m (Remap v i f) is served = lawful-remap m v i f is served
lawful-effect m (Verify v) is served = lawful-verify m v is served
lawful-effect m (Map v c f) is served = lawful-map m v c f is served
lawful-effect m (GuestRead v c g off len) is served = lawful-guest_read m v c g off len is served
lawful-effect m (GuestWrite v c g off bytes) is served = lawful-guest_write m v c g off bytes is served
lawful-effect m (Grant v c g) is served = lawful-grant m v c g is served
lawful-effect m (Revoke v c g) is served = lawful-revoke m v c g is served
lawful-effect m (GrantRange v c g n) is served = lawful-grant_range m v c g n is served
lawful-effect m (RevokeRange v c g n) is served = lawful-revoke_range m v c g n is served
lawful-effect m (Drop v c g) is served = lawful-drop m v c g is served
lawful-effect m (Clear v) is served = lawful-clear m v is served

lawful-unless_refused : (refused : Option Refusal) (m : State) (call : Call) → IsLawful m → refusal m call ≡ refused → IsLawful (unless_refused refused m call).1
lawful-unless_refused None m call is served = lawful-effect m call is served
lawful-unless_refused (Some r) m call is served = is

-- each call keeps the state lawful
pub lawful-next : (m : State) (call : Call) → IsLawful m → IsLawful (next m call).1
unfolding next
lawful-next m call is = lawful-unless_refused (refusal m call) m call is refl
