-- Who makes a call.
use Rattle.kc_types.specs.declared.call.Call.{Call}
use Rattle.kc_types.specs.declared.call.Call.TheVariants.{GuestRead, GuestWrite, Grant, Revoke, GrantRange, RevokeRange, Drop}
use Rattle.kc_types.specs.declared.call.Actor.{Actor}
use Rattle.kc_types.specs.declared.call.Actor.TheVariants.{Host, Vcpu}

-- a virtual processor makes reads, writes, grants, revokes and drops; the host makes all other calls
abbrev pub actor : Call → Actor
actor (GuestRead vm vcpu gfn offset len) = Vcpu vm vcpu
actor (GuestWrite vm vcpu gfn offset bytes) = Vcpu vm vcpu
actor (Grant vm vcpu gfn) = Vcpu vm vcpu
actor (Revoke vm vcpu gfn) = Vcpu vm vcpu
actor (GrantRange vm vcpu gfn count) = Vcpu vm vcpu
actor (RevokeRange vm vcpu gfn count) = Vcpu vm vcpu
actor (Drop vm vcpu gfn) = Vcpu vm vcpu
actor _ = Host
