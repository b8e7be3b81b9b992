-- Numbers and bytes within the range of their types.
use Rattle.std.specs.Prelude.{ℕ, ◌<◌}
use Rattle.kc_types.specs.Bytes.{IsData}
use Rattle.kc_types.specs.declared.call.Call.{Call}
use Rattle.kc_types.specs.declared.call.Call.TheVariants.{Take, Give, HostFault, HostRead, HostWrite, RegisterVm, RegisterVcpu, SetBoot, Remap, Verify, Map, GuestRead, GuestWrite, Grant, Revoke, GrantRange, RevokeRange, Drop, Clear}

abbrev pub IsWord : ℕ → Type 0
IsWord n = n < 4294967296

-- each number of the call is a word, and its bytes are at least one and at most a page
abbrev pub IsRanged : Call → Type 0
IsRanged Take = Unit {0}
IsRanged (Give f) = IsWord f
IsRanged (HostFault f) = IsWord f
IsRanged (HostRead f off len) = IsWord f × IsWord off × IsWord len
IsRanged (HostWrite f off bytes) = IsWord f × IsWord off × IsData bytes
IsRanged (RegisterVm v) = IsWord v
IsRanged (RegisterVcpu v c) = IsWord v × IsWord c
IsRanged (SetBoot v base len) = IsWord v × IsWord base × IsWord len
IsRanged (Remap v i f) = IsWord v × IsWord i × IsWord f
IsRanged (Verify v) = IsWord v
IsRanged (Map v c f) = IsWord v × IsWord c × IsWord f
IsRanged (GuestRead v c g off len) = IsWord v × IsWord c × IsWord g × IsWord off × IsWord len
IsRanged (GuestWrite v c g off bytes) = IsWord v × IsWord c × IsWord g × IsWord off × IsData bytes
IsRanged (Grant v c g) = IsWord v × IsWord c × IsWord g
IsRanged (Revoke v c g) = IsWord v × IsWord c × IsWord g
IsRanged (GrantRange v c g n) = IsWord v × IsWord c × IsWord g × IsWord n
IsRanged (RevokeRange v c g n) = IsWord v × IsWord c × IsWord g × IsWord n
IsRanged (Drop v c g) = IsWord v × IsWord c × IsWord g
IsRanged (Clear v) = IsWord v
