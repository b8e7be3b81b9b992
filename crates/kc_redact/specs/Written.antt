-- A write of which only the number of bytes is known.
use Rattle.std.specs.Prelude.{ℕ, List, [], ◌∷◌, ◌++◌, codes, decimal, replicate}
use Rattle.kc_types.specs.declared.call.Call.{Call}
use Rattle.kc_types.specs.declared.call.Call.TheVariants.{HostWrite, GuestWrite}
use Rattle.kc_redact.specs.declared.redacting.Target.{Target}
use Rattle.kc_redact.specs.declared.redacting.Target.TheVariants as targets
use Rattle.kc_redact.specs.declared.redacting.Written.{Written}

-- the write of these bytes there
abbrev pub call_at : Target → ℕ → List ℕ → Call
call_at (targets.Guest vm vcpu gfn) offset bytes = GuestWrite vm vcpu gfn offset bytes
call_at (targets.Host frame) offset bytes = HostWrite frame offset bytes

-- the call that writes this many zeros there
abbrev pub written_call : Written → Call
written_call written = call_at written.target written.offset (replicate written.len 0)

-- its line up to the offset
abbrev pub written_target : Target → List ℕ
written_target (targets.Guest vm vcpu gfn) = codes "gwrite" ++ (32 ∷ decimal vm) ++ (32 ∷ decimal vcpu) ++ (32 ∷ decimal gfn)
written_target (targets.Host frame) = codes "hwrite" ++ (32 ∷ decimal frame)

-- its line up to the bytes
abbrev pub written_place : Written → List ℕ
written_place written = written_target written.target ++ (32 ∷ decimal written.offset) ++ (32 ∷ [])
