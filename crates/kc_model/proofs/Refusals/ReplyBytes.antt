-- A reply carries no more bytes than its call may be answered with.
use Rattle.std.proofs.Common.{ℕ, ◌≡◌, ◌≤◌, ◌+◌, ◌-◌, Option, Some, None, List, [], ◌∷◌, length, drop, refl, arith}
use Rattle.std.specs.List.{slice_range}
use Rattle.std.proofs.lemmas.List.{length-take}
use Rattle.std.proofs.lemmas.Grind.{common_steps}
use Rattle.kc_types.specs.ReplyBytes.{bytes_in, readable, most_reply_bytes}
use Rattle.kc_types.specs.declared.call.Call.{Call}
use Rattle.kc_types.specs.declared.call.Call.TheVariants.{Take, HostRead, Verify, GuestRead, GuestWrite}
use Rattle.kc_types.specs.declared.refusal.Refusal.{Refusal}
use Rattle.kc_model.specs.State.{State, frame_at, mapped_at, slot_at}
use Rattle.kc_model.specs.Refusals.{refusal}
use Rattle.kc_model.specs.Effects.{effect, host_takes, verified, guest_read, guest_written, unapproved}
use Rattle.kc_model.specs.Next.{next, unless_refused}
use Rattle.kc_model.proofs.Refusals.Served.{host_access-served}
use Rattle.kc_model.proofs.Lawful.GuestCalls.{guest_access-served}

range-length : (bytes : List ℕ) (off len : ℕ) → length (slice_range bytes off (off + len)) ≤ len
range-length bytes off len = omega (arith, length-take (off + len - off) (drop off bytes))

bytes-range : (bytes : List ℕ) (off len : ℕ) → len ≤ 4096 → length (slice_range bytes off (off + len)) ≤ readable len
bytes-range bytes off len few = let within = range-length bytes off len in grind (arith, common_steps)

none-taken : (m : State) (free : List ℕ) → bytes_in (host_takes m free).0 ≤ 0
none-taken m [] = omega arith
none-taken m (f ∷ rest) = omega arith

none-verified : (m : State) (v : ℕ) (failing : Option ℕ) → bytes_in (verified m v failing).0 ≤ 0
none-verified m v None = omega arith
none-verified m v (Some i) = omega arith

none-written : (m : State) (v c g off : ℕ) (bytes : List ℕ) (at : Option ℕ) → bytes_in (guest_written m v c g off bytes at).0 ≤ 0
none-written m v c g off bytes None = omega arith
none-written m v c g off bytes (Some f) = omega arith

bytes-read : (m : State) (v c g off len : ℕ) (at : Option ℕ) → len ≤ 4096 → bytes_in (guest_read m v c g off len at).0 ≤ readable len
bytes-read m v c g off len None few = omega arith
bytes-read m v c g off len (Some f) few = bytes-range (frame_at m f).bytes off len few

bytes-effect : (m : State) (call : Call) → refusal m call ≡ None → bytes_in (effect m call).0 ≤ most_reply_bytes call
bytes-effect m Take h = none-taken m m.free
bytes-effect m (HostRead f off len) h = let served = host_access-served m f off len h in let within = served.within in bytes-range (frame_at m f).bytes off len (omega arith)
bytes-effect m (Verify v) h = none-verified m v (unapproved m v)
bytes-effect m (GuestRead v c g off len) h = let served = guest_access-served m v c g off len h in let within = served.1 in bytes-read m v c g off len (mapped_at m v g) (omega arith)
bytes-effect m (GuestWrite v c g off bytes) h = none-written m v c g off bytes (mapped_at m v g)
bytes-effect m _ h = omega arith

bytes-unless : (refused : Option Refusal) (m : State) (call : Call) → refusal m call ≡ refused → bytes_in (unless_refused refused m call).0 ≤ most_reply_bytes call
bytes-unless None m call h = bytes-effect m call h
bytes-unless (Some r) m call h = omega arith

-- the reply to a call carries no more bytes than the call may be answered with
pub bytes-next : (m : State) (call : Call) → bytes_in (next m call).0 ≤ most_reply_bytes call
bytes-next m call = unfold next in bytes-unless (refusal m call) m call refl
