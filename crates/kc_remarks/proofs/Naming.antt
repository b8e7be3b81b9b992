-- The replies to `take` are those that give a frame, or refuse a call since none is free.
use Rattle.std.proofs.Common.{ℕ, ◌≡◌, ◌∙◌, Bool, true, false, not, List, [], ◌∷◌, filter, length, Option, Some, None, refl, ap, arith}
use Rattle.std.specs.Prelude.{◌==◌}
use Rattle.std.proofs.lemmas.Bool.{ne_eqb}
use Rattle.kc_types.specs.declared.call.Call.{Call}
use Rattle.kc_types.specs.declared.call.Call.TheVariants.{Take, Give, HostFault, HostRead, HostWrite, RegisterVm, RegisterVcpu, SetBoot, Remap, Verify, Map, GuestRead, GuestWrite, Grant, Revoke, GrantRange, RevokeRange, Drop, Clear}
use Rattle.kc_types.specs.declared.refusal.Refusal.{Refusal}
use Rattle.kc_types.specs.declared.refusal.Refusal.TheVariants.{NoFree}
use Rattle.kc_types.specs.declared.reply.Reply.TheVariants as reply
use Rattle.kc_model.specs.State.{State, slot_at, mapped_at}
use Rattle.kc_model.specs.Refusals.{when, or_else, first_of_these, conditions, refusal}
use Rattle.kc_model.specs.Effects.{Outcome, host_takes, verified, guest_read, guest_written, unapproved, effect}
use Rattle.kc_model.specs.Next.{unless_refused, next, replies_from}
use Rattle.kc_remarks.specs.Denials.{is_no_free, is_to_take, is_to_naming, is_naming}
use Rattle.kc_remarks.proofs.Counts.{one_if, first}

-- ---- refusals

abbrev is_for_none : Option Refusal → Bool
is_for_none None = false
is_for_none (Some refusal) = is_no_free refusal

other : (b : Bool) (refusal : Refusal) → is_no_free refusal ≡ false → is_for_none (when b refusal) ≡ false
other true refusal h = h
other false refusal h = refl

abbrev AreOthers : List (Option Refusal) → Type 0
AreOthers [] = Unit {0}
AreOthers (refusal ∷ later) = (is_for_none refusal ≡ false) × AreOthers later

of-two : (one later : Option Refusal) → is_for_none one ≡ false → is_for_none later ≡ false → is_for_none (or_else one later) ≡ false
of-two None later here rest = rest
of-two (Some refusal) later here rest = here

of-these : (refusals : List (Option Refusal)) → AreOthers refusals → is_for_none (first_of_these refusals) ≡ false
of-these [] h = refl
of-these (refusal ∷ later) h = of-two refusal (first_of_these later) h.0 (of-these later h.1)

others : (m : State) (call : Call) → is_naming call ≡ true → AreOthers (conditions m call)
others m Take h = absurd cc
others m (Give f) h = (other _ _ refl, (other _ _ refl, tt))
others m (HostFault f) h = (other _ _ refl, (other _ _ refl, tt))
others m (HostRead f off len) h = (other _ _ refl, (other _ _ refl, (other _ _ refl, tt)))
others m (HostWrite f off bytes) h = (other _ _ refl, (other _ _ refl, (other _ _ refl, tt)))
others m (RegisterVm v) h = (other _ _ refl, (other _ _ refl, tt))
others m (RegisterVcpu v c) h = (other _ _ refl, (other _ _ refl, (other _ _ refl, (other _ _ refl, (other _ _ refl, tt)))))
others m (SetBoot v base len) h = (other _ _ refl, (other _ _ refl, (other _ _ refl, (other _ _ refl, (other _ _ refl, (other _ _ refl, (other _ _ refl, tt)))))))
others m (Remap v i f) h = (other _ _ refl, (other _ _ refl, (other _ _ refl, (other _ _ refl, (other _ _ refl, (other _ _ refl, (other _ _ refl, (other _ _ refl, tt))))))))
others m (Verify v) h = (other _ _ refl, (other _ _ refl, (other _ _ refl, (other _ _ refl, tt))))
others m (Map v c f) h = (other _ _ refl, (other _ _ refl, (other _ _ refl, (other _ _ refl, (other _ _ refl, (other _ _ refl, (other _ _ refl, (other _ _ refl, (other _ _ refl, (other _ _ refl, tt))))))))))
others m (GuestRead v c g off len) h = (other _ _ refl, (other _ _ refl, (other _ _ refl, (other _ _ refl, (other _ _ refl, (other _ _ refl, (other _ _ refl, tt)))))))
others m (GuestWrite v c g off bytes) h = (other _ _ refl, (other _ _ refl, (other _ _ refl, (other _ _ refl, (other _ _ refl, (other _ _ refl, (other _ _ refl, tt)))))))
others m (Grant v c g) h = (other _ _ refl, (other _ _ refl, (other _ _ refl, (other _ _ refl, (other _ _ refl, (other _ _ refl, (other _ _ refl, (other _ _ refl, tt))))))))
others m (Revoke v c g) h = (other _ _ refl, (other _ _ refl, (other _ _ refl, (other _ _ refl, (other _ _ refl, (other _ _ refl, (other _ _ refl, (other _ _ refl, tt))))))))
others m (GrantRange v c g n) h = (other _ _ refl, (other _ _ refl, (other _ _ refl, (other _ _ refl, (other _ _ refl, (other _ _ refl, (other _ _ refl, (other _ _ refl, (other _ _ refl, tt)))))))))
others m (RevokeRange v c g n) h = (other _ _ refl, (other _ _ refl, (other _ _ refl, (other _ _ refl, (other _ _ refl, (other _ _ refl, (other _ _ refl, (other _ _ refl, (other _ _ refl, tt)))))))))
others m (Drop v c g) h = (other _ _ refl, (other _ _ refl, (other _ _ refl, (other _ _ refl, (other _ _ refl, (other _ _ refl, (other _ _ refl, (other _ _ refl, tt))))))))
others m (Clear v) h = (other _ _ refl, (other _ _ refl, tt))

-- ---- effects

of-verify : (m : State) (v : ℕ) (failing : Option ℕ) → is_to_take (verified m v failing).0 ≡ false
of-verify m v None = refl
of-verify m v (Some i) = refl

of-read : (m : State) (v c g off len : ℕ) (at : Option ℕ) → is_to_take (guest_read m v c g off len at).0 ≡ false
of-read m v c g off len None = refl
of-read m v c g off len (Some f) = refl

of-write : (m : State) (v c g off : ℕ) (bytes : List ℕ) (at : Option ℕ) → is_to_take (guest_written m v c g off bytes at).0 ≡ false
of-write m v c g off bytes None = refl
of-write m v c g off bytes (Some f) = refl

of-effect : (m : State) (call : Call) → is_naming call ≡ true → is_to_take (effect m call).0 ≡ false
of-effect m Take h = absurd cc
of-effect m (Verify v) h = of-verify m v (unapproved m v)
of-effect m (GuestRead v c g off len) h = of-read m v c g off len (mapped_at m v g)
of-effect m (GuestWrite v c g off bytes) h = of-write m v c g off bytes (mapped_at m v g)
of-effect m _ h = refl

-- ---- one call, and all

unless : (refused : Option Refusal) (m : State) (call : Call) → is_for_none refused ≡ false → is_to_take (effect m call).0 ≡ false → is_to_take (unless_refused refused m call).0 ≡ false
unless None m call h e = e
unless (Some refusal) m call h e = h

abbrev taken : Option Refusal → State → List ℕ → Outcome
taken None m free = host_takes m free
taken (Some refusal) m free = (reply.Refused refusal, m)

is-taken : (refused : Option Refusal) (m : State) → unless_refused refused m Take ≡ taken refused m m.free
is-taken None m = refl
is-taken (Some refusal) m = refl

of-free : (m : State) (free : List ℕ) → is_to_take (taken (first_of_these (when (length free == 0) NoFree ∷ [])) m free).0 ≡ true
of-free m [] = refl
of-free m (f ∷ rest) = let some : (length (f ∷ rest) == 0) ≡ false = ne_eqb (length (f ∷ rest)) 0 (λ e. omega (arith, e)) in rw some refl

of-take : (m : State) → is_to_take (next m Take).0 ≡ true
unfolding next
of-take m = ap (λ (o : Outcome). is_to_take o.0) (is-taken (refusal m Take) m) ∙ of-free m m.free

of-naming : (m : State) (call : Call) → is_naming call ≡ true → is_to_take (next m call).0 ≡ false
unfolding next
of-naming m call h = unless (refusal m call) m call (of-these (conditions m call) (others m call h)) (of-effect m call h)

of-call : (m : State) (call : Call) → is_to_naming (next m call).0 ≡ is_naming call
of-call m Take = ap not (of-take m)
of-call m call = ap not (of-naming m call refl)

pub naming : (m : State) (calls : List Call) → length (filter is_to_naming (replies_from m calls)) ≡ length (filter is_naming calls)
naming m [] = refl
naming m (call ∷ calls) =
    let replies = first is_to_naming (next m call).0 (replies_from (next m call).1 calls) in
    let here = first is_naming call calls in
    let one = ap one_if (of-call m call) in
    let rest = naming (next m call).1 calls in
    omega (arith, replies, here, one, rest)
