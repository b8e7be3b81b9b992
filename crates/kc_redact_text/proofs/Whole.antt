-- Calls that were read without what virtual processors write are as good as whole ones, if no core makes them.
use Rattle.std.proofs.Common.{◌≡◌, ℕ, List, [], ◌∷◌, length, replicate, Option, None, Result, Ok, Err, refl, sym, ap, ◌∙◌}
use Rattle.std.specs.Global.{Vec}
use Rattle.std.specs.Prelude.{MatchResult}
use Rattle.std.proofs.lemmas.List.{length-replicate}
use Rattle.kc_types.specs.declared.call.Call.{Call}
use Rattle.kc_types.specs.declared.call.Call.TheVariants.{GuestWrite}
use Rattle.kc_model.specs.State.{State}
use Rattle.kc_trace.specs.declared.fault.TraceFault.{TraceFault}
use Rattle.kc_trace.specs.declared.fault.TraceFault.TheVariants.{NoHeader, BadLine, NoNewline, TooManyCalls, Misplaced, Memory}
use Rattle.kc_trace.specs.Machine.{Gives, Fails, Progress}
use Rattle.kc_trace.specs.Redacting.{redacted_read}
use Rattle.kc_redact.specs.Redacted.{redacted_call, redacted}
use Rattle.kc_redact_text.specs.Reading.{AreRead}

-- ---- redacting what is redacted changes nothing

call-twice : (call : Call) → redacted_call (redacted_call call) ≡ redacted_call call
call-twice (GuestWrite v c g off bytes) = ap (λ n. GuestWrite v c g off (replicate n 0)) (length-replicate {A = ℕ} (length bytes) 0)
call-twice _ = refl

redacted-twice : (calls : List Call) → redacted (redacted calls) ≡ redacted calls
redacted-twice [] = refl
redacted-twice (call ∷ calls) = ap (λ c. c ∷ redacted (redacted calls)) (call-twice call) ∙ ap (λ rest. redacted_call call ∷ rest) (redacted-twice calls)

-- ---- what was read

fault-whole : (read : Result (Progress × List Call) TraceFault) (fault : TraceFault) → redacted_read read ≡ Err fault → read ≡ Err fault
fault-whole (Ok x) fault e = absurd cc
fault-whole (Err other) fault e = e

fails-whole : (read : Result (Progress × List Call) TraceFault) (fault : TraceFault) → Fails fault (redacted_read read) → Fails fault read
fails-whole read NoHeader h = fault-whole read NoHeader h
fails-whole read (BadLine n) h = fault-whole read (BadLine n) h
fails-whole read NoNewline h = fault-whole read NoNewline h
fails-whole read TooManyCalls h = fault-whole read TooManyCalls h
fails-whole read (Misplaced wrong) h = fault-whole read (Misplaced wrong) h
fails-whole read Memory h = tt

calls-whole : (read : Result (Progress × List Call) TraceFault) (progress : Progress) (calls : List Call) → redacted_read read ≡ Ok (progress, calls) → AreRead None read progress calls
calls-whole (Ok x) progress calls e =
    let same : (x.0, redacted x.1) ≡ (progress, calls) = cc in
    let so_far : x.0 ≡ progress = ap (λ (p : Progress × List Call). p.0) same in
    let given : redacted x.1 ≡ calls = ap (λ (p : Progress × List Call). p.1) same in
    (x.1, ap (λ (p : Progress). Ok (p, x.1)) so_far, record { redacted = ap redacted (sym given) ∙ redacted-twice x.1; made = refl; replies = refl })
calls-whole (Err fault) progress calls e = absurd cc

pub read-redacted : (progress : Progress) (read : Result (Progress × List Call) TraceFault) (result : Result (Vec Call) TraceFault) → Gives (λ calls. (progress, calls.items)) result (redacted_read read)
    → MatchResult result (λ calls. AreRead None read progress calls.items) (λ fault. Fails fault read)
read-redacted progress read (Ok calls) h = calls-whole read progress calls.items h
read-redacted progress read (Err fault) h = fails-whole read fault h

pub read-whole : (core : Option State) (progress : Progress) (read : Result (Progress × List Call) TraceFault) (result : Result (Vec Call) TraceFault) → Gives (λ calls. (progress, calls.items)) result read
    → MatchResult result (λ calls. AreRead core read progress calls.items) (λ fault. Fails fault read)
read-whole core progress read (Ok calls) h = (calls.items, h, record { redacted = refl; made = refl; replies = refl })
read-whole core progress read (Err fault) h = h
