-- The first line and the lines of volumes show nothing of what guests wrote.
use Rattle.std.proofs.Common.{ℕ, ◌≡◌, ◌+◌, Bool, true, false, List, [], ◌∷◌, length, map, replicate, Option, Some, None, refl, ap, ap₂, ◌∙◌}
use Rattle.std.proofs.lemmas.List.{length-map, length-replicate}
use Rattle.sha2.specs.Sha256.{sha256}
use Rattle.kc_types.specs.declared.call.Call.{Call}
use Rattle.kc_types.specs.declared.call.Call.TheVariants.{GuestWrite}
use Rattle.kc_model.specs.State.{State}
use Rattle.kc_model.specs.Lawful.{IsLawful}
use Rattle.kc_model.specs.Custody.{first_line}
use Rattle.kc_model.specs.Redaction.{blanked, redacted_call, redacted}
use Rattle.kc_model.specs.Blanking.{blank_state}
use Rattle.kc_model.proofs.Redaction.Blank.{audited_blank}
use Rattle.kc_state_text.specs.StateText.{placed_state_text}
use Rattle.kc_trace.specs.Spelling.{text_of}
use Rattle.kc_trace.specs.declared.custody_writer.StartDigest.TheVariants as starts
use Rattle.kc_trace.specs.declared.custody_writer.Digests.{Digests}
use Rattle.kc_trace.specs.declared.volume_writer.VolumeEntry.{VolumeEntry}
use Rattle.kc_trace.specs.declared.expected.Expected.{Expected}
use Rattle.kc_trace.specs.Header.{is_host_redacted}
use Rattle.kc_trace.specs.Expected.{head_number}
use Rattle.kc_faults.specs.Origins.{position_at}
use Rattle.kc_texts.specs.declared.order.Origin.{Origin}
use Rattle.kc_texts.specs.declared.order.Origin.TheVariants as origins
use Rattle.kc_texts.specs.declared.order.Named.{Named}
use Rattle.kc_texts.specs.declared.order.Named.TheVariants as names
use Rattle.kc_texts.specs.declared.order.Scope.{Scope}
use Rattle.kc_redact.specs.Witness.{witness_header}
use Rattle.kc_cli.specs.Traced.{Traced, redacted_trace, trace_named}
use Rattle.kc_texts.specs.Orders.{names_trace}
use Rattle.kc_cli.specs.Custody.{entries_of, entries_in, first_number, trace_digest, chain_of, digests_of, heading_of}

-- redacting twice is redacting once
bytes_twice : (bytes : List ℕ) → blanked (blanked bytes) ≡ blanked bytes
bytes_twice bytes = ap (λ (n : ℕ). zeros n) (length-replicate {A = ℕ} (length bytes) 0)
  where
    zeros : ℕ → List ℕ
    zeros n = replicate n 0

call_twice : (call : Call) → redacted_call (redacted_call call) ≡ redacted_call call
call_twice (GuestWrite v c g off bytes) = ap (GuestWrite v c g off) (bytes_twice bytes)
call_twice _ = refl

calls_twice : (calls : List Call) → redacted (redacted calls) ≡ redacted calls
calls_twice [] = refl
calls_twice (call ∷ calls) = ap₂ (λ (first : Call) (rest : List Call). first ∷ rest) (call_twice call) (calls_twice calls)

digest_same : (named : Bool) (volume : Traced) → trace_named named (redacted_trace volume) ≡ trace_named named volume
digest_same false volume = refl
digest_same true volume = ap (λ (seen : List Call). Some (sha256 (text_of (witness_header volume.header) seen))) (calls_twice volume.calls)

entries_from : (named : Bool) (line : ℕ) (volumes : List Traced) → entries_of named line (map redacted_trace volumes) ≡ entries_of named line volumes
entries_from named line [] = refl
entries_from named line (volume ∷ volumes) =
    let entry : ℕ → Option (List ℕ) → VolumeEntry = λ count digest. record { line = line; calls = count; number = head_number volume.header; is_host_redacted = is_host_redacted volume.header; digest = digest } in
    ap₂ (λ (count : ℕ) (digest : Option (List ℕ)). entry count digest ∷ entries_of named (line + count) (map redacted_trace volumes)) (length-map volume.calls redacted_call) (digest_same named volume)
    ∙ ap (λ (rest : List VolumeEntry). entry (length volume.calls) (trace_named named volume) ∷ rest) (entries_from named (line + length volume.calls) volumes)

pub entries_same : (scope : Scope) (volumes : List Traced) → entries_in scope (map redacted_trace volumes) ≡ entries_in scope volumes
entries_same scope volumes = entries_from (names_trace scope.named) first_line volumes

-- and so is zeroing the pages of active VMs
state_twice : (m : State) → IsLawful m → blank_state (blank_state m) ≡ blank_state m
state_twice m is = (audited_blank m [] is).plainly.left

digests_same : (named : Named) (origin : Origin) (start other : List ℕ) (m : State) (expected : Expected) (first : Option ℕ) (trace : Option (List ℕ)) → IsLawful m → (origin ≡ origins.Boot → other ≡ start)
    → digests_of named origin other (blank_state m) expected first trace ≡ digests_of named origin start m expected first trace
digests_same names.Nothing origin start other m expected first trace is same = refl
digests_same names.Trace origin start other m expected first trace is same = refl
digests_same names.Both origins.Boot start other m expected first trace is same =
    ap (λ (text : List ℕ). Some (record { trace = trace; start = starts.Config (sha256 text) })) (same refl)
digests_same names.Both origins.State start other m expected first trace is same =
    ap (λ (n : State). Some (record { trace = trace; start = starts.State (sha256 (placed_state_text (position_at expected) n)) })) (state_twice m is)

pub heading_same : (scope : Scope) (origin : Origin) (start other : List ℕ) (m : State) (expected : Expected) (volumes : List Traced) → IsLawful m → (origin ≡ origins.Boot → other ≡ start)
    → heading_of scope origin other (blank_state m) expected (entries_in scope (map redacted_trace volumes)) ≡ heading_of scope origin start m expected (entries_in scope volumes)
heading_same scope origin start other m expected volumes is same =
    ap (heading_of scope origin other (blank_state m) expected) (entries_same scope volumes)
    ∙ ap (λ (digests : Option Digests). record { digests = digests; is_unseen = scope.is_unseen; chain = chain_of (entries_in scope volumes) })
    (digests_same scope.named origin start other m expected (first_number (entries_in scope volumes)) (trace_digest (entries_in scope volumes)) is same)
