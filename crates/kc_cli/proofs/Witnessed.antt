-- What a witness has seen of a trace, and what names the text that calls begin with.
use Rattle.std.proofs.Common.{ℕ, ◌≡◌, ◌<◌, ◌+◌, ◌++◌, Bool, true, false, List, [], ◌∷◌, length, take, get_or, Option, Some, None, refl, ap, sym, ◌∙◌, append_assoc}
use Rattle.std.proofs.lemmas.List.{append-nil, take_more}
use Rattle.std.specs.Prelude.{◌||◌, is_some, IfSome}
use Rattle.std.specs.Io.KnownBytes.{Consumes, IsAtEnd}
use Rattle.sha2.specs.Sha256.{sha256}
use Rattle.kc_types.specs.declared.call.Call.{Call}
use Rattle.kc_model.specs.State.{State}
use Rattle.sha2.specs.declared.Sha256.{Sha256}
use Rattle.kc_redact.specs.Witness.{witnessed, HasSeen}
use Rattle.kc_trace.specs.declared.header.Header.{Header}
use Rattle.kc_trace.specs.declared.expected.Expected.{Expected}
use Rattle.kc_cli.specs.Traced.{Traced, trace_named, digest_if, HasWitnessed, MayHaveWitnessed, IsDigested}
use Rattle.kc_texts.specs.declared.order.Origin.TheVariants as origins
use Rattle.kc_cli.specs.Custody.{NamesStart}

-- one call more
pub noted_more : (before calls : List Call) (call : Call) (n : ℕ) → n < length calls → call ≡ get_or calls n call → (before ++ take n calls) ++ call ∷ [] ≡ before ++ take (n + 1) calls
noted_more before calls call n lt is =
    append_assoc before (take n calls) (call ∷ [])
    ∙ ap (λ (one : Call). before ++ (take n calls ++ one ∷ [])) is
    ∙ ap (λ (rest : List Call). before ++ rest) (sym (take_more calls n call lt))

-- the digest of a witness
pub digest_seen : (asked : Bool) (digest : List ℕ) (volume : Traced) → true ≡ asked → digest ≡ sha256 (witnessed volume.header volume.calls) → Some digest ≡ trace_named asked volume
digest_seen true digest volume there is = ap Some is
digest_seen false digest volume there is = absurd (let never : true ≡ false = there in cc)

-- more calls come, and the witness sees them
pub sees_more : (asked : Bool) (header : Option Header) (old new : Sha256) (before calls : List Call) → ((h : Header) (first : List Call) → HasSeen old h first → HasSeen new h (first ++ calls)) → HasWitnessed asked header (Some old) before → HasWitnessed asked header (Some new) (before ++ calls)
sees_more asked None old new before calls step h = let never : true ≡ false = h.0 in absurd cc
sees_more asked (Some header) old new before calls step h = (h.0, step header before h.1)

-- nothing is promised of a witness that is not needed, and what is promised of one that is needed is carried over
pub none_needed : (needed asked : Bool) (header : Option Header) (witness : Option Sha256) (calls : List Call) → needed ≡ false → MayHaveWitnessed needed asked header witness calls
none_needed false asked header witness calls is = tt
none_needed true asked header witness calls is = absurd cc

pub none_witnessed : (needed asked : Bool) → MayHaveWitnessed needed asked None None []
none_witnessed false asked = tt
none_witnessed true asked = (refl, refl)

pub needed_more : (needed asked : Bool) (before header : Option Header) (old new : Option Sha256) (first calls : List Call) → (HasWitnessed asked before old first → HasWitnessed asked header new calls) → MayHaveWitnessed needed asked before old first → MayHaveWitnessed needed asked header new calls
needed_more false asked before header old new first calls step h = tt
needed_more true asked before header old new first calls step h = step h

pub digest_needed : (needed asked : Bool) (witness : Option Sha256) (volume : Traced) (digest : Option (List ℕ)) → (HasWitnessed asked (Some volume.header) witness volume.calls → digest ≡ digest_if asked volume) → MayHaveWitnessed needed asked (Some volume.header) witness volume.calls → IsDigested needed asked volume digest
digest_needed false asked witness volume digest step h = tt
digest_needed true asked witness volume digest step h = step h

-- the digest of a trace that is named, or that another volume follows
pub named_needed : (asked followed : Bool) (volume : Traced) (digest : Option (List ℕ)) → IsDigested (asked || followed) asked volume digest → asked ≡ true → digest ≡ digest_if true volume
named_needed true followed volume digest digested is = digested
named_needed false followed volume digest digested is = absurd cc

pub followed_needed : (asked followed : Bool) (volume : Traced) (digest : Option (List ℕ)) → IsDigested (asked || followed) asked volume digest → followed ≡ true → digest ≡ digest_if asked volume
followed_needed true followed volume digest digested is = digested
followed_needed false true volume digest digested is = digested
followed_needed false false volume digest digested is = absurd cc

-- if two lists of calls are empty together, the second is empty
pub none_last : (before calls : List Call) → before ++ calls ≡ [] → calls ≡ []
none_last [] calls is = is
none_last (call ∷ before) calls is = absurd cc

-- a configuration that was read to its end is named by the digest of what was read
pub read_named : (asked : Bool) (first now : Option (List ℕ)) (bytes : List ℕ) (m : State) (expected : Expected) (digest : Option (List ℕ)) → Consumes first now bytes → IsAtEnd now
    → (is_some digest ≡ asked) × IfSome digest (λ d. d ≡ sha256 bytes) → NamesStart asked origins.Boot first m expected digest
read_named asked None now bytes m expected None read end is = (is.0, tt)
read_named asked None now bytes m expected (Some d) read end is = (is.0, tt)
read_named asked (Some text) None bytes m expected digest read end is = absurd read
read_named asked (Some text) (Some rest) bytes m expected None read end is = (is.0, tt)
read_named asked (Some text) (Some rest) bytes m expected (Some d) read end is =
    let all : text ≡ bytes = read ∙ ap (λ (more : List ℕ). bytes ++ more) end ∙ append-nil bytes in
    (is.0, is.1 ∙ ap sha256 (sym all))
