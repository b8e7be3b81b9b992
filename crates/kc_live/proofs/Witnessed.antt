-- What the witness of a journal has seen of its calls.
use Rattle.std.proofs.Common.{◌≡◌, ◌≤◌, ◌<◌, List, [], ◌∷◌, ◌++◌, ℕ, ◌+◌, ◌-◌, length, take, drop, get_or, ap, sym, subst, ◌∙◌, append_assoc, take-append-drop, length-append, arith}
use Rattle.std.proofs.lemmas.List.{length-drop, map-append, take-append-le, take_all, take_more}
use Rattle.sha2.specs.declared.Sha256.{Sha256}
use Rattle.kc_types.specs.declared.call.Call.{Call}
use Rattle.kc_trace.specs.declared.header.Header.{Header}
use Rattle.kc_redact.specs.Witness.{HasSeen}
use Rattle.kc_live.specs.declared.receipt.Entry.{Entry}
use Rattle.kc_live.specs.Book.{calls_of}

-- one entry more
pub noted_more : (calls : List Call) (entries : List Entry) (entry : Entry) (n : ℕ) → n < length entries → entry ≡ get_or entries n entry → (calls ++ calls_of (take n entries)) ++ entry.call ∷ [] ≡ calls ++ calls_of (take (n + 1) entries)
noted_more calls entries entry n lt is =
    let one = get_or entries n entry in
    let more : calls_of (take (n + 1) entries) ≡ calls_of (take n entries) ++ one.call ∷ [] =
    ap calls_of (take_more entries n entry lt) ∙ map-append (λ (e : Entry). e.call) (take n entries) (one ∷ []) in
    append_assoc calls (calls_of (take n entries)) (entry.call ∷ [])
    ∙ ap (λ (e : Entry). calls ++ (calls_of (take n entries) ++ e.call ∷ [])) is
    ∙ ap (λ rest. calls ++ rest) (sym more)

-- those that were seen, and the others
pub seen_and_rest : (entries : List Entry) (n : ℕ) → calls_of (take n entries) ++ calls_of (drop n entries) ≡ calls_of entries
seen_and_rest entries n = sym (map-append (λ (e : Entry). e.call) (take n entries) (drop n entries)) ∙ ap calls_of (take-append-drop n entries)

pub all_seen : (hasher : Sha256) (header : Header) (entries shown : List Entry) (n : ℕ) → shown ≡ entries → HasSeen hasher header (calls_of (take n entries) ++ calls_of (take (length shown - n) (drop n shown))) → HasSeen hasher header (calls_of entries)
all_seen hasher header entries shown n same seen =
    let rest : take (length shown - n) (drop n shown) ≡ drop n shown = take_all (length shown - n) (drop n shown) (omega (arith, length-drop n shown)) in
    subst (λ (calls : List Call). HasSeen hasher header calls)
    (ap (λ (es : List Entry). calls_of (take n entries) ++ calls_of es) (rest ∙ ap (drop n) same) ∙ seen_and_rest entries n) seen

pub all_seen_again : (hasher : Sha256) (header : Header) (entries shown : List Entry) → shown ≡ entries → HasSeen hasher header (calls_of entries) → HasSeen hasher header (calls_of (take (length shown) entries))
all_seen_again hasher header entries shown same seen =
    let few : length entries ≤ length shown = omega (arith, ap length same) in
    subst (λ (calls : List Call). HasSeen hasher header calls) (sym (ap calls_of (take_all (length shown) entries few))) seen

-- an entry more, which the witness has not seen
pub more_seen : (entries new : List Entry) (one : Entry) (seen : ℕ) (witness : Sha256) (header : Header) → new ≡ entries ++ one ∷ [] → seen ≤ length entries → HasSeen witness header (calls_of (take seen entries))
    → (seen ≤ length new) × HasSeen witness header (calls_of (take seen new))
more_seen entries new one seen witness header made some noted =
    let long : length (entries ++ one ∷ []) ≡ length entries + 1 = length-append entries (one ∷ []) in
    rw made (omega (arith, some, long), rw (take-append-le seen entries (one ∷ []) some) noted)
