-- The redacted calls of a trace make a trace under the same header.
use Rattle.std.proofs.Common.{ℕ, zero, suc, ◌≡◌, ◌+◌, ◌-◌, ◌*◌, Bool, true, false, List, [], ◌∷◌, ◌++◌, take, length, replicate, refl, ap, ◌∙◌, arith}
use Rattle.std.proofs.lemmas.List.{length-replicate, length-map, take_all}
use Rattle.std.specs.Prelude.{if◌then◌else◌}
use Rattle.hex.specs.Hex.{encode_lower, encode_with}
use Rattle.kc_types.specs.Bytes.{IsData}
use Rattle.kc_trace.specs.declared.header.Header.{Header}
use Rattle.kc_trace.specs.declared.header.Header.TheVariants.{One, Two, Three}
use Rattle.kc_types.specs.declared.call.Call.{Call}
use Rattle.kc_types.specs.declared.call.Call.TheVariants.{HostWrite, GuestWrite}
use Rattle.kc_model.specs.State.{State, frame_at}
use Rattle.kc_model.specs.Next.{next}
use Rattle.kc_model.specs.Lawful.{IsLawful}
use Rattle.kc_model.specs.Redaction.{counts, TellTheSame}
use Rattle.kc_model.proofs.States.ZeroPage.{zeros-are_bytes}
use Rattle.kc_model.proofs.Redaction.Traces.{bytes_decide_nothing}
use Rattle.kc_model.proofs.Redaction.Blank.{told_alike, keeps-all, wholly-differ}
use Rattle.kc_remarks.proofs.Unread.{unread, notes_redacted}
use Rattle.kc_trace.specs.Header.{IsHeader, host_redacted}
use Rattle.kc_trace.specs.Spelling.{text_of, is_allowed_in}
use Rattle.kc_trace.specs.Trace.{IsCallOf, AreCalls, IsTrace}
use Rattle.kc_redact.specs.Redacted.{blanked, redacted_call, redacted, redacted_in, redacted_from, all_frames, DifferInBytes, IsRedaction, IsHostRedaction}

-- ---- zeros as digits

pub digits_of_zeros : (n : ℕ) → encode_lower (replicate n 0) ≡ replicate (2 * n) 48
unfolding encode_with
digits_of_zeros zero = refl
digits_of_zeros (suc n) =
    let twice : 2 * suc n ≡ suc (suc (2 * n)) = omega arith in
    rw twice (ap (λ digits. 48 ∷ 48 ∷ digits) (digits_of_zeros n))

-- a text that zeros made longer
pub padded : (old new : List ℕ) (total n count : ℕ) (ok : Bool) → length old ≡ n → total ≡ n + count → ok ≡ true → new ≡ (if ok then take total old ++ replicate (total - n) 48 else old) → new ≡ old ++ replicate count 48
padded old new total n count ok size sum done is =
    let made : new ≡ take total old ++ replicate (total - n) 48 = rw done at is in
    let all : take total old ≡ old = take_all total old (omega (arith, size, sum)) in
    let more : total - n ≡ count = omega (arith, sum) in
    made ∙ ap (λ front. front ++ replicate (total - n) 48) all ∙ ap (λ k. old ++ replicate k 48) more

-- ---- a redacted trace is a trace

blanked-is : (bytes : List ℕ) → IsData bytes → IsData (blanked bytes)
blanked-is bytes is =
    let number : length (blanked bytes) ≡ length bytes = length-replicate {A = ℕ} (length bytes) 0 in
    let some = is.nonempty in
    let few = is.within in
    record {
      nonempty = omega (arith, number, some);
      within = omega (arith, number, few);
      each_byte = zeros-are_bytes (length bytes);
    }

stands-too : (header : Header) (call : Call) → is_allowed_in header call ≡ true → is_allowed_in header (redacted_call call) ≡ true
stands-too One (GuestWrite v c g off bytes) h = refl
stands-too One _ h = h
stands-too Two _ h = refl
stands-too (Three head) _ h = refl

redacted-is : (header : Header) (call : Call) → IsCallOf header call → IsCallOf header (redacted_call call)
redacted-is header (GuestWrite v c g off bytes) is = ((is.0.0, is.0.1, is.0.2, is.0.3, blanked-is bytes is.0.4), stands-too header (GuestWrite v c g off bytes) is.1)
redacted-is header _ is = is

redacted-are : (header : Header) (calls : List Call) → AreCalls header calls → AreCalls header (redacted calls)
redacted-are header [] are = tt
redacted-are header (call ∷ calls) are = (redacted-is header call are.0, redacted-are header calls are.1)

pub is_redaction : (text other : List ℕ) (calls : List Call) (read : IsTrace text calls) → other ≡ text_of read.0 (redacted calls) → IsRedaction text other calls
is_redaction text other calls read written = record {
  header = read.0;
  read = read;
  whole = read.1.whole;
  written = written;
  trace = (
    read.0,
    record {
      valid = read.1.valid;
      whole = written;
      each = redacted-are read.0 calls read.1.each;
      few = let few = read.1.few in omega (arith, few, length-map calls redacted_call);
    },
  );
  events = λ m is. (told_alike m calls is).events;
  custody = λ m is. (told_alike m calls is).custody;
  notes = λ m is. (notes_redacted m calls is).same;
}

-- ---- and so it is without what the host writes to frames of active VMs

data-kept : (b : Bool) (bytes : List ℕ) → IsData bytes → IsData (if b then bytes else blanked bytes)
data-kept true bytes is = is
data-kept false bytes is = blanked-is bytes is

host-is : (m : State) (header : Header) (call : Call) → IsCallOf header call → IsCallOf header (redacted_in all_frames m call)
host-is m header (HostWrite f off bytes) is = ((is.0.0, is.0.1, data-kept (counts all_frames m f (frame_at m f).owner) bytes is.0.2), host-stands header is.1)
  where
    host-stands : (v : Header) → is_allowed_in v (HostWrite f off bytes) ≡ true → is_allowed_in v (redacted_in all_frames m (HostWrite f off bytes)) ≡ true
    host-stands One h = refl
    host-stands Two h = refl
    host-stands (Three head) h = refl
host-is m header (GuestWrite v c g off bytes) is = redacted-is header (GuestWrite v c g off bytes) is
host-is m header _ is = is

host-are : (m : State) (header : Header) (calls : List Call) → AreCalls header calls → AreCalls header (redacted_from m calls)
host-are m header [] are = tt
host-are m header (call ∷ calls) are = (host-is m header call are.0, host-are (next m call).1 header calls are.1)

pub host-number : (m : State) (calls : List Call) → length (redacted_from m calls) ≡ length calls
host-number m [] = refl
host-number m (call ∷ calls) = ap suc (host-number (next m call).1 calls)

-- from any such state, the redacted calls say what the calls say
told-from : (m n : State) (calls : List Call) → IsLawful m → IsLawful n → DifferInBytes all_frames m n → TellTheSame all_frames m n calls (redacted_from m calls)
told-from m n calls is other differ = bytes_decide_nothing m calls is all_frames n (redacted_from m calls) other differ (wholly-differ m calls) (keeps-all calls)

-- a header that says that the host's bytes are redacted is one, and allows the same calls
still-header : (header : Header) → IsHeader header → IsHeader (host_redacted header)
still-header One is = is
still-header Two is = is
still-header (Three head) is = record { config = is.config; digests = is.digests; position = is.position }

still-calls : (header : Header) (calls : List Call) → AreCalls header calls → AreCalls (host_redacted header) calls
still-calls One calls each = each
still-calls Two calls each = each
still-calls (Three head) [] each = tt
still-calls (Three head) (call ∷ calls) each = (each.0, still-calls (Three head) calls each.1)

pub is_host_redaction : (m : State) (text other : List ℕ) (calls : List Call) → IsLawful m → (read : IsTrace text calls) → other ≡ text_of (host_redacted read.0) (redacted_from m calls) → IsHostRedaction m text other calls
is_host_redaction m text other calls is read written = record {
  header = read.0;
  read = read;
  whole = read.1.whole;
  written = written;
  trace = (
    host_redacted read.0,
    record {
      valid = still-header read.0 read.1.valid;
      whole = written;
      each = still-calls read.0 (redacted_from m calls) (host-are m read.0 calls read.1.each);
      few = let few = read.1.few in omega (arith, few, host-number m calls);
    },
  );
  events = λ n lawful differ. (told-from m n calls is lawful differ).events;
  custody = λ n lawful differ. (told-from m n calls is lawful differ).custody;
  notes = λ n lawful differ. unread m calls is all_frames n (redacted_from m calls) lawful differ (wholly-differ m calls) (keeps-all calls);
}
