-- Reading with zeros in place of what virtual processors write is reading, and then redacting.
use Rattle.std.proofs.Common.{◌≡◌, ℕ, Bool, true, false, cond, List, [], ◌∷◌, length, Option, Some, None, Result, Ok, Err, refl, sym, ap, ◌∙◌, append-nil, arith}
use Rattle.std.specs.Prelude.{codes, option_map, option_and_then}
use Rattle.std.specs.Str.{bytes_eq}
use Rattle.std.proofs.lemmas.List.{map-append}
use Rattle.kc_trace.specs.declared.header.Header.{Header}
use Rattle.kc_trace.specs.declared.header.Header.TheVariants.{One, Two, Three}
use Rattle.kc_types.specs.declared.call.Call.{Call}
use Rattle.kc_types.specs.declared.call.Call.TheVariants.{Take, Give, HostFault, HostRead, HostWrite, RegisterVm, RegisterVcpu, SetBoot, Remap, Verify, Map, GuestWrite, Grant, Revoke, GrantRange, RevokeRange, Drop, Clear}
use Rattle.kc_model.specs.Redaction.{redacted_call, redacted}
use Rattle.kc_lines.specs.Words.{data_of}
use Rattle.kc_trace.specs.declared.fault.TraceFault.{TraceFault}
use Rattle.kc_trace.specs.declared.fault.TraceFault.TheVariants.{NoHeader, BadLine, NoNewline, TooManyCalls, Misplaced, Memory}
use Rattle.kc_trace.specs.declared.line.GuestData.{GuestData}
use Rattle.kc_trace.specs.declared.line.GuestData.TheVariants.{Read, Blanked}
use Rattle.kc_trace.specs.Spelling.{is_allowed_in}
use Rattle.kc_trace.specs.Reading.{one_word, with_one_number, with_two_numbers, with_three_numbers, with_four_numbers}
use Rattle.kc_trace.specs.Machine.{◌>>=◌, Fails, Progress, standing, with_front, feed}
use Rattle.kc_trace.specs.Redacting.{call_by, redacted_read, read_by}
use Rattle.kc_trace.proofs.Runs.{and_then_feed, feed_nothing}

-- ---- a call that no virtual processor makes to write

abbrev pub Stays : Option Call → Type 0
Stays found = option_map redacted_call found ≡ found

-- it is read the same either way
pub stays_by : (guests : GuestData) (found read whole : Option Call) → found ≡ read → read ≡ whole → Stays read → found ≡ call_by guests whole
stays_by Read found read whole is same stays = is ∙ same
stays_by Blanked found read whole is same stays = is ∙ sym stays ∙ ap (option_map redacted_call) same

if_stays : (t : Bool) (call : Call) (others : Option Call) → redacted_call call ≡ call → Stays others → Stays (cond t (Some call) others)
if_stays true call others one rest = ap Some one
if_stays false call others one rest = rest

then_stays : (o : Option ℕ) (f : ℕ → Option Call) → ((n : ℕ) → Stays (f n)) → Stays (option_and_then f o)
then_stays None f each = refl
then_stays (Some n) f each = each n

pub none_stays : Stays None
none_stays = refl

pub one_word_stays : (name : List ℕ) → Stays (one_word name)
one_word_stays name = if_stays (bytes_eq name (codes "take")) Take None refl refl

one_number_stays : (name : List ℕ) (a : ℕ) → Stays (with_one_number name a)
one_number_stays name a =
    let is : (word : List ℕ) → Bool = λ word. bytes_eq name word in
    if_stays (is (codes "give")) (Give a) _ refl
    (if_stays (is (codes "hfault")) (HostFault a) _ refl (if_stays (is (codes "regvm")) (RegisterVm a) _ refl (if_stays (is (codes "verify")) (Verify a) _ refl (if_stays (is (codes "clear")) (Clear a) None refl refl))))

two_numbers_stay : (name : List ℕ) (a b : ℕ) → Stays (with_two_numbers name a b)
two_numbers_stay name a b = if_stays (bytes_eq name (codes "regvcpu")) (RegisterVcpu a b) None refl refl

three_numbers_stay : (name : List ℕ) (a b c : ℕ) → Stays (with_three_numbers name a b c)
three_numbers_stay name a b c =
    let is : (word : List ℕ) → Bool = λ word. bytes_eq name word in
    if_stays (is (codes "hread")) (HostRead a b c) _ refl
    (if_stays (is (codes "setboot")) (SetBoot a b c) _ refl (if_stays (is (codes "remap")) (Remap a b c) _ refl (if_stays (is (codes "map")) (Map a b c) _ refl (if_stays (is (codes "grant")) (Grant a b c) _ refl (if_stays (is (codes "revoke")) (Revoke a b c) _ refl (if_stays (is (codes "drop")) (Drop a b c) None refl refl))))))

four_numbers_stay : (name : List ℕ) (a b c d : ℕ) → Stays (with_four_numbers name a b c d)
four_numbers_stay name a b c d =
    if_stays (bytes_eq name (codes "grantr")) (GrantRange a b c d) _ refl (if_stays (bytes_eq name (codes "revoker")) (RevokeRange a b c d) None refl refl)

host_write_stays : (a b : ℕ) (found : Option (List ℕ)) → Stays (option_map (HostWrite a b) found)
host_write_stays a b None = refl
host_write_stays a b (Some bytes) = refl

pub two_words_stay : (name : List ℕ) (a : Option ℕ) → Stays (option_and_then (with_one_number name) a)
two_words_stay name a = then_stays a _ (one_number_stays name)

pub three_words_stay : (name : List ℕ) (a b : Option ℕ) → Stays (option_and_then (λ x. option_and_then (with_two_numbers name x) b) a)
three_words_stay name a b = then_stays a _ (λ x. then_stays b _ (two_numbers_stay name x))

pub four_words_stay : (name : List ℕ) (a b c : Option ℕ) → Stays (option_and_then (λ x. option_and_then (λ y. option_and_then (with_three_numbers name x y) c) b) a)
four_words_stay name a b c = then_stays a _ (λ x. then_stays b _ (λ y. then_stays c _ (three_numbers_stay name x y)))

pub five_words_stay : (name : List ℕ) (a b c d : Option ℕ)
    → Stays (option_and_then (λ x. option_and_then (λ y. option_and_then (λ z. option_and_then (with_four_numbers name x y z) d) c) b) a)
five_words_stay name a b c d = then_stays a _ (λ x. then_stays b _ (λ y. then_stays c _ (λ z. then_stays d _ (four_numbers_stay name x y z))))

pub host_words_stay : (last : List ℕ) (a b : Option ℕ) → Stays (option_and_then (λ x. option_and_then (λ y. option_map (HostWrite x y) (data_of last)) b) a)
host_words_stay last a b = then_stays a _ (λ x. then_stays b _ (λ y. host_write_stays x y (data_of last)))

-- ---- lines

allowed_too : (header : Header) (call : Call) → is_allowed_in header (redacted_call call) ≡ is_allowed_in header call
allowed_too One (GuestWrite a b c d bytes) = refl
allowed_too One _ = refl
allowed_too Two call = refl
allowed_too (Three head) call = refl

pub standing_by : (guests : GuestData) (header : Header) (found : Option Call) → standing header (call_by guests found) ≡ call_by guests (standing header found)
standing_by Read header found = refl
standing_by Blanked header None = refl
standing_by Blanked header (Some call) = ap (λ b. cond b (Some (redacted_call call)) None) (allowed_too header call) ∙ of (is_allowed_in header call)
  where
    of : (b : Bool) → cond b (Some (redacted_call call)) None ≡ option_map redacted_call (cond b (Some call) None)
    of true = refl
    of false = refl

-- ---- pieces

pub nothing_by : (guests : GuestData) (p : Progress) → read_by guests (Ok (p, [])) ≡ Ok (p, [])
nothing_by Read p = refl
nothing_by Blanked p = refl

pub fails_by : (guests : GuestData) (fault : TraceFault) (read : Result (Progress × List Call) TraceFault) → Fails fault read → Fails fault (read_by guests read)
fails_by Read fault read h = h
fails_by Blanked NoHeader read h = ap redacted_read h
fails_by Blanked (BadLine n) read h = ap redacted_read h
fails_by Blanked NoNewline read h = ap redacted_read h
fails_by Blanked TooManyCalls read h = ap redacted_read h
fails_by Blanked (Misplaced wrong) read h = ap redacted_read h
fails_by Blanked Memory read h = tt

front_redacted : (front : List Call) (read : Result (Progress × List Call) TraceFault) → redacted_read (with_front front read) ≡ with_front (redacted front) (redacted_read read)
front_redacted front (Ok x) = ap (λ (calls : List Call). Ok (x.0, calls)) (map-append redacted_call front x.1)
front_redacted front (Err fault) = refl

pub then_by : (guests : GuestData) (rest : List ℕ) (read : Result (Progress × List Call) TraceFault)
    → read_by guests (and_then_feed rest read) ≡ (read_by guests read >>= λ a. with_front a.1 (read_by guests (feed a.0 rest)))
then_by Read rest read = refl
then_by Blanked rest (Ok x) = front_redacted x.1 (feed x.0 rest)
then_by Blanked rest (Err fault) = refl

pub done_by : (guests : GuestData) (front : List Call) (p : Progress) (rest : List ℕ) (total : Result (Progress × List Call) TraceFault) → length rest ≡ 0 → with_front front (read_by guests (feed p rest)) ≡ total → total ≡ Ok (p, front)
done_by guests front p [] total none so_far =
    sym so_far ∙ ap (λ read. with_front front (read_by guests read)) (feed_nothing p) ∙ ap (with_front front) (nothing_by guests p) ∙ ap (λ (calls : List Call). Ok (p, calls)) (append-nil front)
done_by guests front p (byte ∷ left) total none so_far = absurd (omega arith)
