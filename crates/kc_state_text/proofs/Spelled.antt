-- What each line spells: it is made of words, and nothing else has the same words.
use Rattle.std.proofs.Common.{ℕ, suc, ◌≡◌, ◌<◌, ◌≤◌, ◌^◌, inl, inr, Bool, true, false, cond, List, [], ◌∷◌, ◌++◌, length, map, get_or, Option, Some, None, All, refl, sym, ap, subst, ◌∙◌, arith}
use Rattle.std.specs.Prelude.{◌==◌, nat_lt, codes, option_map}
use Rattle.std.specs.List.{flat_map, list_all}
use Rattle.std.specs.Fmt.{decimal}
use Rattle.std.specs.Str.{bytes_eq}
use Rattle.std.proofs.lemmas.Bool.{and_parts, and_from, eqb-true, ltb-true}
use Rattle.std.proofs.lemmas.List.{length-map}
use Rattle.std.proofs.lemmas.Option.{same_Some}
use Rattle.hex.specs.Hex.{encode_lower}
use Rattle.kc_types.specs.Bytes.{IsData}
use Rattle.kc_types.specs.Limits.{second_frame_limit, second_slot_limit, first_gfn_limit, digest_limit}
use Rattle.kc_model.specs.State.{Vcpu, Image}
use Rattle.kc_model.specs.Lawful.{IsPage}
use Rattle.kc_lines.specs.Words.{number_in, data_of, digest_in}
use Rattle.kc_lines.proofs.Words.{is_word, chosen, map_some, then_some, name_is, decimal_is_word, encoded_is_word}
use Rattle.kc_lines.proofs.Numbers.{number_of-decimal}
use Rattle.kc_lines.proofs.Digits.{data_of-encode_lower}
use Rattle.kc_lines.proofs.Digests.{digest_again}
use Rattle.kc_dump_text.specs.Words.{below_of, under}
use Rattle.kc_dump_text.proofs.ReadWords.{number-from, under-from, under-to}
use Rattle.kc_snapshot.specs.Told.{SlotRest}
use Rattle.kc_model.specs.Volumes.{IsDigest}
use Rattle.kc_state_text.specs.declared.sizes.Sizes.{Sizes}
use Rattle.kc_state_text.specs.Words.{vcpu_in, waiting}
use Rattle.kc_state_text.specs.StateText.{sizes_words, approved_words, fault_word, vcpu_word, image_words, slot_words, is_zero, page_word, page_words}
use Rattle.kc_state_text.specs.Refused.{AreSizes, IsVcpuWord, AreImageWords, IsSlotLine}
use Rattle.kc_state_text.proofs.Lines.{AreWords}

-- ---- lists whose members are each spelled in one way

pub head-of : {X : Type 0} (P : X → Type 0) (x : X) (xs : List X) → All P (x ∷ xs) → P x
head-of P x xs all = all 0 x (omega arith)

pub tail-of : {X : Type 0} (P : X → Type 0) (x : X) (xs : List X) → All P (x ∷ xs) → All P xs
tail-of P x xs all k d lt = all (suc k) d (omega (arith, lt))

map-same : {X Y : Type 0} (spelled : X → Y) (P : X → Type 0) → ((x y : X) → P x → P y → spelled x ≡ spelled y → x ≡ y) → (xs ys : List X) → All P xs → All P ys → map spelled xs ≡ map spelled ys → xs ≡ ys
map-same spelled P one [] [] a b e = refl
map-same spelled P one [] (y ∷ ys) a b e = absurd (let long : 0 ≡ length (map spelled (y ∷ ys)) = ap length e in omega (arith, long))
map-same spelled P one (x ∷ xs) [] a b e = absurd (let long : length (map spelled (x ∷ xs)) ≡ 0 = ap length e in omega (arith, long))
map-same spelled P one (x ∷ xs) (y ∷ ys) a b e =
    let first : spelled x ≡ spelled y = cc in
    let rest : map spelled xs ≡ map spelled ys = cc in
    ap (λ z. z ∷ xs) (one x y (head-of P x xs a) (head-of P y ys b) first) ∙ ap (λ l. y ∷ l) (map-same spelled P one xs ys (tail-of P x xs a) (tail-of P y ys b) rest)

-- two lists after two others of one length
pub append-same : {X : Type 0} (xs ys cs ds : List X) → length xs ≡ length ys → xs ++ cs ≡ ys ++ ds → (xs ≡ ys) × (cs ≡ ds)
append-same [] [] cs ds long e = (refl, e)
append-same [] (y ∷ ys) cs ds long e = absurd (omega (arith, long))
append-same (x ∷ xs) [] cs ds long e = absurd (omega (arith, long))
append-same (x ∷ xs) (y ∷ ys) cs ds long e =
    let first : x ≡ y = cc in
    let more : xs ++ cs ≡ ys ++ ds = cc in
    let rest = append-same xs ys cs ds (omega (arith, long)) more in
    (ap (λ z. z ∷ xs) first ∙ ap (λ l. y ∷ l) rest.0, rest.1)

pub rest-same : {X : Type 0} (x y : X) (xs ys : List X) → x ∷ xs ≡ y ∷ ys → xs ≡ ys
rest-same x y xs ys e = cc

-- ---- words

pub decimal-same : (a b : ℕ) → a < 2 ^ 32 → b < 2 ^ 32 → decimal a ≡ decimal b → a ≡ b
decimal-same a b x y e = same_Some a b (sym (number_of-decimal a x) ∙ ap number_in e ∙ number_of-decimal b y)

few-same : (most : ℕ) → most < 2 ^ 32 → (a b : ℕ) → a ≤ most → b ≤ most → decimal a ≡ decimal b → a ≡ b
few-same most low a b x y e = decimal-same a b (omega (arith, low, x)) (omega (arith, low, y)) e

pub digits-same : (a b : List ℕ) → IsData a → IsData b → encode_lower a ≡ encode_lower b → a ≡ b
digits-same a b x y e = same_Some a b (sym (data_of-encode_lower a x) ∙ ap data_of e ∙ data_of-encode_lower b y)

no-number-dash : number_in (codes "-") ≡ None
unfolding number_in
no-number-dash = refl

no-number-dot : number_in (codes ".") ≡ None
unfolding number_in
no-number-dot = refl

no-data-dash : data_of (codes "-") ≡ None
unfolding data_of
no-data-dash = refl

-- ---- the sizes

-- sizes of a machine of any version
pub record AreNumbers (sizes : Sizes) : Type 0 where
  pub slots : sizes.slots < 2 ^ 32
  pub frames : sizes.frames < 2 ^ 32
  pub host : sizes.host < 2 ^ 32
  pub approved : sizes.approved < 2 ^ 32

pub numbers-are-words : (sizes : Sizes) → AreNumbers sizes → AreWords (codes "config" ∷ sizes_words sizes)
numbers-are-words sizes is = rw (decimal_is_word sizes.slots is.slots, decimal_is_word sizes.frames is.frames, decimal_is_word sizes.host is.host, decimal_is_word sizes.approved is.approved) refl

pub numbers-same : (a b : Sizes) → AreNumbers a → AreNumbers b → sizes_words a ≡ sizes_words b → a ≡ b
numbers-same a b x y e =
    let slots : decimal a.slots ≡ decimal b.slots = cc in
    let frames : decimal a.frames ≡ decimal b.frames = cc in
    let host : decimal a.host ≡ decimal b.host = cc in
    let approved : decimal a.approved ≡ decimal b.approved = cc in
    λ i. record {
      slots = decimal-same a.slots b.slots x.slots y.slots slots i;
      frames = decimal-same a.frames b.frames x.frames y.frames frames i;
      host = decimal-same a.host b.host x.host y.host host i;
      approved = decimal-same a.approved b.approved x.approved y.approved approved i;
    }

few-numbers : (sizes : Sizes) → AreSizes sizes → AreNumbers sizes
few-numbers sizes is =
    let slots = is.slots in let frames = is.frames in let host = is.host in let approved = is.approved in
    record { slots = omega (arith, slots); frames = omega (arith, frames); host = omega (arith, host); approved = omega (arith, approved) }

pub sizes-are-words : (sizes : Sizes) → AreSizes sizes → AreWords (codes "config" ∷ sizes_words sizes)
sizes-are-words sizes is = numbers-are-words sizes (few-numbers sizes is)

pub sizes-same : (a b : Sizes) → AreSizes a → AreSizes b → sizes_words a ≡ sizes_words b → a ≡ b
sizes-same a b x y e = numbers-same a b (few-numbers a x) (few-numbers b y) e

-- ---- approved digests

data-digest : (digest : List ℕ) → IsDigest digest → IsData digest
data-digest digest is = let long = is.long in record { nonempty = omega (arith, long); within = omega (arith, long); each_byte = is.each }

pub approved-are-words : (digest : List ℕ) → IsDigest digest → AreWords (codes "approved" ∷ approved_words digest)
approved-are-words digest is = rw (encoded_is_word digest (data-digest digest is)) refl

pub approved-same : (a b : List ℕ) → IsDigest a → IsDigest b → approved_words a ≡ approved_words b → a ≡ b
approved-same a b x y e = let word : encode_lower a ≡ encode_lower b = cc in digits-same a b (data-digest a x) (data-digest b y) word

pub approved-to : (digest : List ℕ) → IsDigest digest → digest_in (encode_lower digest) ≡ Some digest
approved-to digest is = digest_again digest is.long is.each

-- ---- virtual processors

small-gfn : (vcpu : Vcpu) → IsVcpuWord vcpu → (g : ℕ) → vcpu.fault ≡ Some g → g < 2 ^ 32
small-gfn vcpu is g e = let low = is.gfn g e in omega (arith, low)

fault-same : (a b : Option ℕ) → ((g : ℕ) → a ≡ Some g → g < 2 ^ 32) → ((g : ℕ) → b ≡ Some g → g < 2 ^ 32) → fault_word a ≡ fault_word b → a ≡ b
fault-same None None x y e = refl
fault-same None (Some g) x y e = (let no : None ≡ Some g = sym no-number-dot ∙ ap number_in e ∙ number_of-decimal g (y g refl) in absurd cc)
fault-same (Some g) None x y e = (let no : Some g ≡ None = sym (number_of-decimal g (x g refl)) ∙ ap number_in e ∙ no-number-dot in absurd cc)
fault-same (Some g) (Some h) x y e = ap Some (decimal-same g h (x g refl) (y h refl) e)

not-dash : (a : Option ℕ) → ((g : ℕ) → a ≡ Some g → g < 2 ^ 32) → fault_word a ≡ codes "-" → ⊥
not-dash None x e = let no : 46 ≡ 45 = ap (λ w. get_or w 0 0) e in omega (arith, no)
not-dash (Some g) x e = let no : Some g ≡ None = sym (number_of-decimal g (x g refl)) ∙ ap number_in e ∙ no-number-dash in cc

vcpu-same : (a b : Vcpu) → IsVcpuWord a → IsVcpuWord b → vcpu_word a ≡ vcpu_word b → a ≡ b
vcpu-same a b x y e = by_test a.registered b.registered refl refl e
  where
    by_test : (r s : Bool) → a.registered ≡ r → b.registered ≡ s → cond r (fault_word a.fault) (codes "-") ≡ cond s (fault_word b.fault) (codes "-") → a ≡ b
    by_test true true p q e = λ i. record { registered = (p ∙ sym q) i; fault = fault-same a.fault b.fault (small-gfn a x) (small-gfn b y) e i }
    by_test true false p q e = absurd (not-dash a.fault (small-gfn a x) e)
    by_test false true p q e = absurd (not-dash b.fault (small-gfn b y) (sym e))
    by_test false false p q e = λ i. record { registered = (p ∙ sym q) i; fault = (x.absent p ∙ sym (y.absent q)) i }

fault-is-word : (f : Option ℕ) → ((g : ℕ) → f ≡ Some g → g < 2 ^ 32) → is_word (fault_word f) ≡ true
fault-is-word None x = refl
fault-is-word (Some g) x = decimal_is_word g (x g refl)

vcpus-are-words : (vcpus : List Vcpu) → All IsVcpuWord vcpus → list_all is_word (map vcpu_word vcpus) ≡ true
vcpus-are-words [] all = refl
vcpus-are-words (v ∷ vs) all = and_from (is_word (vcpu_word v)) (list_all is_word (map vcpu_word vs)) (by_test v.registered) (vcpus-are-words vs (tail-of IsVcpuWord v vs all))
  where
    by_test : (r : Bool) → is_word (cond r (fault_word v.fault) (codes "-")) ≡ true
    by_test true = fault-is-word v.fault (small-gfn v (head-of IsVcpuWord v vs all))
    by_test false = refl

-- a number's word is not a name
unnamed : (n : ℕ) (text : List ℕ) → n < 2 ^ 32 → number_in text ≡ None → bytes_eq (decimal n) text ≡ false
unnamed n text lt none = by_test (bytes_eq (decimal n) text) refl
  where
    by_test : (b : Bool) → bytes_eq (decimal n) text ≡ b → bytes_eq (decimal n) text ≡ false
    by_test true h = (let same : decimal n ≡ text = name_is _ _ h in let some : number_in text ≡ Some n = rw same at (number_of-decimal n lt) in absurd cc)
    by_test false h = h

waiting-to : (f : Option ℕ) → ((g : ℕ) → f ≡ Some g → g < first_gfn_limit) → vcpu_in (fault_word f) ≡ Some (waiting f)
unfolding vcpu_in
waiting-to None x = refl
waiting-to (Some g) x =
    let low = x g refl in
    let small : g < 2 ^ 32 = omega (arith, low) in
    rw (unnamed g (codes "-") small no-number-dash, unnamed g (codes ".") small no-number-dot, number_of-decimal g small, under-to first_gfn_limit g low) refl

-- a virtual processor's word is read
pub vcpu-to : (vcpu : Vcpu) → IsVcpuWord vcpu → vcpu_in (vcpu_word vcpu) ≡ Some vcpu
unfolding vcpu_in
vcpu-to vcpu is = by_test vcpu.registered refl
  where
    by_test : (r : Bool) → vcpu.registered ≡ r → vcpu_in (cond r (fault_word vcpu.fault) (codes "-")) ≡ Some vcpu
    by_test true p = waiting-to vcpu.fault is.gfn ∙ (λ i. Some (record { registered = sym p i; fault = vcpu.fault }))
    by_test false p = λ i. Some (record { registered = sym p i; fault = sym (is.absent p) i })

under-below : (n m : ℕ) → under first_gfn_limit n ≡ Some m → m < first_gfn_limit
under-below n m e =
    elim (chosen (nat_lt n first_gfn_limit) (Some n) None (Some m) e) [
      | inl h ↦ let low = ltb-true n first_gfn_limit h.0 in let same : n ≡ m = same_Some n m h.1 in omega (arith, low, same)
      | inr h ↦ absurd cc
    ]

-- and no other word is
pub vcpu-from : (word : List ℕ) (vcpu : Vcpu) → vcpu_in word ≡ Some vcpu → IsVcpuWord vcpu × (word ≡ vcpu_word vcpu)
unfolding vcpu_in
vcpu-from word vcpu e =
    elim (chosen (bytes_eq word (codes "-")) (Some (record { registered = false; fault = None })) (cond (bytes_eq word (codes ".")) (Some (waiting None)) (option_map (λ g. waiting (Some g)) (below_of first_gfn_limit word))) (Some vcpu) e) [
      | inl h ↦ subst (λ v. IsVcpuWord v × (word ≡ vcpu_word v)) (same_Some _ _ h.1) (record { absent = λ p. refl; gfn = λ g p. absurd cc }, name_is word (codes "-") h.0)
      | inr h ↦ elim (chosen (bytes_eq word (codes ".")) (Some (waiting None)) (option_map (λ g. waiting (Some g)) (below_of first_gfn_limit word)) (Some vcpu) h.1) [
        | inl k ↦ subst (λ v. IsVcpuWord v × (word ≡ vcpu_word v)) (same_Some _ _ k.1) (record { absent = λ p. refl; gfn = λ g p. absurd cc }, name_is word (codes ".") k.0)
        | inr k ↦
            let r = map_some (λ g. waiting (Some g)) (below_of first_gfn_limit word) vcpu k.1 in
            let n = then_some (under first_gfn_limit) (number_in word) r.0 r.1 in
            let same : n.0 ≡ r.0 = under-from first_gfn_limit n.0 r.0 n.2 in
            subst (λ v. IsVcpuWord v × (word ≡ vcpu_word v)) r.2
            (record { absent = λ p. absurd cc; gfn = λ g p. subst (λ n. n < first_gfn_limit) (same_Some _ _ p) (under-below n.0 r.0 n.2) }, number-from word n.0 n.1 ∙ ap decimal same)
      ]
    ]

-- ---- images

images-same : (xs ys : List Image) → All AreImageWords xs → All AreImageWords ys → flat_map image_words xs ≡ flat_map image_words ys → xs ≡ ys
images-same [] [] a b e = refl
images-same [] (y ∷ ys) a b e = absurd (let long : 0 ≡ length (flat_map image_words (y ∷ ys)) = ap length e in omega (arith, long))
images-same (x ∷ xs) [] a b e = absurd (let long : length (flat_map image_words (x ∷ xs)) ≡ 0 = ap length e in omega (arith, long))
images-same (x ∷ xs) (y ∷ ys) a b e =
    let p = head-of AreImageWords x xs a in
    let q = head-of AreImageWords y ys b in
    let base : decimal x.base ≡ decimal y.base = cc in
    let len : decimal x.len ≡ decimal y.len = cc in
    let pages : decimal x.pages ≡ decimal y.pages = cc in
    let rest : flat_map image_words xs ≡ flat_map image_words ys = cc in
    let same : x ≡ y = λ i. record { base = decimal-same x.base y.base p.base q.base base i; len = decimal-same x.len y.len p.len q.len len i; pages = decimal-same x.pages y.pages p.pages q.pages pages i } in
    ap (λ z. z ∷ xs) same ∙ ap (λ l. y ∷ l) (images-same xs ys (tail-of AreImageWords x xs a) (tail-of AreImageWords y ys b) rest)

images-are-words : (images : List Image) → All AreImageWords images → list_all is_word (flat_map image_words images) ≡ true
images-are-words [] all = refl
images-are-words (x ∷ xs) all =
    let p = head-of AreImageWords x xs all in
    rw (decimal_is_word x.base p.base, decimal_is_word x.len p.len, decimal_is_word x.pages p.pages) (images-are-words xs (tail-of AreImageWords x xs all))

-- ---- slots

all-append : (test : List ℕ → Bool) (xs ys : List (List ℕ)) → list_all test xs ≡ true → list_all test ys ≡ true → list_all test (xs ++ ys) ≡ true
all-append test [] ys a b = b
all-append test (x ∷ xs) ys a b = let p = and_parts (test x) (list_all test xs) a in and_from (test x) (list_all test (xs ++ ys)) p.0 (all-append test xs ys p.1 b)

pub slot-are-words : (slot : SlotRest) → IsSlotLine slot → AreWords (codes "slot" ∷ slot_words slot)
slot-are-words slot is = all-append is_word (map vcpu_word slot.vcpus) (flat_map image_words slot.images) (vcpus-are-words slot.vcpus is.each_vcpu) (images-are-words slot.images is.each_image)

pub slot-same : (a b : SlotRest) → IsSlotLine a → IsSlotLine b → slot_words a ≡ slot_words b → a ≡ b
slot-same a b x y e =
    let both = append-same (map vcpu_word a.vcpus) (map vcpu_word b.vcpus) (flat_map image_words a.images) (flat_map image_words b.images)
    (length-map a.vcpus vcpu_word ∙ x.vcpus ∙ sym y.vcpus ∙ sym (length-map b.vcpus vcpu_word)) e in
    λ i. record { vcpus = map-same vcpu_word IsVcpuWord vcpu-same a.vcpus b.vcpus x.each_vcpu y.each_vcpu both.0 i; images = images-same a.images b.images x.each_image y.each_image both.1 i }

-- ---- pages

pub zeros-same : (xs ys : List ℕ) → length xs ≡ length ys → is_zero xs ≡ true → is_zero ys ≡ true → xs ≡ ys
zeros-same [] [] long a b = refl
zeros-same [] (y ∷ ys) long a b = absurd (omega (arith, long))
zeros-same (x ∷ xs) [] long a b = absurd (omega (arith, long))
zeros-same (x ∷ xs) (y ∷ ys) long a b =
    let p = and_parts (x == 0) (is_zero xs) a in
    let q = and_parts (y == 0) (is_zero ys) b in
    let first : x ≡ y = eqb-true x 0 p.0 ∙ sym (eqb-true y 0 q.0) in
    ap (λ z. z ∷ xs) first ∙ ap (λ l. y ∷ l) (zeros-same xs ys (omega (arith, long)) p.1 q.1)

pub data-page : (bytes : List ℕ) → IsPage bytes → IsData bytes
data-page bytes is = let long = is.whole in record { nonempty = omega (arith, long); within = omega (arith, long); each_byte = is.each_byte }

pub page-are-words : (bytes : List ℕ) → IsPage bytes → AreWords (codes "page" ∷ page_words bytes)
page-are-words bytes is = and_from (is_word (page_word bytes)) true (by_test (is_zero bytes)) refl
  where
    by_test : (z : Bool) → is_word (cond z (codes "-") (encode_lower bytes)) ≡ true
    by_test true = refl
    by_test false = encoded_is_word bytes (data-page bytes is)

pub page-same : (a b : List ℕ) → IsPage a → IsPage b → page_words a ≡ page_words b → a ≡ b
page-same a b x y e = by_test (is_zero a) (is_zero b) refl refl (let word : cond (is_zero a) (codes "-") (encode_lower a) ≡ cond (is_zero b) (codes "-") (encode_lower b) = cc in word)
  where
    by_test : (r s : Bool) → is_zero a ≡ r → is_zero b ≡ s → cond r (codes "-") (encode_lower a) ≡ cond s (codes "-") (encode_lower b) → a ≡ b
    by_test true true p q e = zeros-same a b (x.whole ∙ sym y.whole) p q
    by_test true false p q e = (let no : None ≡ Some b = sym no-data-dash ∙ ap data_of e ∙ data_of-encode_lower b (data-page b y) in absurd cc)
    by_test false true p q e = (let no : Some a ≡ None = sym (data_of-encode_lower a (data-page a x)) ∙ ap data_of e ∙ no-data-dash in absurd cc)
    by_test false false p q e = digits-same a b (data-page a x) (data-page b y) e

-- a word that is not a dash is a page's only if its digits are
pub page-undashed : (bytes word : List ℕ) → IsPage bytes → bytes_eq word (codes "-") ≡ false → word ≡ page_word bytes → (word ≡ encode_lower bytes) × (is_zero bytes ≡ false)
page-undashed bytes word is other e = by_test (is_zero bytes) refl e
  where
    by_test : (z : Bool) → is_zero bytes ≡ z → word ≡ cond z (codes "-") (encode_lower bytes) → (word ≡ encode_lower bytes) × (is_zero bytes ≡ false)
    by_test true p e = absurd (let same : bytes_eq (codes "-") (codes "-") ≡ false = rw e at other in let yes : bytes_eq (codes "-") (codes "-") ≡ true = refl in cc)
    by_test false p e = (e, p)
