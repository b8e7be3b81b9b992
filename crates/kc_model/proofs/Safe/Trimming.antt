-- Trimming leaves each image its bytes, with zeros after them.
use Rattle.std.proofs.Common.{ℕ, zero, suc, ◌≡◌, ◌<◌, ◌≤◌, ◌+◌, ◌-◌, ◌*◌, ◌%◌, ◌⊎◌, inl, inr, false, List, [], ◌∷◌, ◌++◌, length, take, replicate, get_or, refl, sym, ap, subst, ◌∙◌, arith, None, Some, All, append_assoc, append-nil, length-append}
use Rattle.std.proofs.lemmas.Bool.{cases_eq}
use Rattle.std.proofs.lemmas.Grind.{common_steps}
use Rattle.std.proofs.lemmas.List.{length-take-le}
use Rattle.std.proofs.lemmas.List.Folds.{list_any_at}
use Rattle.std.proofs.Math.Seq.{take-append_seam, take-append-add}
use Rattle.std.specs.List.{flat_map, range_with_len}
use Rattle.kc_types.specs.Configuration.{slot_count}
use Rattle.kc_types.specs.declared.call.Call.TheVariants.{Verify}
use Rattle.kc_model.specs.State.{State, Frame, Image, frame_at, slot_at, mapped_at}
use Rattle.kc_model.specs.Refusals.{refusal, backing, is_short, overlaps, pages_of}
use Rattle.kc_model.specs.Effects.{trimmed, all_trimmed, image_bytes, bytes_at, gfns_of}
use Rattle.kc_model.specs.Lawful.{IsLawful, Apart, holds}
use Rattle.kc_model.specs.Starting.{IsPadded}
use Rattle.kc_model.proofs.States.Lists.{changed-same, changed-other}
use Rattle.kc_model.proofs.States.Slots.{none-at}
use Rattle.kc_model.proofs.Lawful.GuestCalls.{exists-mapped}
use Rattle.kc_model.proofs.Lawful.Verifies.{HasLastPage, last_gfn, lawful-trimmed, each_last_page, verify-served, backing-of}
use Rattle.kc_model.proofs.Local.VerifyLocal.{pages-same}
use Rattle.kc_model.proofs.Views.Steps.{held}

snoc : (f : ℕ → List ℕ) (b k : ℕ) → flat_map f (range_with_len b (suc k)) ≡ flat_map f (range_with_len b k) ++ f (b + k)
snoc f b zero = let here : b + 0 ≡ b = omega arith in rw here (append-nil (f b))
snoc f b (suc k) = let there : (b + 1) + k ≡ b + suc k = omega arith in
    ap (λ l. f b ++ l) (snoc f (b + 1) k) ∙ ap (λ n. f b ++ (flat_map f (range_with_len (b + 1) k) ++ f n)) there ∙ sym (append_assoc (f b) (flat_map f (range_with_len (b + 1) k)) (f (b + suc k)))

pages-long : (f : ℕ → List ℕ) (b k : ℕ) → ((g : ℕ) → b ≤ g → g < b + k → length (f g) ≡ 4096) → length (flat_map f (range_with_len b k)) ≡ 4096 * k
pages-long f b zero each = omega arith
pages-long f b (suc k) each =
    let first = each b (omega arith) (omega arith) in
    let rest = pages-long f (b + 1) k (λ g low high. each g (omega (arith, low)) (omega (arith, high))) in
    length-append (f b) (flat_map f (range_with_len (b + 1) k)) ∙ omega (arith, first, rest)

-- each page of the image is mapped
IsMapped : State → ℕ → Image → Type 0
IsMapped m v image = (g : ℕ) → image.base ≤ g → g < image.base + pages_of image.len → mapped_at m v g ≡ Some (backing (mapped_at m v g))

some-same : (f k : ℕ) → Some f ≡ Some k → f ≡ k
some-same f k e = cc

-- a guest frame other than the trimmed one
elsewhere : (m : State) (v : ℕ) (x : Image) (g : ℕ) → IsLawful m → v < slot_count m.config → HasLastPage m v x → mapped_at m v g ≡ Some (backing (mapped_at m v g)) → (g ≡ last_gfn x → ⊥) → bytes_at (trimmed m v x) v g ≡ bytes_at m v g
elsewhere m v x g is lt last mapped ne =
    let k = backing (mapped_at m v (last_gfn x)) in
    let f = backing (mapped_at m v g) in
    let apart : f ≡ k → ⊥ = λ same.
    (let at_last : (frame_at m k).gfn ≡ Some (last_gfn x) = ((is.mapped v (last_gfn x) k lt).0 last).1 in
    let at_g : (frame_at m k).gfn ≡ Some g = subst (λ n. (frame_at m n).gfn ≡ Some g) same ((is.mapped v g f lt).0 mapped).1 in
    ne (some-same g (last_gfn x) (sym at_g ∙ at_last))) in
    ap (λ (frame : Frame). frame.bytes) (changed-other m k _ f apart)

page-long : (m : State) (v g : ℕ) → IsLawful m → v < slot_count m.config → mapped_at m v g ≡ Some (backing (mapped_at m v g)) → length (bytes_at m v g) ≡ 4096
page-long m v g is lt mapped = (is.each_frame (backing (mapped_at m v g)) (exists-mapped m v g (backing (mapped_at m v g)) is lt mapped)).page.whole

-- an image's pages, joined, if its own last page is trimmed: all but the last are as before, and the last has the
-- image's bytes and then zeros
record IsTrimmed (m : State) (v : ℕ) (x : Image) (k : ℕ) : Type 0 where
  front : List ℕ
  cut : List ℕ
  before : List ℕ
  zeros : ℕ
  now : flat_map (bytes_at (trimmed m v x) v) (gfns_of x) ≡ front ++ (cut ++ replicate zeros 0)
  was : flat_map (bytes_at m v) (gfns_of x) ≡ front ++ before
  first : take (length cut) before ≡ cut
  all : x.len ≡ length front + length cut
  rest : zeros ≡ 4096 * pages_of x.len - x.len

is_trimmed : (m : State) (v : ℕ) (x : Image) (k : ℕ) → IsLawful m → v < slot_count m.config → 0 < x.len → IsMapped m v x → pages_of x.len ≡ suc k → IsTrimmed m v x k
unfolding IsMapped
is_trimmed m v x k is lt some mapped n_is =
    let kept = (x.len - 1) % 4096 + 1 in
    let last : x.base + k ≡ last_gfn x = omega (arith, n_is) in
    let last_mapped : HasLastPage m v x = mapped (last_gfn x) (omega (arith, n_is)) (omega (arith, n_is)) in
    let front = flat_map (bytes_at m v) (range_with_len x.base k) in
    let page = bytes_at m v (x.base + k) in
    let front_same : flat_map (bytes_at (trimmed m v x) v) (range_with_len x.base k) ≡ front = pages-same (bytes_at (trimmed m v x) v) (bytes_at m v) x.base k (λ g low high.
    elsewhere m v x g is lt last_mapped (mapped g low (omega (arith, high, n_is))) (λ same. omega (arith, same, high, n_is))) in
    let page_now : bytes_at (trimmed m v x) v (x.base + k) ≡ take kept page ++ replicate (4096 - kept) 0 =
    subst (λ g. bytes_at (trimmed m v x) v g ≡ take kept (bytes_at m v g) ++ replicate (4096 - kept) 0) (sym last) (ap (λ (frame : Frame). frame.bytes) (changed-same m (backing (mapped_at m v (last_gfn x))) _ (exists-mapped m v (last_gfn x) _ is lt last_mapped))) in
    let long : length front ≡ 4096 * k = pages-long (bytes_at m v) x.base k (λ g low high. page-long m v g is lt (mapped g low (omega (arith, high, n_is)))) in
    let whole : length page ≡ 4096 = page-long m v (x.base + k) is lt (mapped (x.base + k) (omega arith) (omega (arith, n_is))) in
    let cut : length (take kept page) ≡ kept = length-take-le kept page (omega (arith, whole)) in
    record {
      front = front;
      cut = take kept page;
      before = page;
      zeros = 4096 - kept;
      now = ap (λ n. flat_map (bytes_at (trimmed m v x) v) (range_with_len x.base n)) n_is ∙ snoc (bytes_at (trimmed m v x) v) x.base k ∙ ap (λ l. l ++ bytes_at (trimmed m v x) v (x.base + k)) front_same ∙ ap (λ l. front ++ l) page_now;
      was = ap (λ n. flat_map (bytes_at m v) (range_with_len x.base n)) n_is ∙ snoc (bytes_at m v) x.base k;
      first = ap (λ n. take n page) cut;
      all = omega (arith, long, n_is, some, cut);
      rest = omega (arith, n_is, some);
    }

-- what the image has of them
cut-now : (m : State) (v : ℕ) (x : Image) (k : ℕ) (t : IsTrimmed m v x k) → image_bytes (trimmed m v x) v x ≡ t.front ++ t.cut
cut-now m v x k t =
    ap (take x.len) t.now
    ∙ ap (λ n. take n (t.front ++ (t.cut ++ replicate t.zeros 0))) t.all
    ∙ take-append-add t.front (t.cut ++ replicate t.zeros 0) (length t.cut)
    ∙ ap (λ l. t.front ++ l) (take-append_seam t.cut (replicate t.zeros 0))

-- an image keeps its bytes if its own last page is trimmed
own : (m : State) (v : ℕ) (x : Image) (k : ℕ) → IsLawful m → v < slot_count m.config → 0 < x.len → IsMapped m v x → pages_of x.len ≡ suc k → image_bytes (trimmed m v x) v x ≡ image_bytes m v x
own m v x k is lt some mapped n_is =
    let t = is_trimmed m v x k is lt some mapped n_is in
    cut-now m v x k t
    ∙ ap (λ l. t.front ++ l) (sym t.first)
    ∙ sym (take-append-add t.front t.before (length t.cut))
    ∙ ap (λ n. take n (t.front ++ t.before)) (sym t.all)
    ∙ ap (take x.len) (sym t.was)

-- and zeros follow them
own-padded : (m : State) (v : ℕ) (x : Image) (k : ℕ) → IsLawful m → v < slot_count m.config → 0 < x.len → IsMapped m v x → pages_of x.len ≡ suc k → IsPadded (trimmed m v x) v x
own-padded m v x k is lt some mapped n_is =
    let t = is_trimmed m v x k is lt some mapped n_is in
    t.now
    ∙ sym (append_assoc t.front t.cut (replicate t.zeros 0))
    ∙ ap (λ l. l ++ replicate t.zeros 0) (sym (cut-now m v x k t))
    ∙ ap (λ n. image_bytes (trimmed m v x) v x ++ replicate n 0) t.rest

-- an image does not have this one's last page
abbrev IsAway : Image → Image → Type 0
IsAway x y = y.base ≤ last_gfn x → last_gfn x < y.base + pages_of y.len → ⊥

-- another image that does not have this one's last page
other : (m : State) (v : ℕ) (x y : Image) → IsLawful m → v < slot_count m.config → HasLastPage m v x → IsMapped m v y → IsAway x y → image_bytes (trimmed m v x) v y ≡ image_bytes m v y
unfolding IsMapped
other m v x y is lt last mapped away = ap (take y.len) (pages-same (bytes_at (trimmed m v x) v) (bytes_at m v) y.base (pages_of y.len) (λ g low high.
    elsewhere m v x g is lt last (mapped g low high) (λ same. away (omega (arith, low, same)) (omega (arith, high, same)))))

-- an image is this one, or does not have its last page
IsApart : Image → Image → Type 0
IsApart x y = (x ≡ y) ⊎ IsAway x y

some-pages : (n : ℕ) → 0 < n → (k : ℕ) × (n ≡ suc k)
some-pages zero some = absurd (omega arith)
some-pages (suc k) some = (k, refl)

one : (m : State) (v : ℕ) (x y : Image) → IsLawful m → v < slot_count m.config → HasLastPage m v x → 0 < y.len → IsMapped m v y → IsApart x y → image_bytes (trimmed m v x) v y ≡ image_bytes m v y
unfolding IsApart
one m v x y is lt last some mapped (inl same) =
    let pages = some-pages (pages_of y.len) (omega (arith, some)) in
    subst (λ z. image_bytes (trimmed m v z) v y ≡ image_bytes m v y) (sym same) (own m v y pages.0 is lt some mapped pages.1)
one m v x y is lt last some mapped (inr away) = other m v x y is lt last mapped away

each : (m : State) (v : ℕ) (xs : List Image) (y : Image) → IsLawful m → v < slot_count m.config → All (HasLastPage m v) xs → All (λ x. IsApart x y) xs → 0 < y.len → IsMapped m v y → image_bytes (all_trimmed m v xs) v y ≡ image_bytes m v y
unfolding IsMapped
each m v [] y is lt last apart some mapped = refl
each m v (x ∷ xs) y is lt last apart some mapped =
    let here : HasLastPage m v x = last zero x (omega arith) in
    each (trimmed m v x) v xs y (lawful-trimmed m v x is lt here) lt (λ i d low. last (suc i) d (omega arith)) (λ i d low. apart (suc i) d (omega arith)) some mapped
    ∙ one m v x y is lt here some mapped (apart zero x (omega arith))

turned : (a b : Image) → overlaps a.base a.len b ≡ overlaps b.base b.len a
turned a b = grind (arith, common_steps)

apart-at : (images : List Image) (i j : ℕ) (d : Image) → i < length images → j < length images → (i ≡ j → ⊥) → Apart images → overlaps (get_or images i d).base (get_or images i d).len (get_or images j d) ≡ false
apart-at [] i j d i_lt j_lt ne apart = absurd (omega arith)
apart-at (x ∷ xs) zero zero d i_lt j_lt ne apart = absurd (ne refl)
apart-at (x ∷ xs) zero (suc j) d i_lt j_lt ne apart = none-at (overlaps x.base x.len) xs j d (omega arith) apart.0
apart-at (x ∷ xs) (suc i) zero d i_lt j_lt ne apart = turned (get_or xs i d) x ∙ none-at (overlaps x.base x.len) xs i d (omega arith) apart.0
apart-at (x ∷ xs) (suc i) (suc j) d i_lt j_lt ne apart = apart-at xs i j d (omega arith) (omega arith) (λ e. ne (ap suc e)) apart.1

disjoint : (x y : Image) → 0 < x.len → overlaps x.base x.len y ≡ false → y.base ≤ last_gfn x → last_gfn x < y.base + pages_of y.len → ⊥
disjoint x y some none low high = let pages : 0 < pages_of x.len = omega (arith, some) in absurd (grind (arith, common_steps, none, low, high, pages))

-- zeros still follow another image
padded-other : (m : State) (v : ℕ) (x y : Image) → IsLawful m → v < slot_count m.config → HasLastPage m v x → IsMapped m v y → IsAway x y → IsPadded m v y → IsPadded (trimmed m v x) v y
unfolding IsMapped
padded-other m v x y is lt last mapped away padded =
    let same = pages-same (bytes_at (trimmed m v x) v) (bytes_at m v) y.base (pages_of y.len) (λ g low high. elsewhere m v x g is lt last (mapped g low high) (λ same. away (omega (arith, low, same)) (omega (arith, high, same)))) in
    subst (λ l. l ≡ take y.len l ++ replicate (4096 * pages_of y.len - y.len) 0) (sym same) padded

padded-rest : (m : State) (v : ℕ) (xs : List Image) (y : Image) → IsLawful m → v < slot_count m.config → All (HasLastPage m v) xs → All (λ x. IsAway x y) xs → IsMapped m v y → IsPadded m v y → IsPadded (all_trimmed m v xs) v y
unfolding IsMapped
padded-rest m v [] y is lt last away mapped padded = padded
padded-rest m v (x ∷ xs) y is lt last away mapped padded =
    let here : HasLastPage m v x = last zero x (omega arith) in
    padded-rest (trimmed m v x) v xs y (lawful-trimmed m v x is lt here) lt (λ i d low. last (suc i) d (omega arith)) (λ i d low. away (suc i) d (omega arith)) mapped
    (padded-other m v x y is lt here mapped (away zero x (omega arith)) padded)

-- zeros follow each trimmed image if each image is away from all others
padded-at : (m : State) (v : ℕ) (xs : List Image) (j : ℕ) (d : Image) → IsLawful m → v < slot_count m.config → All (HasLastPage m v) xs → j < length xs → 0 < (get_or xs j d).len → IsMapped m v (get_or xs j d)
    → ((i : ℕ) (e : Image) → i < length xs → (i ≡ j → ⊥) → IsAway (get_or xs i e) (get_or xs j d)) → IsPadded (all_trimmed m v xs) v (get_or xs j d)
unfolding IsMapped
padded-at m v [] j d is lt last low some mapped away = absurd (omega arith)
padded-at m v (x ∷ xs) zero d is lt last low some mapped away =
    let here : HasLastPage m v x = last zero x (omega arith) in
    let pages = some-pages (pages_of x.len) (omega (arith, some)) in
    padded-rest (trimmed m v x) v xs x (lawful-trimmed m v x is lt here) lt (λ i e below. last (suc i) e (omega arith)) (λ i e below. away (suc i) e (omega arith) (λ same. omega (arith, same))) mapped
    (own-padded m v x pages.0 is lt some mapped pages.1)
padded-at m v (x ∷ xs) (suc j) d is lt last low some mapped away =
    let here : HasLastPage m v x = last zero x (omega arith) in
    padded-at (trimmed m v x) v xs j d (lawful-trimmed m v x is lt here) lt (λ i e below. last (suc i) e (omega arith)) (omega arith) some mapped
    (λ i e below ne. away (suc i) e (omega arith) (λ same. ne (omega (arith, same))))

other-default : (xs : List Image) (i : ℕ) (d e : Image) → i < length xs → get_or xs i d ≡ get_or xs i e
other-default [] i d e low = absurd (omega arith)
other-default (x ∷ xs) zero d e low = refl
other-default (x ∷ xs) (suc i) d e low = other-default xs i d e (omega arith)

same-place : (xs : List Image) (i j : ℕ) (d e : Image) → i < length xs → i ≡ j → get_or xs i d ≡ get_or xs j e
same-place xs i j d e low same = other-default xs i d e low ∙ ap (λ n. get_or xs n e) same

-- if a slot is measured, all pages of each image are mapped, and no image has the last page of another
measured-mapped : (m : State) (v : ℕ) → IsLawful m → refusal m (Verify v) ≡ None → (j : ℕ) (d : Image) → j < length (slot_at m v).images → IsMapped m v (get_or (slot_at m v).images j d)
unfolding IsMapped
measured-mapped m v is served j d j_lt = λ g low high.
    (let seen = verify-served m v served in
    let images = (slot_at m v).images in
    backing-of (mapped_at m v g) ((is.each_slot v seen.0).booting seen.1 g ∙ list_any_at (holds g) images j d j_lt (held (get_or images j d) g (none-at is_short images j d j_lt seen.2) low high)))

measured-away : (m : State) (v : ℕ) → IsLawful m → v < slot_count m.config → (i j : ℕ) (e d : Image) → i < length (slot_at m v).images → j < length (slot_at m v).images → (i ≡ j → ⊥) → IsAway (get_or (slot_at m v).images i e) (get_or (slot_at m v).images j d)
measured-away m v is lt i j e d i_lt j_lt ne =
    let images = (slot_at m v).images in
    let there = is.each_slot v lt in
    disjoint (get_or images i e) (get_or images j d) (there.each_image i e i_lt).some (subst (λ (z : Image). overlaps (get_or images i e).base (get_or images i e).len z ≡ false) (other-default images j e d j_lt) (apart-at images i j e i_lt j_lt ne there.apart))

-- all images of a slot that is measured keep their bytes
pub in-place : (m : State) (v : ℕ) → IsLawful m → refusal m (Verify v) ≡ None → (j : ℕ) (d : Image) → j < length (slot_at m v).images → image_bytes (all_trimmed m v (slot_at m v).images) v (get_or (slot_at m v).images j d) ≡ image_bytes m v (get_or (slot_at m v).images j d)
unfolding IsApart
in-place m v is served j d j_lt =
    let seen = verify-served m v served in
    let images = (slot_at m v).images in
    each m v images (get_or images j d) is seen.0 (each_last_page m v is seen.0 seen.1 seen.2) (λ i e i_lt. elim (cases_eq i j) [
      | inl same ↦ inl (same-place images i j e d i_lt same)
      | inr ne ↦ inr (measured-away m v is seen.0 i j e d i_lt j_lt ne)
    ]) ((is.each_slot v seen.0).each_image j d j_lt).some (measured-mapped m v is served j d j_lt)

-- and zeros follow each
pub padded : (m : State) (v : ℕ) → IsLawful m → refusal m (Verify v) ≡ None → All (IsPadded (all_trimmed m v (slot_at m v).images) v) (slot_at m v).images
padded m v is served j d j_lt =
    let seen = verify-served m v served in
    padded-at m v (slot_at m v).images j d is seen.0 (each_last_page m v is seen.0 seen.1 seen.2) j_lt ((is.each_slot v seen.0).each_image j d j_lt).some (measured-mapped m v is served j d j_lt) (λ i e i_lt ne. measured-away m v is seen.0 i j e d i_lt j_lt ne)
