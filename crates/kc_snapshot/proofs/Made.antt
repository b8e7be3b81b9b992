-- The parts of a core's dump, one after another.
use Rattle.std.proofs.Common.{ℕ, ◌≡◌, ◌<◌, ◌+◌, List, [], ◌∷◌, ◌++◌, length, map, take, get_or, refl, sym, ap, ◌∙◌, arith}
use Rattle.std.specs.List.{range_with_len}
use Rattle.std.specs.Borrow.{Bor}
use Rattle.std.proofs.lemmas.List.{ext_get_or, get_or-map, length-map, map-append, take_more}
use Rattle.std.proofs.lemmas.List.FromFn.{map-range_with_len_more, get_or-map-range_with_len, length-map-range_with_len}
use Rattle.kc_types.specs.Configuration.{slot_count}
use Rattle.kc_model.specs.State.{State, Frame, frame_at, slot_at, untouched, no_slot}
use Rattle.kc_model.specs.Links.{link_at}
use Rattle.kc_model.specs.Lawful.{IsLawful}
use Rattle.kc_page.specs.declared.page.PageRecord.{PageRecord}
use Rattle.kc_page.specs.Page.{IsRecordOf}
use Rattle.kc_page.specs.PageBytes.{Content}
use Rattle.kc_types.specs.declared.owner.Owner.TheVariants.{Core}
use Rattle.sha2.specs.Sha256.{sha256}
use Rattle.kc_dump.specs.declared.line.FrameLine.{FrameLine}
use Rattle.kc_dump.specs.Dump.{empty_dump}
use Rattle.kc_digests.specs.Digests.{digest_lent, digest_of_bytes}
use Rattle.kc_core.specs.KCore.{AreBytesOf}
use Rattle.kc_snapshot.specs.Dumping.{frame_line, digests_of, slot_dump, slot_dumps}

-- one more, by its number
pub more : {X : Type 0} (f : ℕ → X) (n k : ℕ) (old new : List X) (x : X) → old ≡ map f (range_with_len 0 n) → new ≡ old ++ x ∷ [] → x ≡ f k → k ≡ n → new ≡ map f (range_with_len 0 (n + 1))
more f n k old new x so_far pushed made is =
    let last : x ≡ f n = made ∙ ap f is in
    pushed ∙ ap (λ l. l ++ x ∷ []) so_far ∙ ap (λ y. map f (range_with_len 0 n) ++ y ∷ []) last ∙ sym (map-range_with_len_more f 0 n n (omega arith))

pages-digests : (all : List (Bor Content)) (frames : List Frame) → map (λ (lent : Bor Content). lent.now.bytes) all ≡ map (λ (frame : Frame). frame.bytes) frames → map digest_lent all ≡ map (λ (frame : Frame). sha256 frame.bytes) frames
pages-digests all frames is = lent all ∙ ap (map sha256) is ∙ sym (framed frames)
  where
    lent : (all : List (Bor Content)) → map digest_lent all ≡ map sha256 (map (λ (lent : Bor Content). lent.now.bytes) all)
    lent [] = refl
    lent (page ∷ pages) = ap (λ l. sha256 page.now.bytes ∷ l) (lent pages)

    framed : (frames : List Frame) → map (λ (frame : Frame). sha256 frame.bytes) frames ≡ map sha256 (map (λ (frame : Frame). frame.bytes) frames)
    framed [] = refl
    framed (frame ∷ frames) = ap (λ l. sha256 frame.bytes ∷ l) (framed frames)

pub digests-made : (m : State) (all : List (Bor Content)) (digests : List (List ℕ)) → AreBytesOf m all → digests ≡ map digest_lent all → digests ≡ digests_of m
digests-made m all digests is made = made ∙ pages-digests all m.frames is

pub slots-made : (m : State) → IsLawful m → slot_dumps m (slot_count m.config) ≡ map slot_dump m.slots
slots-made m is = ext_get_or empty_dump _ _ (length-map-range_with_len (λ v. slot_dump (slot_at m v)) 0 (slot_count m.config) ∙ sym (length-map m.slots slot_dump ∙ is.slots)) (λ i low.
    let within : i < slot_count m.config = rw (length-map-range_with_len (λ v. slot_dump (slot_at m v)) 0 (slot_count m.config)) at low in
    get_or-map-range_with_len (λ v. slot_dump (slot_at m v)) 0 (slot_count m.config) i i empty_dump within (omega arith)
    ∙ sym (get_or-map slot_dump m.slots i no_slot empty_dump (rw is.slots within)))

pub line-made : (m : State) (f : ℕ) (meta : PageRecord) (digest : List ℕ) → IsRecordOf m f meta → digest ≡ sha256 (frame_at m f).bytes
    → ◌≡◌ {A = FrameLine} (record { owner = meta.owner; share = meta.share; gfn = meta.gfn; present = meta.present; prev = meta.prev; next = meta.next; digest = digest }) (frame_line (frame_at m f) (link_at m f))
line-made m f meta digest is same = λ i. record { owner = is.owner i; share = is.share i; gfn = is.gfn i; present = is.present i; prev = is.prev i; next = is.next i; digest = same i }

pub digest-at : (m : State) (digests : List (List ℕ)) (f : ℕ) (d : List ℕ) → digests ≡ digests_of m → f < length m.frames → get_or digests f d ≡ sha256 (frame_at m f).bytes
digest-at m digests f d is low = ap (λ ds. get_or ds f d) is ∙ get_or-map (λ (frame : Frame). sha256 frame.bytes) m.frames f (untouched Core) d low

-- the digests of all frames, by their numbers
pub digests-ranged : (m : State) (count : ℕ) → count ≡ length m.frames → map (λ f. sha256 (frame_at m f).bytes) (range_with_len 0 count) ≡ digests_of m
digests-ranged m count all = ext_get_or [] _ _ (length-map-range_with_len (λ f. sha256 (frame_at m f).bytes) 0 count ∙ all ∙ sym (length-map m.frames (λ (frame : Frame). sha256 frame.bytes))) (λ i low.
    let within : i < count = rw (length-map-range_with_len (λ f. sha256 (frame_at m f).bytes) 0 count) at low in
    get_or-map-range_with_len (λ f. sha256 (frame_at m f).bytes) 0 count i i [] within (omega arith)
    ∙ sym (get_or-map (λ (frame : Frame). sha256 frame.bytes) m.frames i (untouched Core) [] (rw (← all) within)))

-- the digests of the first pages and of one more
pub digest-more : (pages : List Content) (n : ℕ) (page : Content) (old new : List (List ℕ)) (x : List ℕ) → old ≡ map digest_of_bytes (take n pages) → new ≡ old ++ x ∷ [] → x ≡ digest_of_bytes page → n < length pages → page ≡ get_or pages n page
    → new ≡ map digest_of_bytes (take (n + 1) pages)
digest-more pages n page old new x so_far pushed made low is =
    pushed ∙ ap (λ (l : List (List ℕ)). l ++ x ∷ []) so_far ∙ ap (λ (y : List ℕ). map digest_of_bytes (take n pages) ++ y ∷ []) (made ∙ ap digest_of_bytes is)
    ∙ sym (ap (map digest_of_bytes) (take_more pages n page low) ∙ map-append digest_of_bytes (take n pages) (get_or pages n page ∷ []))
