-- Pages that are made one after another, and pages in chunks.
use Rattle.std.proofs.Common.{ℕ, ◌≡◌, ◌<◌, ◌+◌, Bool, true, false, List, [], ◌∷◌, ◌++◌, length, map, take, drop, Some, refl, sym, ap, ap₂, subst, ◌∙◌, arith}
use Rattle.std.specs.Prelude.{slice_get, if◌then◌else◌}
use Rattle.std.specs.List.{range_with_len}
use Rattle.std.proofs.lemmas.List.{length-map, take_at}
use Rattle.std.proofs.lemmas.List.FromFn.{map-range_with_len_more, length-map-range_with_len, get_or-map-range_with_len}
use Rattle.std.proofs.lemmas.Option.{slice_get-get_or}
use Rattle.kc_page.specs.declared.page.Page.{Page}
use Rattle.kc_page.specs.Page.{scrubbed_page}
use Rattle.kc_page.specs.PageBytes.{zeroed}
use Rattle.kc_parts.specs.declared.layout.Layout.{Layout}
use Rattle.kc_parts.specs.Chunks.{owner_at_boot, record_at_boot, page_at_boot, pages_at_boot, pages_of, sparse_zeros}
use Rattle.kc_parts.specs.Marks.{is_marked, scrubbed_if_marked}

pub none-at-boot : (l : Layout) (first : ℕ) → pages_at_boot l first 0 ≡ []
unfolding pages_at_boot
none-at-boot l first = refl

pub more-at-boot : (l : Layout) (first n : ℕ) (old new : List Page) (page : Page) → old ≡ pages_at_boot l first n → new ≡ old ++ page ∷ [] → page ≡ page_at_boot l (first + n) → new ≡ pages_at_boot l first (n + 1)
unfolding pages_at_boot
more-at-boot l first n old new page so_far pushed is =
    pushed ∙ ap (λ p. old ++ p ∷ []) is ∙ ap (λ o. o ++ page_at_boot l (first + n) ∷ []) so_far
    ∙ sym (map-range_with_len_more (page_at_boot l) first n (first + n) refl)

pub length-at-boot : (l : Layout) (first count : ℕ) → length (pages_at_boot l first count) ≡ count
unfolding pages_at_boot
length-at-boot l first count = length-map-range_with_len (page_at_boot l) first count

-- a chunk has as many pages as it counts
pub length-of : (l : Layout) (first count : ℕ) (pages : List Page) → (0 < length pages → length pages ≡ count) → length (pages_of l first count pages) ≡ count
length-of l first count [] whole = length-at-boot l first count
length-of l first count (page ∷ pages) whole = whole (omega arith)

-- pages that are made are seen as they are
pub seen-made : (l : Layout) (first count : ℕ) (pages : List Page) → length pages ≡ count → pages_of l first count pages ≡ pages
seen-made l first count [] long = ap (pages_at_boot l first) (sym long) ∙ none-at-boot l first
seen-made l first count (page ∷ pages) long = refl

-- a page of a chunk none of whose pages is made
pub none-made : (pages : List Page) → length pages ≡ 0 → pages ≡ []
none-made [] none = refl
none-made (page ∷ pages) none = absurd (omega (arith, none))

-- a page of a chunk none of whose pages is made
pub page-unmade : (l : Layout) (first count at : ℕ) → at < count → slice_get (pages_at_boot l first count) at ≡ Some (page_at_boot l (first + at))
unfolding pages_at_boot
page-unmade l first count at low =
    slice_get-get_or (map (page_at_boot l) (range_with_len first count)) at (page_at_boot l (first + at)) (subst (λ n. at < n) (sym (length-map-range_with_len (page_at_boot l) first count)) low)
    ∙ ap Some (get_or-map-range_with_len (page_at_boot l) first count at (first + at) (page_at_boot l (first + at)) low refl)

-- a list that is written back whole
pub written-back : {X : Type 0} (f : X → X) (xs new : List X) (n : ℕ) → n ≡ length xs → new ≡ map f xs → take n (new ++ drop (length new) xs) ≡ map f xs
written-back f xs new n count is = ap (λ ys. take n (ys ++ drop (length ys) xs)) is ∙ take_at (map f xs) (drop (length (map f xs)) xs) n (length-map xs f ∙ sym count)

-- a change that leaves pages as at boot as they are is seen in all pages of a chunk
changed-at-boot : (f : Page → Page) (l : Layout) (fs : List ℕ) → ((g : ℕ) → f (page_at_boot l g) ≡ page_at_boot l g) → map f (map (page_at_boot l) fs) ≡ map (page_at_boot l) fs
changed-at-boot f l [] same = refl
changed-at-boot f l (g ∷ fs) same = ap₂ ◌∷◌ (same g) (changed-at-boot f l fs same)

changed-of : (f : Page → Page) (l : Layout) (first count : ℕ) (pages : List Page) → ((g : ℕ) → f (page_at_boot l g) ≡ page_at_boot l g) → pages_of l first count (map f pages) ≡ map f (pages_of l first count pages)
unfolding pages_at_boot
changed-of f l first count [] same = sym (changed-at-boot f l (range_with_len first count) same)
changed-of f l first count (page ∷ pages) same = refl

pub scrubbed-of : (l : Layout) (first count : ℕ) (pages : List Page) → pages_of l first count (map scrubbed_page pages) ≡ map scrubbed_page (pages_of l first count pages)
scrubbed-of l first count pages = changed-of scrubbed_page l first count pages (λ g. refl)

pub marked-of : (marks : List Bool) (l : Layout) (first count : ℕ) (pages : List Page) → pages_of l first count (map (scrubbed_if_marked marks) pages) ≡ map (scrubbed_if_marked marks) (pages_of l first count pages)
marked-of marks l first count pages = changed-of (scrubbed_if_marked marks) l first count pages (λ g. either-way (is_marked marks (owner_at_boot l g)) g)
  where
    either-way : (b : Bool) (g : ℕ) → record { meta = record_at_boot l g; bytes = if b then zeroed sparse_zeros else sparse_zeros } ≡ page_at_boot l g
    either-way true g = refl
    either-way false g = refl
