-- The bytes of pages, and their digests.
use Rattle.std.proofs.Common.{ℕ, zero, suc, ◌≡◌, ◌<◌, List, [], ◌∷◌, length, get_or, map, refl, arith, ap}
use Rattle.sha2.specs.Sha256.{sha256}
use Rattle.kc_page.specs.PageBytes.{Content}
use Rattle.kc_digests.specs.Digests.{digest_of_bytes}
use Rattle.kc_snapshot.specs.Told.{bytes_of}
use Rattle.kc_snapshot.specs.Unlawful.{page_of}
use Rattle.kc_snapshot.specs.Making.{content_of}

pub page_read : (pages : List Content) (f : ℕ) → page_of (bytes_of pages) f ≡ (content_of pages f).bytes
page_read [] f = refl
page_read (page ∷ pages) zero = refl
page_read (page ∷ pages) (suc f) = page_read pages f

pub digests_of : (pages : List Content) → map digest_of_bytes pages ≡ map sha256 (bytes_of pages)
digests_of [] = refl
digests_of (page ∷ pages) = ap (λ (digests : List (List ℕ)). sha256 page.bytes ∷ digests) (digests_of pages)

pub digest_read : (pages : List Content) (f : ℕ) (d : List ℕ) → f < length pages → get_or (map sha256 (bytes_of pages)) f d ≡ sha256 (content_of pages f).bytes
digest_read [] f d low = absurd (omega (arith, low))
digest_read (page ∷ pages) zero d low = refl
digest_read (page ∷ pages) (suc f) d low = digest_read pages f d (omega (arith, low))
