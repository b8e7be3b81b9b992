use Rattle.std.proofs.Common.{◌∙◌, ap, ap₂, arith, map, refl, replicate, sym}
use Rattle.std.proofs.lemmas.Simd.{map-map}
use Rattle.sha2.specs.Sha256.{sha256}
use Rattle.kc_digests.proofs.pages.digest_pages.Goals as goal

pub returns-then-are_zero : goal.returns-then-are_zero
returns-then-are_zero g c =
    let room = c.requires.room in
    let count = c.requires.count in
    c.fill.ensures ∙ ap₂ (λ n digest. replicate n digest) (omega (arith, room, count)) c.requires.zero ∙ sym (c.if-are_zero.ensures refl)

pub returns-else-are_zero : goal.returns-else-are_zero
returns-else-are_zero g c =
    c.hash_pages.ensures
    ∙ sym (map-map sha256 (λ page. page.now) _)
    ∙ ap (map sha256) c.bytes_of.ensures.bytes
    ∙ map-map sha256 g.P.Bytes.bytes c.args.pages.now
