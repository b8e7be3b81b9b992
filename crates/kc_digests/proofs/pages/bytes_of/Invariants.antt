use Rattle.std.proofs.Common.{◌≡◌, length, take, map}
use Rattle.std.specs.List.{All}
use Rattle.kc_digests.proofs.pages.bytes_of.Given as goal

abbrev pub invariant-pages : goal.invariant-pages
invariant-pages g l = (length l.bytes ≡ 8) × (map (λ page. page.now) (take l.i l.bytes) ≡ map g.P.Bytes.bytes (take l.i l.pages))
    × All (λ page. length page.now ≡ 4096) l.bytes
