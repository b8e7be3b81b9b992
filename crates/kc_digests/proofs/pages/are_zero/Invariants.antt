use Rattle.std.proofs.Common.{◌≡◌, take, map, replicate}
use Rattle.sha2.specs.Sha256.{sha256}
use Rattle.kc_model.specs.State.{zero_page}
use Rattle.kc_digests.specs.Digests.{digest_by}
use Rattle.kc_digests.proofs.pages.are_zero.Given as goal

abbrev pub invariant-pages : goal.invariant-pages
invariant-pages g l = map (digest_by g.P.Bytes.bytes) (take l.i l.pages) ≡ replicate l.i (sha256 zero_page)
