use Rattle.std.proofs.Common.{◌≡◌, map, take}
use Rattle.kc_digests.specs.Digests.{digest_of_bytes}
use Rattle.kc_snapshot.proofs.digesting.bytes_digests_alone.Given as goal

abbrev pub invariant-loop-page : goal.invariant-loop-page
invariant-loop-page l = l.digests.items ≡ map digest_of_bytes (take l.page-index l.pages)
