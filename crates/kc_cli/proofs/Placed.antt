-- What may come after a volume.
use Rattle.std.proofs.Common.{Bool, true, false, ◌≡◌, List, refl}
use Rattle.kc_types.specs.declared.call.Call.{Call}
use Rattle.kc_trace.specs.declared.header.Header.{Header}
use Rattle.kc_trace.specs.declared.header.Header.TheVariants.{One, Two, Three}
use Rattle.kc_trace.specs.Expected.{expected_after}
use Rattle.kc_cli.specs.Traced.{Traced, expected_next, digest_if}

-- what may come after a volume, by the digest that it has
pub next_is : (asked : Bool) (volume : Traced) → expected_after volume.header (digest_if asked volume) ≡ expected_next volume
next_is asked volume = by_header volume.header asked volume.calls
  where
    by_header : (header : Header) (asked : Bool) (calls : List Call) → expected_after header (digest_if asked (record { header = header; calls = calls })) ≡ expected_next (record { header = header; calls = calls })
    by_header One asked calls = refl
    by_header Two asked calls = refl
    by_header (Three head) true calls = refl
    by_header (Three head) false calls = refl
