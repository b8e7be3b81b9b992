-- What a measure was fed.
use Rattle.std.specs.Prelude.{ℕ, List}
use Rattle.sha2.specs.Hashers.{Holds256}
use Rattle.kc_vms.specs.declared.measure.Measure.{Measure}

-- the measure was fed these bytes, and no others
abbrev pub WasFed : Measure → List ℕ → Type 0
WasFed measure bytes = Holds256 measure.hasher bytes
