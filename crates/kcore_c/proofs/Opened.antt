-- A trace of a machine whose configuration was read may have a head.
use Rattle.std.proofs.Common.{◌≡◌, ◌<◌, ℕ, List, [], ◌∷◌, length, All, Option, Some, None}
use Rattle.std.specs.Prelude.{Ok, IfSome}
use Rattle.std.specs.List.{AllByRecursion}
use Rattle.kc_types.specs.Configuration.{Configuration, IsConfiguration}
use Rattle.kc_model.specs.Volumes.{IsDigest}
use Rattle.kc_trace.specs.declared.header.Position.{Position}
use Rattle.kc_trace.specs.Header.{IsPosition}
use Rattle.kc_config_text.specs.ConfigText.{config_in}
use Rattle.kc_config_text.proofs.Approved.{approved_are}
use Rattle.kc_live.specs.Book.{MayRecord, header_at}

are_digests : (digests : List (List ℕ)) → AllByRecursion (λ digest. (length digest ≡ 32) × All (λ b. b < 256) digest) digests → AllByRecursion IsDigest digests
are_digests [] are = tt
are_digests (digest ∷ digests) are = (record { long = are.0.0; each = are.0.1 }, are_digests digests are.1)

pub may_boot : (position : Option Position) (text : List ℕ) (config : Configuration) → IfSome position IsPosition → config_in text ≡ Ok config → IsConfiguration config → MayRecord (header_at config position)
may_boot None text config is said kept = tt
may_boot (Some position) text config is said kept = record { config = kept; digests = are_digests config.approved (approved_are text config said); position = is }
