-- What an audit writes is given.
use Rattle.std.proofs.Common.{◌≡◌, ◌++◌, ℕ, Bool, List, [], Option, Some, None, take, rules}
use Rattle.std.specs.Io.KnownBytes.{Appends, Consumes, IsAtEnd}
use Rattle.kc_cli.specs.Audit.{IsAudited, Audits, BeginsAudit}

-- a source that was read to its end held what was read
held_is : (held read left : List ℕ) → held ≡ read ++ left → left ≡ [] → read ≡ held
held_is held read left h e = search rules

pub audits : (all : Bool) (source rest old new : Option (List ℕ)) (text written : List ℕ) (sound : Bool) → Consumes source rest text → IsAtEnd rest → IsAudited all text sound written
    → Appends old new written → Audits all source sound old new
audits all None rest old new text written sound taken end audit given = tt
audits all (Some held) None old new text written sound taken end audit given = absurd taken
audits all (Some held) (Some left) old new text written sound taken end audit given = let same = held_is held text left taken end in (written, (rw same at audit), given)

pub begins_audit : (all : Bool) (source rest old new : Option (List ℕ)) (text written : List ℕ) (sound : Bool) → Consumes source rest text → IsAtEnd rest → IsAudited all text sound written
    → ((n : ℕ) × Appends old new (take n written)) → BeginsAudit all source old new
begins_audit all None rest old new text written sound taken end audit cut = tt
begins_audit all (Some held) None old new text written sound taken end audit cut = absurd taken
begins_audit all (Some held) (Some left) old new text written sound taken end audit cut = let same = held_is held text left taken end in (sound, written, cut.0, (rw same at audit), cut.1)
