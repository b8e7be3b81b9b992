-- What the engine of audits does with what its source held.
use Rattle.std.specs.Prelude.{◌≡◌, ◌≢◌, ◌↔◌, ℕ, Bool, List, [], length, take, Option, Some, None, IsTrue}
use Rattle.std.specs.Io.KnownBytes.{Appends}
use Rattle.kc_dump.specs.Dump.{Dumped}
use Rattle.kc_dump.specs.Sound.{IsSound}
use Rattle.kc_dump_text.specs.Grammar.{IsDumpText}
use Rattle.kc_audit.specs.declared.finding.Finding.{Finding}
use Rattle.kc_audit.specs.Findings.{AreFindings}
use Rattle.kc_dump_text.specs.declared.fault.DumpFault.TheVariants as dumps
use Rattle.kc_faults.specs.declared.fault.TextFault.{TextFault}
use Rattle.kc_faults.specs.declared.fault.TextFault.TheVariants as texts
use Rattle.kc_audit.specs.Report.{written_of}

-- the text is a dump; what is written is the report of what is found in it, after a line for each finding if all are
-- wanted; and nothing is found if and only if the dump is sound
pub record IsAudited (all : Bool) (text : List ℕ) (sound : Bool) (written : List ℕ) : Type 0 where
  pub dump : Dumped
  pub found : List Finding
  pub read : IsDumpText text dump
  pub findings : AreFindings dump found
  pub reported : written ≡ written_of all found (length dump.frames)
  pub nothing : IsTrue sound ↔ (found ≡ [])
  pub in_order : IsTrue sound ↔ IsSound dump

-- the fault is one of the dump, or memory, and out of memory is never reported as a fault of the dump
abbrev pub IsDumpFault : TextFault → Type 0
IsDumpFault (texts.Dump fault) = fault ≢ dumps.Memory
IsDumpFault fault = fault ≡ texts.Memory

-- the sink took what is written of the dump that the source held, if the source reports it
abbrev pub Audits : Bool → Option (List ℕ) → Bool → Option (List ℕ) → Option (List ℕ) → Type 0
Audits all None sound old new = Unit {0}
Audits all (Some text) sound old new = (written : List ℕ) × IsAudited all text sound written × Appends old new written

-- the same for a beginning of it
abbrev pub BeginsAudit : Bool → Option (List ℕ) → Option (List ℕ) → Option (List ℕ) → Type 0
BeginsAudit all None old new = Unit {0}
BeginsAudit all (Some text) old new = (sound : Bool) × (written : List ℕ) × (n : ℕ) × IsAudited all text sound written × Appends old new (take n written)
