-- What an audit reports.
use Rattle.std.specs.Prelude.{ℕ, Bool, true, false, List, [], ◌∷◌, ◌++◌, length, codes}
use Rattle.std.specs.List.{flat_map}
use Rattle.std.specs.Fmt.{decimal}
use Rattle.kc_audit.specs.declared.finding.Finding.{Finding}
use Rattle.kc_audit.specs.declared.finding.Finding.TheVariants as finding

-- the kind of a finding, followed by the slot, guest frame or frame
abbrev pub finding_text : Finding → List ℕ
finding_text (finding.CoreOwner f) = codes "core-owner " ++ decimal f
finding_text (finding.Linked f) = codes "linked " ++ decimal f
finding_text finding.FreeChain = codes "chain free"
finding_text (finding.Chain v) = codes "chain " ++ decimal v
finding_text (finding.Entry v g) = codes "entry " ++ (decimal v ++ (codes " " ++ decimal g))
finding_text (finding.Gfn f) = codes "gfn " ++ decimal f
finding_text (finding.Share f) = codes "share " ++ decimal f
finding_text (finding.Present f) = codes "present " ++ decimal f
finding_text (finding.Leaves v) = codes "leaves " ++ decimal v
finding_text (finding.Empty v) = codes "empty " ++ decimal v
finding_text (finding.Bytes f) = codes "bytes " ++ decimal f

-- the text of the first finding, empty if there is none
abbrev pub first_text : List Finding → List ℕ
first_text [] = []
first_text (first ∷ rest) = finding_text first

-- the number of findings, and the first
abbrev pub found_text : List Finding → List ℕ
found_text found = codes "{\"findings\":" ++ (decimal (length found) ++ (codes ",\"first\":\"" ++ first_text found))

-- a compact JSON object and a line feed: the number of findings, the first, and the number of the dump's frames
abbrev pub report_of : List Finding → ℕ → List ℕ
report_of found frames = found_text found ++ (codes "\",\"frames\":" ++ decimal frames) ++ codes "}\n"

-- a compact JSON object with a finding, and a line feed
abbrev pub finding_line : Finding → List ℕ
finding_line f = codes "{\"finding\":\"" ++ finding_text f ++ codes "\"}\n"

-- each finding as a line, if all are wanted
abbrev pub all_text : Bool → List Finding → List ℕ
all_text true found = flat_map finding_line found
all_text false found = []

-- these lines and then the report
abbrev pub written_of : Bool → List Finding → ℕ → List ℕ
written_of all found frames = all_text all found ++ report_of found frames
