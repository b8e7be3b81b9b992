-- The number of frames that each list should hold.
use Rattle.std.specs.Prelude.{ℕ, ◌≡◌, ◌<◌, ◌+◌, List, length, Option, Some, None, slice_index_or}
use Rattle.kc_types.specs.declared.owner.Owner.{Owner}
use Rattle.kc_types.specs.declared.owner.Owner.TheVariants.{Core, Host, Free, Vm}
use Rattle.kc_dump.specs.declared.line.FrameLine.{FrameLine}
use Rattle.kc_dump.specs.Sums.{sum_below}
use Rattle.kc_dump.specs.Lists.{owned}
use Rattle.kc_audit.specs.Findings.{list_owner}

-- the place of an owner's list among the lists
abbrev pub list_place : Owner → Option ℕ
list_place Core = None
list_place Host = None
list_place Free = Some 0
list_place (Vm v) = Some (v + 1)

-- the owners of this many lists have these numbers of frames among the first
pub record AreOwnerCounts (lines : List FrameLine) (first : ℕ) (lists : ℕ) (counts : List ℕ) : Type 0 where
  pub places : length counts ≡ lists
  pub counted : (p : ℕ) → p < lists → slice_index_or counts p 0 ≡ sum_below (owned lines (list_owner p)) first
