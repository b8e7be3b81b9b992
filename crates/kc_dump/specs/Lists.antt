-- When the ends and the links of a dump are those of an owner's list.
use Rattle.std.specs.Prelude.{ℕ, ◌≡◌, List, if◌then◌else◌}
use Rattle.kc_types.specs.declared.link.Ends.{Ends}
use Rattle.kc_types.specs.declared.owner.Owner.{Owner}
use Rattle.kc_model.specs.Lawful.{same_owner, times_in}
use Rattle.kc_links.specs.Ending.{Chain}
use Rattle.kc_dump.specs.declared.line.FrameLine.{FrameLine}
use Rattle.kc_dump.specs.Dump.{line_owner, line_links}

-- 1 for a frame of the owner, and otherwise 0
abbrev pub owned : List FrameLine → Owner → ℕ → ℕ
owned lines owner f = if same_owner (line_owner lines f) owner then 1 else 0

-- ends and links spell the sequence, forwards and backwards, and it has each frame of the owner once, and no other
pub record Spells (lines : List FrameLine) (owner : Owner) (ends : Ends) (frames : List ℕ) : Type 0 where
  pub chain : Chain (line_links lines) ends frames
  pub each : (f : ℕ) → times_in frames f ≡ owned lines owner f

-- there is such a sequence
pub record HasList (lines : List FrameLine) (owner : Owner) (ends : Ends) : Type 0 where
  pub frames : List ℕ
  pub spelled : Spells lines owner ends frames
