-- What an audit finds in a dump.
use Rattle.std.specs.Prelude.{ℕ, zero, suc, ◌≡◌, ◌<◌, ◌+◌, ◌/◌, ◌↔◌, ◌==◌, ◌&&◌, ◌||◌, not, nat_lt, Bool, true, false, List, [], ◌∷◌, ◌++◌, length, map, Option, Some, None, is_some, if◌then◌else◌, IsTrue, slice_index_or}
use Rattle.std.specs.List.{range_with_len}
use Rattle.kc_types.specs.declared.link.Ends.{Ends}
use Rattle.kc_types.specs.declared.owner.Owner.{Owner}
use Rattle.kc_types.specs.declared.owner.Owner.TheVariants.{Core, Host, Free, Vm}
use Rattle.kc_model.specs.Lawful.{same_owner}
use Rattle.kc_model.specs.Resources.{is_in}
use Rattle.kc_model.specs.Refusals.{is_empty}
use Rattle.kc_dump.specs.declared.line.FrameLine.{FrameLine}
use Rattle.kc_audit.specs.declared.finding.Finding.{Finding}
use Rattle.kc_audit.specs.declared.finding.Finding.TheVariants as finding
use Rattle.kc_audit.specs.declared.verdict.FrameVerdict.{FrameVerdict}
use Rattle.kc_audit.specs.declared.verdict.FrameKind.{FrameKind}
use Rattle.kc_audit.specs.declared.verdict.FrameKind.TheVariants as kind
use Rattle.kc_dump.specs.Dump.{Dumped, SlotDump, line_at, line_owner, slot_dump_at, maps}
use Rattle.kc_dump.specs.Lists.{HasList}
use Rattle.kc_audit.specs.Verdicts.{verdict_by, shows, named}

-- whether the table of a frame's VM maps it where its record says
abbrev pub is_mapped : Dumped → ℕ → Owner → Option ℕ → Bool
is_mapped d f (Vm v) (Some g) = maps (slot_dump_at d v) g f
is_mapped d f (Vm v) None = false
is_mapped d f Core gfn = false
is_mapped d f Host gfn = false
is_mapped d f Free gfn = false

abbrev pub verdict_of : Dumped → ℕ → FrameVerdict
verdict_of d f = verdict_by d.core f (is_mapped d f (line_at d.frames f).owner (line_at d.frames f).gfn) (line_at d.frames f)

-- the verdicts on all frames
abbrev pub verdicts_of : Dumped → List FrameVerdict
verdicts_of d = map (verdict_of d) (range_with_len 0 (length d.frames))

-- what is wrong among these, the first of which has this number
abbrev pub named_where : {X : Type 0} → (X → Bool) → (ℕ → X → Finding) → ℕ → List X → List Finding
named_where wrong name i [] = []
named_where wrong name i (x ∷ xs) = if wrong x then name i x ∷ named_where wrong name (i + 1) xs else named_where wrong name (i + 1) xs

-- the frames that verdicts name, from this number on
abbrev pub frames_named : FrameKind → ℕ → List FrameVerdict → List Finding
frames_named kind = named_where (shows kind) (λ f verdict. named kind f)

-- the lists: first the free one, then each slot's
abbrev pub list_owner : ℕ → Owner
list_owner zero = Free
list_owner (suc v) = Vm v

abbrev pub list_ends : Dumped → ℕ → Ends
list_ends d zero = d.free
list_ends d (suc v) = (slot_dump_at d v).list

abbrev pub list_name : ℕ → Finding
list_name zero = finding.FreeChain
list_name (suc v) = finding.Chain v

-- for each list from this one on, whether there is a sequence that ends and links spell
abbrev pub AreListsFrom : Dumped → ℕ → List Bool → Type 0
AreListsFrom d start lists = (i : ℕ) → i < length lists → IsTrue (slice_index_or lists i false) ↔ HasList d.frames (list_owner (start + i)) (list_ends d (start + i))

pub record AreGoodLists (d : Dumped) (lists : List Bool) : Type 0 where
  pub count : length lists ≡ length d.slots + 1
  pub each : AreListsFrom d 0 lists

abbrev pub lists_named : ℕ → List Bool → List Finding
lists_named = named_where (λ good. not good) (λ i good. list_name i)

abbrev pub is_gfn : Option ℕ → ℕ → Bool
is_gfn None g = false
is_gfn (Some h) g = h == g

-- the frame is the slot's, and has this guest frame
abbrev pub says : List FrameLine → ℕ → ℕ → ℕ → Bool
says lines v g f = same_owner (line_owner lines f) (Vm v) && is_gfn (line_at lines f).gfn g

abbrev pub entries_named : List FrameLine → ℕ → List (ℕ × ℕ) → List Finding
entries_named lines v = named_where (λ (e : ℕ × ℕ). not (says lines v e.0 e.1)) (λ i e. finding.Entry v e.0) 0

abbrev pub all_entries_named : List FrameLine → ℕ → List SlotDump → List Finding
all_entries_named lines v [] = []
all_entries_named lines v (slot ∷ slots) = entries_named lines v slot.entries ++ all_entries_named lines (v + 1) slots

abbrev pub has_double : List ℕ → Bool
has_double [] = false
has_double (x ∷ xs) = is_in xs x || has_double xs

-- each mapped guest frame's root slot has a leaf
abbrev pub all_rooted : List ℕ → List (ℕ × ℕ) → Bool
all_rooted leaves [] = true
all_rooted leaves (e ∷ es) = is_in leaves (e.0 / 512) && all_rooted leaves es

-- a root slot is there twice, there are too many, or that of a mapped guest frame is missing
abbrev pub wrong_leaves : ℕ → SlotDump → Bool
wrong_leaves limit slot = nat_lt limit (length slot.leaves) || has_double slot.leaves || not (all_rooted slot.leaves slot.entries)

-- the slot is empty, and its list, leaves or entries are not
abbrev pub wrong_empty : SlotDump → Bool
wrong_empty slot = is_empty slot.phase && (is_some slot.list.head || is_some slot.list.tail || not (slot.list.count == 0) || not (length slot.leaves == 0) || not (length slot.entries == 0))

abbrev pub leaves_named : ℕ → ℕ → List SlotDump → List Finding
leaves_named limit = named_where (wrong_leaves limit) (λ v slot. finding.Leaves v)

abbrev pub empty_named : ℕ → List SlotDump → List Finding
empty_named = named_where wrong_empty (λ v slot. finding.Empty v)

-- the findings, by kinds, if these lists are good
abbrev pub findings_by : Dumped → List Bool → List Finding
findings_by d lists =
    frames_named kind.CoreOwner 0 (verdicts_of d)
    ++ frames_named kind.Linked 0 (verdicts_of d)
    ++ lists_named 0 lists
    ++ all_entries_named d.frames 0 d.slots
    ++ frames_named kind.Gfn 0 (verdicts_of d)
    ++ frames_named kind.Share 0 (verdicts_of d)
    ++ frames_named kind.Present 0 (verdicts_of d)
    ++ leaves_named d.leaves 0 d.slots
    ++ empty_named 0 d.slots
    ++ frames_named kind.Bytes 0 (verdicts_of d)

-- the findings of a dump: by kinds in their order, each subject once, in ascending order
pub record AreFindings (d : Dumped) (found : List Finding) : Type 0 where
  pub lists : List Bool
  pub good : AreGoodLists d lists
  pub named : found ≡ findings_by d lists
