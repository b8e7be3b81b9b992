-- Which descriptions are those of no lawful state, and why.
use Rattle.std.specs.Prelude.{ℕ, ◌≡◌, ◌<◌, ◌==◌, [], ◌∷◌, List, length, slice_index_or}
use Rattle.std.specs.List.{list_any}
use Rattle.sha2.specs.Sha256.{sha256}
use Rattle.kc_types.specs.Configuration.{IsConfiguration}
use Rattle.kc_types.specs.declared.owner.Owner.TheVariants.{Free, Vm}
use Rattle.kc_types.specs.declared.slot.Phase.TheVariants.{Booting, Active}
use Rattle.kc_model.specs.State.{zero_page}
use Rattle.kc_model.specs.Lawful.{holds}
use Rattle.kc_types.specs.declared.version.Version.{Version}
use Rattle.kc_vms.specs.Vm.{IsSlot}
use Rattle.kc_dump.specs.declared.line.FrameLine.{FrameLine}
use Rattle.kc_dump.specs.Dump.{Dumped, SlotDump, slot_dump_at, line_at}
use Rattle.kc_dump.specs.Sound.{IsSound}
use Rattle.kc_audit.specs.declared.finding.Finding.{Finding}
use Rattle.kc_audit.specs.Findings.{AreFindings}
use Rattle.kc_snapshot.specs.declared.unlawful.Unlawful.{Unlawful}
use Rattle.kc_snapshot.specs.declared.unlawful.Unlawful.TheVariants as unlawful
use Rattle.kc_snapshot.specs.Told.{Told, SlotRest, config_of}

-- there is such a configuration, and each of its slots and frames is described
pub record IsSized (t : Told) : Type 0 where
  pub config : IsConfiguration (config_of t)
  pub pages : length t.rest.pages ≡ length t.dump.frames
  pub slots : length t.rest.slots ≡ length t.dump.slots

-- a lawful state of this version may have this slot, as far as one slot shows; while it boots, its table maps the
-- images' pages so far and nothing else
pub record IsSlotOf (version : Version) (slot : SlotDump) (rest : SlotRest) : Type 0 where
  pub kept : IsSlot version slot.phase rest.vcpus rest.images
  pub booting : slot.phase ≡ Booting → (g : ℕ) → list_any (λ (e : ℕ × ℕ). e.0 == g) slot.entries ≡ list_any (holds g) rest.images

-- the digest is that of the page, a free page is zero, and only an active slot shares
pub record IsFrameOf (d : Dumped) (line : FrameLine) (bytes : List ℕ) : Type 0 where
  pub digest : line.digest ≡ sha256 bytes
  pub zeroed : line.owner ≡ Free → bytes ≡ zero_page
  pub sharer : (v : ℕ) → line.owner ≡ Vm v → 0 < line.share → (slot_dump_at d v).phase ≡ Active

abbrev pub slot_rest_at : List SlotRest → ℕ → SlotRest
slot_rest_at rests v = slice_index_or rests v (record { vcpus = []; images = [] })

abbrev pub page_of : List (List ℕ) → ℕ → List ℕ
page_of pages f = slice_index_or pages f zero_page

-- a lawful state may have the slots, or the frames, before this one
abbrev pub AreSlotsOf : Dumped → List SlotRest → ℕ → Type 0
AreSlotsOf d rests n = (v : ℕ) → v < n → IsSlotOf d.version (slot_dump_at d v) (slot_rest_at rests v)

abbrev pub AreFramesOf : Dumped → List (List ℕ) → ℕ → Type 0
AreFramesOf d pages n = (f : ℕ) → f < n → IsFrameOf d (line_at d.frames f) (page_of pages f)

abbrev pub IsSlotTold : Told → ℕ → Type 0
IsSlotTold t v = IsSlotOf t.dump.version (slot_dump_at t.dump v) (slot_rest_at t.rest.slots v)

abbrev pub IsFrameTold : Told → ℕ → Type 0
IsFrameTold t f = IsFrameOf t.dump (line_at t.dump.frames f) (page_of t.rest.pages f)

abbrev pub AreSlotsTold : Told → ℕ → Type 0
AreSlotsTold t n = AreSlotsOf t.dump t.rest.slots n

abbrev pub AreFramesTold : Told → ℕ → Type 0
AreFramesTold t n = AreFramesOf t.dump t.rest.pages n

-- no lawful state has this description, and this is the first reason: its sizes, what an audit of the dump finds first,
-- the first slot, the first frame
abbrev pub IsUnlawful : Told → Unlawful → Type 0
IsUnlawful t unlawful.Sizes = IsSized t → ⊥
IsUnlawful t (unlawful.Found finding) = IsSized t × ((others : List Finding) × AreFindings t.dump (finding ∷ others))
IsUnlawful t (unlawful.Slot v) = IsSized t × IsSound t.dump × (v < length t.dump.slots) × AreSlotsTold t v × (IsSlotTold t v → ⊥)
IsUnlawful t (unlawful.Frame f) = IsSized t × IsSound t.dump × AreSlotsTold t (length t.dump.slots) × (f < length t.dump.frames) × AreFramesTold t f × (IsFrameTold t f → ⊥)
IsUnlawful t unlawful.Memory = Unit {0}
