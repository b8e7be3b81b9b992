-- Marks on the frames that tables map where the frames' records say.
use Rattle.std.specs.Prelude.{ℕ, ◌≡◌, ◌==◌, ◌&&◌, Bool, false, List, length, Some, slice_index_or}
use Rattle.std.specs.List.{list_any}
use Rattle.kc_types.specs.declared.owner.Owner.TheVariants.{Vm}
use Rattle.kc_dump.specs.Dump.{Dumped, line_at, line_owner, slot_dump_at, maps}

abbrev pub has_entry : List (ℕ × ℕ) → ℕ → ℕ → Bool
has_entry entries g f = list_any (λ (e : ℕ × ℕ). e.0 == g && e.1 == f) entries

-- a VM's frame with a guest frame is marked exactly if the table maps that guest frame to it
pub record AreMarks (d : Dumped) (marks : List Bool) : Type 0 where
  pub count : length marks ≡ length d.frames
  pub each : (f v g : ℕ) → line_owner d.frames f ≡ Vm v → (line_at d.frames f).gfn ≡ Some g → slice_index_or marks f false ≡ maps (slot_dump_at d v) g f
