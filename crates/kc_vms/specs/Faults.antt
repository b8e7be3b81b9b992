-- Why a guest frame cannot be mapped.
use Rattle.std.specs.Prelude.{ℕ, Option, Some, None, is_some, if◌then◌else◌}
use Rattle.std.specs.FinMap as map
use Rattle.kc_vms.specs.declared.table.MapFault.{MapFault}
use Rattle.kc_vms.specs.declared.table.MapFault.TheVariants.{Mapped, TablesFull}
use Rattle.kc_vms.specs.Stage2.{Table, fits}

abbrev pub map_fault : Table → ℕ → Option MapFault
map_fault t g = if is_some (map.get t.mapped g) then Some Mapped else if fits t g then None else Some TablesFull
