-- Whose a cell is, by what each owner had of it.
use Rattle.std.specs.Prelude.{ℕ, ◌≡◌, ◌+◌, ◌-◌, ◌*◌, ◌<◌, ◌≤◌}
use Rattle.kc_picture.specs.declared.cells.Most.{Most}
use Rattle.kc_picture.specs.declared.cells.Whose.{Whose}
use Rattle.kc_picture.specs.declared.cells.Whose.TheVariants.{Vm, Several, Rest}

-- a cell is the VM's that had most if it had more than all other VMs together; several's if VMs had some of it and none more
-- than all others; and another owner's only if no VM had any of it
abbrev pub IsOf : Most → Whose → Type 0
IsOf most (Vm v) = (v ≡ most.vm) × (most.of_vms < 2 * most.of_vm)
IsOf most Several = (0 < most.of_vms) × (2 * most.of_vm ≤ most.of_vms)
IsOf most (Rest colour) = most.of_vms ≡ 0

-- a colour goes as many hundredths of the way to white as others than VMs had of a cell, to within ten
abbrev pub IsTrueToShare : (of_vms size paleness : ℕ) → Type 0
IsTrueToShare of_vms size paleness = (paleness * size ≤ 100 * (size - of_vms) + 10 * size) × (100 * (size - of_vms) ≤ paleness * size + 10 * size)
