-- The final value of a slot whose list or table is lent for writing.
use Rattle.std.specs.Borrow.{Lends, MutBor, Fml}
use Rattle.kc_types.specs.declared.link.Ends.{Ends}
use Rattle.kc_types.specs.contracts.link.Ends.{the_row as ends_row}
use Rattle.kc_vms.specs.Stage2.{Table}
use Rattle.kc_vms.specs.contracts.table.Stage2.{the_row as table_row}
use Rattle.kc_vms.specs.Vm.{VmSlot, with_table}
use Rattle.kc_vms.specs.contracts.vm.Vm.{the_row}

-- the slot ends with the ends of the list that the reference finally holds
abbrev pub LendsList : MutBor VmSlot → MutBor Ends → Fml
LendsList vm list = Lends the_row ends_row vm list (λ ends. record vm.now { slot = record vm.now.slot { frames = ends } })

-- the slot ends with the table that the reference finally holds
abbrev pub LendsTable : MutBor VmSlot → MutBor Table → Fml
LendsTable vm table = Lends the_row table_row vm table (with_table vm.now)
