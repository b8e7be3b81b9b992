-- The final value of parts one of which is lent for writing.
use Rattle.std.specs.Prelude.{ℕ, List, slice_set, Option, Some}
use Rattle.std.specs.Borrow.{Lends, LendsIf, MutBor, Fml}
use Rattle.kc_types.specs.declared.link.Ends.{Ends}
use Rattle.kc_types.specs.contracts.link.Ends.{the_row as ends_row}
use Rattle.kc_page.specs.declared.page.Page.{Page}
use Rattle.kc_page.specs.contracts.page.Page.{the_row as page_row}
use Rattle.kc_vms.specs.Vm.{VmSlot}
use Rattle.kc_vms.specs.contracts.vm.Vm.{the_row as vm_row}
use Rattle.kc_parts.specs.Parts.{Held, HeldSlots, with_page, with_held_slot, with_vm}
use Rattle.kc_parts.specs.contracts.parts.Parts.{the_row}
use Rattle.kc_parts.specs.contracts.slots.VmSlots.{the_row as slots_row}
use Rattle.kc_parts.specs.contracts.chunk.Chunk.{the_row as chunk_row}
use Rattle.kc_parts.specs.contracts.page_list.PageList.{the_row as list_row}

-- the chunk ends with the page that the reference finally holds
abbrev pub LendsOfChunk : MutBor (List Page) → ℕ → Option (MutBor Page) → Fml
LendsOfChunk chunk at page = LendsIf chunk_row page_row chunk page (slice_set chunk.now at) chunk.now

-- the pages end with the page that the reference finally holds
abbrev pub LendsOfList : MutBor (List Page) → ℕ → Option (MutBor Page) → Fml
LendsOfList pages at page = LendsIf list_row page_row pages page (slice_set pages.now at) pages.now

-- the parts end with the page that the reference finally holds
abbrev pub LendsPage : MutBor Held → ℕ → Option (MutBor Page) → Fml
LendsPage parts f page = LendsIf the_row page_row parts page (with_page parts.now f) parts.now

-- the same for a page that is here
abbrev pub LendsPageHere : MutBor Held → ℕ → MutBor Page → Fml
LendsPageHere parts f page = Lends the_row page_row parts page (with_page parts.now f)

-- the slots end with the slot that the reference finally holds
abbrev pub LendsSlot : MutBor HeldSlots → ℕ → Option (MutBor VmSlot) → Fml
LendsSlot slots v vm = LendsIf slots_row vm_row slots vm (with_held_slot slots.now v) slots.now

-- the parts end with the slot that the reference finally holds
abbrev pub LendsVm : MutBor Held → ℕ → Option (MutBor VmSlot) → Fml
LendsVm parts v vm = LendsIf the_row vm_row parts vm (with_vm parts.now v) parts.now

-- the same for a slot that is here
abbrev pub LendsVmHere : MutBor Held → ℕ → MutBor VmSlot → Fml
LendsVmHere parts v vm = Lends the_row vm_row parts vm (with_vm parts.now v)

-- the parts end with the ends that the reference finally holds
abbrev pub LendsFree : MutBor Held → Option (MutBor Ends) → Fml
LendsFree parts ends = LendsIf the_row ends_row parts ends (λ ends. record parts.now { free = Some ends }) parts.now
