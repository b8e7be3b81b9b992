-- Zeroing the pages of VMs whose slots are marked.
use Rattle.std.specs.Prelude.{Bool, false, List, slice_index_or, if◌then◌else◌}
use Rattle.kc_types.specs.declared.owner.Owner.{Owner}
use Rattle.kc_types.specs.declared.owner.Owner.TheVariants.{Vm}
use Rattle.kc_page.specs.declared.page.Page.{Page}
use Rattle.kc_page.specs.PageBytes.{zeroed}

-- the owner is a VM whose slot has a mark
abbrev pub is_marked : List Bool → Owner → Bool
is_marked marks (Vm v) = slice_index_or marks v false
is_marked marks _ = false

-- the page, with zero bytes if such a VM owns it
abbrev pub scrubbed_if_marked : List Bool → Page → Page
scrubbed_if_marked marks page = record page { bytes = if is_marked marks page.meta.owner then zeroed page.bytes else page.bytes }
