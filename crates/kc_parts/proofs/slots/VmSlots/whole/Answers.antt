use Rattle.std.proofs.Common.{◌≡◌, length, rules}
use Rattle.kc_parts.proofs.Boots.{held-whole}
use Rattle.kc_parts.proofs.slots.VmSlots.whole.Goals as goal

pub invariant_of-result : goal.invariant_of-result
invariant_of-result c =
    let long : c.len.result ≡ length c.args.slots.items = search rules in
    rw (c.in_ok-all_numbers.ensures, long) (held-whole c.args.slots.items)
