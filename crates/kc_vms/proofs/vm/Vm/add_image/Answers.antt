use Rattle.std.proofs.Common.{◌<◌, length, arith, sym, ◌∙◌}
use Rattle.std.proofs.lemmas.Grind.{common_steps}
use Rattle.kc_types.specs.Configuration.{most_images}
use Rattle.kc_vms.proofs.Kept.{slot-with_image, booting-used}
use Rattle.kc_vms.proofs.vm.Vm.add_image.Goals as goal

pub invariant_of-self : goal.invariant_of-self
invariant_of-self c =
    let used = rw (← c.self.view_is) at (booting-used c.args.self.now.slot c.in_ok-expect_booting.ensures) in
    let few : length c.self.inside.images.items < most_images c.self.inside.version = grind (arith, common_steps, c.len.ensures.value, c.if-len-most_images.false, c.most_images.ensures.value) in
    let small = rw (← c.self.view_is) at c.requires.small in
    let within = rw (← c.self.view_is) at c.requires.within in
    let none = rw c.as_slice.ensures.value at (sym c.overlaps_any.ensures ∙ c.if-overlaps_any.false) in
    rw c.push.ensures.items (slot-with_image c.self.inside.version c.self.inside.phase c.self.inside.vcpus.items c.self.inside.images.items c.args.base c.args.len
    c.self.invariant used few c.requires.some small within none)
