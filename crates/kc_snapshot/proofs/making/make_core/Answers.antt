use Rattle.std.proofs.Common.{◌≡◌, List, length, ap, subst, ◌∙◌, arith}
use Rattle.std.proofs.lemmas.List.FromFn.{length-map-range_with_len}
use Rattle.kc_dump.specs.Dump.{Dumped}
use Rattle.kc_core.specs.KCore.{SeenCore}
use Rattle.kc_snapshot.specs.Told.{Told, told_of}
use Rattle.kc_snapshot.specs.Making.{AreVmsTold}
use Rattle.kc_snapshot.proofs.Assembled.{core-assembled, told-assembled}
use Rattle.kc_snapshot.proofs.Shares.{few_shares}
use Rattle.kc_snapshot.proofs.making.make_core.Goals as goal

pub make_pages-pages-requires-clause-shares : goal.make_pages-pages-requires-clause-shares
make_pages-pages-requires-clause-shares c f here = rw c.frames.ensures.value (few_shares _ c.frames.ensures.kept f (rw c.frames.ensures.value at here))

pub whole-requires-clause-frames : goal.whole-requires-clause-frames
whole-requires-clause-frames c =
    let long = ap length c.make_pages-pages.ensures ∙ length-map-range_with_len _ 0 _ in
    omega (arith, long, ap length c.frames.ensures.value, c.frames.ensures.few)

pub from_parts-requires : goal.from_parts-requires
from_parts-requires c =
    let told = c.told.view_is in
    let vms = c.in_ok-vms.vms.items in
    let count = c.in_ok-vms.ensures.count ∙ ap (λ (t : Told). length t.dump.slots) told in
    let each = subst (λ (t : Told). AreVmsTold t.dump t.rest.slots vms (length t.dump.slots)) told (rw c.as_slice.ensures.value at c.in_ok-vms.ensures.each) in
    let dump = c.into_parts-pages.ensures.dump in
    core-assembled c.args.told c.requires.sized c.requires.judged vms count each c.args.config c.frames.result.now _ _ c.free.result.now c.in_ok-parts.parts
    c.requires.config (c.frames.ensures.value ∙ ap (λ (d : Dumped). d.frames) dump) c.into_parts-pages.ensures.pages c.make_pages-pages.ensures (c.free.ensures ∙ ap (λ (d : Dumped). d.free) dump) c.in_ok-parts.ensures

pub returns : goal.returns
returns c =
    let told = c.told.view_is in
    let vms = c.in_ok-vms.vms.items in
    let count = c.in_ok-vms.ensures.count ∙ ap (λ (t : Told). length t.dump.slots) told in
    let each = subst (λ (t : Told). AreVmsTold t.dump t.rest.slots vms (length t.dump.slots)) told (rw c.as_slice.ensures.value at c.in_ok-vms.ensures.each) in
    let dump = c.into_parts-pages.ensures.dump in
    ap (λ (core : SeenCore). told_of core.state) c.from_parts.ensures
    ∙ told-assembled c.args.told c.requires.sized c.requires.judged vms count each c.args.config c.frames.result.now _ _ c.free.result.now c.in_ok-parts.parts
    c.requires.config (c.frames.ensures.value ∙ ap (λ (d : Dumped). d.frames) dump) c.into_parts-pages.ensures.pages c.make_pages-pages.ensures (c.free.ensures ∙ ap (λ (d : Dumped). d.free) dump) c.in_ok-parts.ensures
