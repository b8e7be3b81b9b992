use Rattle.std.proofs.Common.{refl, ap, sym, ◌∙◌, not}
use Rattle.kc_types.specs.declared.refusal.Refusal.TheVariants.{TablesFull}
use Rattle.kc_model.specs.Refusals.{when}
use Rattle.kc_vms.specs.Stage2.{Table, fits}
use Rattle.kc_parts.specs.States.{state_of}
use Rattle.kc_parts.proofs.Looked.{fits-seen}
use Rattle.kc_parts.proofs.parts.Parts.fits_in.Goals as goal

pub returns-in-Some : goal.returns-in-Some
returns-in-Some c =
    let slot = c.in-Some.slot.now in
    fits-seen (state_of c.args.config.now c.args.self.now) c.args.vm c.args.gfn slot _ c.in-Some.ensures.value (c.requires.linked.vms c.args.vm slot (c.in-Some.ensures.here slot refl))
    ∙ ap (λ fitting. when (not fitting) TablesFull) (sym (c.fits.ensures ∙ ap (λ (t : Table). fits t c.args.gfn) c.table.ensures))
