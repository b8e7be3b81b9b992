use Rattle.std.proofs.Common.{sym, ap, ◌∙◌}
use Rattle.kc_parts.specs.Parts.{links_of}
use Rattle.kc_parts.specs.States.{slot_in}
use Rattle.kc_parts.proofs.Seen.{slot-seen}
use Rattle.kc_parts.proofs.parts.Parts.slot_of.Goals as goal

pub returns-clause-value : goal.returns-clause-value
returns-clause-value c = slot-seen c.args.config.now c.args.self.now c.args.vm c.requires ∙ ap (slot_in (links_of c.args.self.now)) (sym c.try_slot.ensures)
