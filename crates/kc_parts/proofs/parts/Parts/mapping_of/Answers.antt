use Rattle.kc_model.specs.State.{slot_at}
use Rattle.kc_parts.specs.States.{state_of}
use Rattle.kc_parts.proofs.Looked.{mapped-none}
use Rattle.kc_parts.proofs.parts.Parts.mapping_of.Goals as goal

pub returns-in-None : goal.returns-in-None
returns-in-None c = mapped-none (slot_at (state_of c.args.config.now c.args.self.now) c.args.vm) c.args.gfn c.in-None.ensures.value
