use Rattle.kc_core.proofs.dispatch.answer.Goals as goal

pub unwrap-requires : goal.unwrap-requires
unwrap-requires c = c.apply.ensures.fits c.requires.fits
