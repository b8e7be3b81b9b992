use Rattle.kc_live.proofs.Logs.{buffer_fits}
use Rattle.kc_live.proofs.ready.Ready.make.Goals as goal

pub share-reply-requires : goal.share-reply-requires
share-reply-requires c = buffer_fits _ _ _ _ c.answer-reply.ensures.reply c.self.invariant.copy_fits
