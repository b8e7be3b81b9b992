use Rattle.kcore_c.proofs.Opened.{may_boot}
use Rattle.kcore_c.proofs.session.opened.Goals as goal

pub new-requires : goal.new-requires
new-requires c = may_boot c.args.position c.args.text.now c.in_ok-config.config c.requires c.in_ok-config.ensures.exact c.frames-frames.ensures.kept
