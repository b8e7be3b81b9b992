use Rattle.kc_custody.proofs.Told.{custody-past}
use Rattle.kc_custody.proofs.look_ups.custody_at.Goals as goal

pub returns-in-None : goal.returns-in-None
returns-in-None c =
    rw c.untouched.ensures (custody-past c.args.core.now.state c.args.frame c.config-config.ensures.lawful (λ low. let some = c.page_record.ensures.exists.1 low in let none = c.in-None.is in rw none at some))
