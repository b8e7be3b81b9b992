use Rattle.std.proofs.Common.{◌≡◌, rules}
use Rattle.kc_model.specs.Boot.{boot}
use Rattle.kc_model.specs.Next.{state_after}
use Rattle.kc_model.proofs.Blind.HostBlind.{shows_nothing-boot}
use Rattle.kc_replay.proofs.replayer.replay.Goals as goal

pub returns-clause-blind : goal.returns-clause-blind
returns-clause-blind g c =
    let left : c.in_ok-core.core.state ≡ state_after (boot c.args.config) c.args.calls.now = search rules in
    rw left (c.in_ok-replies.ensures.blind (boot c.args.config) (search rules))

pub returns-clause-blind_from_boot : goal.returns-clause-blind_from_boot
returns-clause-blind_from_boot g c =
    let left : c.in_ok-core.core.state ≡ state_after (boot c.args.config) c.args.calls.now = search rules in
    shows_nothing-boot _ _ _ _ c.in_ok-replayer.ensures.lawful (rw left (c.in_ok-replies.ensures.blind (boot c.args.config) (search rules)))

pub returns-clause-promises : goal.returns-clause-promises
returns-clause-promises g c = c.in_ok-replies.ensures.promises (boot c.args.config) (search rules)
