-- Volumes from boot on are one run of one thread.
use Rattle.std.proofs.Common.{List, All, true, refl, ◌≡◌}
use Rattle.kc_types.specs.Configuration.{Configuration, IsConfiguration, has_dump}
use Rattle.kc_model.specs.Boot.{boot}
use Rattle.kc_model.specs.Next.{state_after}
use Rattle.kc_model.proofs.Lawful.AtBoot.{lawful-boot}
use Rattle.kc_model.proofs.Promises.{promises_kept}
use Rattle.kc_model.proofs.Blind.HostBlind.{shows_nothing, shows_nothing-boot}
use Rattle.kc_model.specs.Volumes.{IsDigest, TellsApart, Volume, AreReplayedFrom, all_calls, all_replies}
use Rattle.kc_state_text.specs.StateText.{state_text}
use Rattle.kc_state_text.specs.Runs.{IsOneRun}
use Rattle.kc_state_text.proofs.Chained.{chained}

pub one-run : TellsApart state_text → (config : Configuration) (volumes : List Volume) → has_dump config.version ≡ true → IsConfiguration config → All IsDigest config.approved → AreReplayedFrom state_text (state_text (boot config)) volumes → IsOneRun config volumes
one-run apart config volumes has is digests each =
    let lawful = lawful-boot config is in
    let both = chained state_text apart (boot config) (state_text (boot config)) volumes has (record { lawful = lawful; digests = digests }) refl each in
    record {
      replies = both.0;
      text = both.1;
      promises = promises_kept (boot config) (all_calls volumes) lawful;
      blind = shows_nothing-boot config (all_calls volumes) (all_replies volumes) (state_after (boot config) (all_calls volumes)) lawful
          (shows_nothing (boot config) (state_after (boot config) (all_calls volumes)) (all_calls volumes) (all_replies volumes) lawful both.0 refl);
    }
