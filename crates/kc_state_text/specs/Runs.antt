-- A life from boot on, in volumes.
use Rattle.std.specs.Prelude.{◌≡◌, List}
use Rattle.kc_types.specs.Configuration.{Configuration}
use Rattle.kc_model.specs.Boot.{boot}
use Rattle.kc_model.specs.Next.{replies_from, state_after}
use Rattle.kc_model.specs.Promises.{KeepsPromises}
use Rattle.kc_model.specs.Blind.{ShowsNothingFromBoot}
use Rattle.kc_model.specs.Volumes.{Volume, all_calls, all_replies, last_text}
use Rattle.kc_state_text.specs.StateText.{state_text}

-- the replies joined are those of one thread from boot over all calls joined, the last text is that of the state that
-- it leaves, and all that is true of every trace from boot is true of the whole
pub record IsOneRun (config : Configuration) (volumes : List Volume) : Type 0 where
  pub replies : all_replies volumes ≡ replies_from (boot config) (all_calls volumes)
  pub text : last_text (state_text (boot config)) volumes ≡ state_text (state_after (boot config) (all_calls volumes))
  pub promises : KeepsPromises (boot config) (all_calls volumes)
  -- the host is shown nothing of what is secret
  pub blind : ShowsNothingFromBoot config (all_calls volumes) (all_replies volumes) (state_after (boot config) (all_calls volumes))
