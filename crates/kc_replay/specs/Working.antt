-- What workers do with tasks.
use Rattle.std.specs.Prelude.{◌≡◌, ◌<◌, List, [], length}
use Rattle.std.specs.List.{AllZip}
use Rattle.kc_types.specs.Configuration.{Configuration}
use Rattle.kc_types.specs.declared.version.Version.TheVariants.{One}
use Rattle.kc_types.specs.declared.call.Call.{Call}
use Rattle.kc_model.specs.Footprints.{call_at}
use Rattle.kc_core.specs.Applying.{IsAble, IsAnswer}
use Rattle.kc_replay.specs.declared.task.Task.{Task}
use Rattle.kc_replay.specs.declared.task.Finished.{Finished}

-- the task is one of this configuration and trace: the call can be made on the parts
pub record IsTaskOf (config : Configuration) (calls : List Call) (task : Task) : Type 0 where
  pub within : task.number < length calls
  pub able : IsAble config task.parts (call_at calls task.number)

-- the reply to a task, and the parts that it leaves
pub record Finishes (config : Configuration) (calls : List Call) (task : Task) (done : Finished) : Type 0 where
  pub number : done.left.number ≡ task.number
  pub answer : IsAnswer config task.parts done.left.parts (call_at calls task.number) done.reply

abbrev pub AnswersAll : Configuration → List Call → List Task → List Finished → Type 0
AnswersAll config calls tasks done = AllZip (Finishes config calls) tasks done

-- a configuration for a setting that has none
abbrev pub no_config : Configuration
no_config = record { version = One; frames = 0; core = 0; host = 0; leaves = 0; approved = [] }
