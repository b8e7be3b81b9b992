-- What a command line asks for, and which command lines are refused.
use Rattle.std.specs.Prelude.{◌≡◌, ◌≢◌, ◌⊎◌, ℕ, List, [], map, codes, Option, Some, None, Ok, Err}
use Rattle.clap.specs.Words.{Text, Row, subcommand_of, fault_of, IsAmong}
use Rattle.clap.specs.declared.error.kind.ErrorKind.{ErrorKind}
use Rattle.clap.specs.declared.error.kind.ErrorKind.TheVariants.{DisplayHelp, DisplayVersion, OutOfMemory}
use Rattle.kc_args.specs.declared.options.Options.{Options}
use Rattle.kc_args.specs.declared.job.Job.{Job}
use Rattle.kc_args.specs.declared.job.Wanted.{Wanted}
use Rattle.kc_args.specs.declared.job.Wanted.TheVariants as wanted
use Rattle.kc_args.specs.declared.clash.Clash.{Clash}
use Rattle.kc_args.specs.declared.arguments.ArgFault.{ArgFault}
use Rattle.kc_args.specs.declared.arguments.ArgFault.TheVariants as faults
use Rattle.kc_args.specs.Commands.{kcore}
use Rattle.kc_args.specs.Options.{AreOptionsIn, HasInput, IsFlag, files_after}
use Rattle.kc_args.specs.Jobs.{action_of, plain_job}
use Rattle.kc_args.specs.Images.{IsMeasuringIn, IsImageClashIn}

-- what the subcommand of this name asks for, by the rows of its options
pub record IsJobIn (name : Text) (rows : List Row) (job : Job) : Type 0 where
  pub options : Options
  pub given : AreOptionsIn name rows options
  pub action : action_of options ≡ Ok job.action
  pub input : HasInput rows job.input
  pub explain : IsFlag (codes "explain") rows job.explain

-- what contradicts itself first in these options
pub record IsClashIn (name : Text) (rows : List Row) (clash : Clash) : Type 0 where
  pub options : Options
  pub given : AreOptionsIn name rows options
  pub clash_is : action_of options ≡ Err clash

-- the same of what is wanted; the files after a job's input are those that come after the first
abbrev pub IsWantedIn : Text → List Row → Wanted → Type 0
IsWantedIn name rows (wanted.Job request) = IsJobIn name rows request.job × (map (λ file. file.now) request.after.items ≡ files_after rows)
IsWantedIn name rows (wanted.Measure measuring) = (name ≡ codes "measure") × IsMeasuringIn rows measuring

-- what is wrong with the images of `measure`
abbrev pub IsImageRefusalIn : List Row → ArgFault → Type 0
IsImageRefusalIn rows faults.Memory = Unit {0}
IsImageRefusalIn rows (faults.Message text status) = ⊥
IsImageRefusalIn rows (faults.Clash clash) = IsImageClashIn rows clash

-- what is wrong with the options of the subcommand of this name
abbrev pub IsRefusalIn : Text → List Row → ArgFault → Type 0
IsRefusalIn name rows faults.Memory = Unit {0}
IsRefusalIn name rows (faults.Message text status) = ⊥
IsRefusalIn name rows (faults.Clash clash) = IsClashIn name rows clash ⊎ ((name ≡ codes "measure") × IsImageClashIn rows clash)

-- what no subcommand asks for: a job without files
abbrev pub IsPlain : Wanted → Type 0
IsPlain (wanted.Job request) = (request.job ≡ plain_job) × (map (λ file. file.now) request.after.items ≡ [])
IsPlain (wanted.Measure measuring) = ⊥

-- the same if there may be no subcommand: then standard input is replayed on one thread, and its replies are written
abbrev pub Asks : Option (Text × List Row) → Wanted → Type 0
Asks None asked = IsPlain asked
Asks (Some found) asked = IsWantedIn found.0 found.1 asked

abbrev pub Contradicts : Option (Text × List Row) → ArgFault → Type 0
Contradicts None fault = ⊥
Contradicts (Some found) fault = IsRefusalIn found.0 found.1 fault

-- clap's rules find no fault in the arguments, and what is wanted is what they ask for by the program's command
pub record IsRequest (arguments : List Text) (asked : Wanted) : Type 0 where
  pub faultless : fault_of kcore arguments ≡ []
  pub asks : Asks (subcommand_of kcore arguments) asked

-- 0 if the text was asked for, 2 for a wrong command line
abbrev pub exit_status : ErrorKind → ℕ
exit_status DisplayHelp = 0
exit_status DisplayVersion = 0
exit_status _ = 2

abbrev pub HasStatus : ErrorKind → ArgFault → Type 0
HasStatus kind faults.Memory = Unit {0}
HasStatus kind (faults.Message text status) = (kind ≢ OutOfMemory) × (status ≡ exit_status kind)
HasStatus kind (faults.Clash clash) = ⊥

-- a command line is refused for a fault that clap's rules find in it, with its status, or for options that contradict each other
abbrev pub IsRefusal : List Text → ArgFault → Type 0
IsRefusal arguments faults.Memory = Unit {0}
IsRefusal arguments (faults.Message text status) = (kind : ErrorKind) × IsAmong kind (fault_of kcore arguments) × (status ≡ exit_status kind)
IsRefusal arguments (faults.Clash clash) = (fault_of kcore arguments ≡ []) × Contradicts (subcommand_of kcore arguments) (faults.Clash clash)
