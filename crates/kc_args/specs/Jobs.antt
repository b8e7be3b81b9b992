-- What options ask for, unless they contradict each other.
use Rattle.std.specs.Prelude.{ℕ, Bool, true, false, ◌&&◌, List, Option, Some, None, Result, Ok, Err}
use Rattle.std.specs.Borrow.{Bor}
use Rattle.kc_texts.specs.declared.order.Origin.{Origin}
use Rattle.kc_texts.specs.declared.order.Origin.TheVariants as origins
use Rattle.kc_remarks.specs.declared.remark.Remarks.{Remarks}
use Rattle.kc_texts.specs.declared.order.ReplayForm.{ReplayForm}
use Rattle.kc_texts.specs.declared.order.ReplayForm.TheVariants as replies
use Rattle.kc_texts.specs.declared.order.CustodyForm.{CustodyForm}
use Rattle.kc_texts.specs.declared.order.CustodyForm.TheVariants as forms
use Rattle.kc_texts.specs.declared.order.Named.{Named}
use Rattle.kc_texts.specs.declared.order.Named.TheVariants as names
use Rattle.kc_texts.specs.declared.order.Scope.{Scope}
use Rattle.kc_args.specs.declared.job.Start.{Start}
use Rattle.kc_args.specs.declared.job.Start.TheVariants as starts
use Rattle.kc_args.specs.declared.job.Action.{Action}
use Rattle.kc_args.specs.declared.job.Action.TheVariants as actions
use Rattle.kc_args.specs.declared.job.Job.{Job}
use Rattle.kc_args.specs.declared.options.Options.{Options}
use Rattle.kc_args.specs.declared.options.Options.TheVariants as options
use Rattle.kc_args.specs.declared.clash.Clash.{Clash}
use Rattle.kc_args.specs.declared.clash.Clash.TheVariants as clashes

-- a path, as a job holds it
abbrev pub Path : Type 0
Path = Bor (List ℕ)

-- where calls begin, by `--config` and `--from`; nothing for both
abbrev pub start_of : Option Path → Option Path → Option Start
start_of config None = Some (starts.Boot config)
start_of None (Some from) = Some (starts.State from)
start_of (Some config) (Some from) = None

-- what is written of a replay, by `--lines`, `--dump` and `--state`, which exclude each other
abbrev pub replay_form : Bool → Bool → Bool → Result ReplayForm Clash
replay_form false false false = Ok replies.Replies
replay_form true false false = Ok replies.Lines
replay_form false true false = Ok replies.Dump
replay_form false false true = Ok replies.State
replay_form lines true true = Err clashes.DumpState
replay_form true true false = Err clashes.LinesDump
replay_form true false true = Err clashes.LinesState

-- a summary and a picture have no remarks, by `--refused` and `--accesses`
abbrev pub summary_of : Bool → Bool → Result CustodyForm Clash
summary_of true accesses = Err clashes.SummaryRefused
summary_of false true = Err clashes.SummaryAccesses
summary_of false false = Ok forms.Summary

abbrev pub picture_of : Bool → Bool → Result CustodyForm Clash
picture_of true accesses = Err clashes.SvgRefused
picture_of false true = Err clashes.SvgAccesses
picture_of false false = Ok forms.Picture

-- what is written of custody, by `--summary`, `--svg` and `--html`, which exclude each other, and what else is asked for, which `--html` implies
abbrev pub custody_form : Bool → Bool → Bool → Remarks → Result CustodyForm Clash
custody_form false false false remarks = Ok (forms.Changes remarks)
custody_form false false true remarks = Ok forms.Html
custody_form true true html remarks = Err clashes.SummarySvg
custody_form true false true remarks = Err clashes.SummaryHtml
custody_form true false false remarks = summary_of remarks.refused remarks.accesses
custody_form false true true remarks = Err clashes.SvgHtml
custody_form false true false remarks = picture_of remarks.refused remarks.accesses

-- nothing that is asked for has a core's pages in it, which `--blank` zeroes
abbrev pub is_alone : Bool → ReplayForm → Option Path → Bool
is_alone true replies.Replies None = true
is_alone true replies.Lines None = true
is_alone blank form to = false

-- of several volumes only the lines can be written
abbrev pub volumes_action : ReplayForm → Option Path → Start → ℕ → Result Action Clash
volumes_action replies.Lines None start workers = Ok (actions.ReplayVolumes start workers)
volumes_action replies.Lines (Some to) start workers = Err clashes.ToVolumes
volumes_action replies.Replies to start workers = Err clashes.VolumesAlone
volumes_action replies.Dump to start workers = Err clashes.DumpVolumes
volumes_action replies.State to start workers = Err clashes.StateVolumes

abbrev pub several_action : Bool → ReplayForm → Start → Option Path → Bool → ℕ → Result Action Clash
several_action true form start to blank workers = volumes_action form to start workers
several_action false form start to blank workers = Ok (actions.Replay start to form blank workers)

abbrev pub blank_action : Bool → Result Action Clash → Result Action Clash
blank_action true action = Err clashes.BlankAlone
blank_action false action = action

abbrev pub replay_action : Result ReplayForm Clash → Option Start → Option Path → Bool → ℕ → Bool → Result Action Clash
replay_action (Err clash) start to blank workers several = Err clash
replay_action (Ok form) None to blank workers several = Err clashes.ReplayConfigFrom
replay_action (Ok form) (Some start) to blank workers several = blank_action (is_alone blank form to) (several_action several form start to blank workers)

-- which texts are named by their digests, by `--digests`: the default configuration has no text to be named
abbrev pub named_by : Bool → Start → Named
named_by false start = names.Nothing
named_by true (starts.Boot None) = names.Trace
named_by true start = names.Both

-- if the machine's accesses are not in the trace, none can be reported
abbrev pub scope_action : Bool → Start → CustodyForm → Scope → Result Action Clash
scope_action true start form scope = Err clashes.UnseenAccesses
scope_action false start form scope = Ok (actions.Custody start form scope)

abbrev pub form_action : Result CustodyForm Clash → Bool → Start → Scope → Result Action Clash
form_action (Err clash) accesses start scope = Err clash
form_action (Ok form) accesses start scope = scope_action (scope.is_unseen && accesses) start form scope

abbrev pub custody_action : Bool → Bool → Bool → Remarks → Bool → Bool → Option Start → Option ℕ → Result Action Clash
custody_action summary svg html remarks unseen digests None vm = Err clashes.CustodyConfigFrom
custody_action summary svg html remarks unseen digests (Some start) vm =
    form_action (custody_form summary svg html remarks) remarks.accesses start (record { vm = vm; is_unseen = unseen; named = named_by digests start })

-- the host's writes are blanked too by replaying the trace; otherwise no start may be named
abbrev pub redact_action : Bool → Start → Result Action Clash
redact_action true start = Ok (actions.RedactHost start)
redact_action false (starts.Boot None) = Ok actions.Redact
redact_action false (starts.Boot (Some config)) = Err clashes.ConfigAlone
redact_action false (starts.State path) = Err clashes.FromAlone

abbrev pub redact_from_action : Bool → Option Start → Result Action Clash
redact_from_action host None = Err clashes.RedactConfigFrom
redact_from_action host (Some start) = redact_action host start

-- which head a trace is given, by `--config` and `--after`: one of them is needed
abbrev pub convert_action : Option Path → Option Path → Result Action Clash
convert_action (Some config) None = Ok (actions.Convert config)
convert_action None (Some volume) = Ok (actions.ConvertAfter volume)
convert_action (Some config) (Some volume) = Err clashes.ConfigAfter
convert_action None None = Err clashes.ConvertAlone

-- what these options ask for, or what contradicts itself in them first
abbrev pub action_of : Options → Result Action Clash
action_of (options.Replay config from to workers lines dump state blank several) =
    replay_action (replay_form lines dump state) (start_of config from) to blank workers several
action_of (options.Live config workers) = Ok (actions.Live config workers)
action_of (options.Custody config from vm summary svg html refused accesses unseen digests) =
    custody_action summary svg html (record { refused = refused; accesses = accesses }) unseen digests (start_of config from) vm
action_of (options.Audit all) = Ok (actions.Audit all)
action_of (options.Redact config from host) = redact_from_action host (start_of config from)
action_of (options.Convert config after) = convert_action config after

-- what no subcommand asks for: to replay standard input on one thread and write the replies
abbrev pub plain_job : Job
plain_job = record { input = None; action = actions.Replay (starts.Boot None) None replies.Replies false 1; explain = false }

-- the file that holds what calls begin with, if one is named
abbrev pub path_of : Start → Option Path
path_of (starts.Boot config) = config
path_of (starts.State path) = Some path

-- what that file holds
abbrev pub origin_at : Start → Origin
origin_at (starts.Boot config) = origins.Boot
origin_at (starts.State path) = origins.State
