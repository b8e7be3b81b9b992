-- The program's command, in clap's terms.
use Rattle.std.specs.Prelude.{◌-◌, codes, pos, Some, true}
use Rattle.clap.specs.Words.{App, Rule, Text, new_app, new_rule, with_rule, with_subcommand}
use Rattle.clap.specs.Simple.{on_top}
use Rattle.clap.specs.declared.builder.action.ArgAction.TheVariants.{SetTrue, Append}
use Rattle.clap.specs.declared.builder.value_parser.ValueParser.TheVariants.{Signed}
use Rattle.kc_types.specs.Limits.{slot_limit, worker_limit}

-- an option that takes a path
abbrev pub path_rule : Text → Rule
path_rule name = record (new_rule name) { long = Some name; value_names = 1 }

-- a flag, which takes no value
abbrev pub flag_rule : Text → Rule
flag_rule name = record (new_rule name) { long = Some name; action = Some SetTrue }

-- a whole number from 1 to 64
abbrev pub workers_rule : Rule
workers_rule = record (new_rule (codes "workers")) { long = Some (codes "workers"); value_names = 1; parser = Some (Signed (pos 1) (pos worker_limit)) }

-- a whole number from 0 to 63
abbrev pub vm_rule : Rule
vm_rule = record (new_rule (codes "vm")) { long = Some (codes "vm"); value_names = 1; parser = Some (Signed (pos 0) (pos (slot_limit - 1))) }

-- the file that a subcommand reads in place of standard input: an argument without a name
abbrev pub file_rule : Rule
file_rule = record (new_rule (codes "file")) { value_names = 1 }

-- the files that a subcommand reads one after another, of which each is one more value
abbrev pub files_rule : Rule
files_rule = record (new_rule (codes "file")) { value_names = 1; action = Some Append }

-- the two options for what calls begin with
abbrev pub with_start : App → App
with_start app = with_rule (with_rule app (path_rule (codes "config"))) (path_rule (codes "from"))

-- the flags for what a replay writes
abbrev pub with_outputs : App → App
with_outputs app = with_rule (with_rule (with_rule (with_rule app (flag_rule (codes "lines"))) (flag_rule (codes "dump"))) (flag_rule (codes "state")))
    (flag_rule (codes "blank"))

-- the flags for the form in which custody is reported
abbrev pub with_forms : App → App
with_forms app = with_rule (with_rule (with_rule app (flag_rule (codes "summary"))) (flag_rule (codes "svg"))) (flag_rule (codes "html"))

-- the flags for what else is reported
abbrev pub with_contents : App → App
with_contents app = with_rule (with_rule (with_rule (with_rule app (flag_rule (codes "refused"))) (flag_rule (codes "accesses")))
    (flag_rule (codes "unseen"))) (flag_rule (codes "digests"))

-- the two arguments that each subcommand has: a flag, and the file, or the files, that it reads
abbrev pub ended : App → Rule → App
ended app file = with_rule (with_rule app (flag_rule (codes "explain"))) file

abbrev pub replay : App
replay = ended (with_outputs (with_rule (with_rule (with_start (new_app (codes "replay"))) (path_rule (codes "to"))) workers_rule)) files_rule

abbrev pub live : App
live = ended (with_rule (with_rule (new_app (codes "live")) (path_rule (codes "config"))) workers_rule) file_rule

abbrev pub custody : App
custody = ended (with_contents (with_forms (with_rule (with_start (new_app (codes "custody"))) vm_rule))) files_rule

abbrev pub audit : App
audit = ended (with_rule (new_app (codes "audit")) (flag_rule (codes "all"))) file_rule

abbrev pub redact : App
redact = ended (with_rule (with_start (new_app (codes "redact"))) (flag_rule (codes "host"))) file_rule

abbrev pub convert : App
convert = ended (with_rule (with_rule (new_app (codes "convert")) (path_rule (codes "config"))) (path_rule (codes "after"))) file_rule

abbrev pub measure : App
measure = ended (with_rule (new_app (codes "measure")) (flag_rule (codes "json"))) files_rule

-- the command with `replay` alone
abbrev pub base : App
base = with_subcommand (on_top (λ s. record s { no_binary_name = true; has_version = true }) (new_app (codes "kcore"))) replay.top

-- the command with `replay` and `live`
abbrev pub more : App
more = with_subcommand base live.top

-- the command with `replay`, `live` and `custody`
abbrev pub many : App
many = with_subcommand more custody.top

-- the command with `replay`, `live`, `custody` and `audit`
abbrev pub most : App
most = with_subcommand many audit.top

-- the command with all but `convert` and `measure`
abbrev pub nearly : App
nearly = with_subcommand most redact.top

-- the command with all but `measure`
abbrev pub almost : App
almost = with_subcommand nearly convert.top

abbrev pub kcore : App
kcore = with_subcommand almost measure.top
