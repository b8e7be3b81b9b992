-- Commands without arguments for all subcommands.
use Rattle.std.proofs.Common.{◌≡◌, false, ◌||◌, ap₂, ◌∙◌}
use Rattle.clap.specs.Words.{AddsArg}
use Rattle.clap.specs.declared.builder.command.Command.{Command}
use Rattle.clap.specs.declared.builder.command.Command.TheViews.{out-Command as fields_of}
use Rattle.clap.specs.declared.builder.arg.Arg.{Arg}

-- one more argument that is a command's own
pub stays_local : (old new : Command) (arg : Arg) → AddsArg old arg new → (fields_of old).has_globals ≡ false → arg.global ≡ false → (fields_of new).has_globals ≡ false
stays_local old new arg added before own = added.globals ∙ ap₂ ◌||◌ before own
