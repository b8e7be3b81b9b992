use Rattle.std.proofs.Common.{refl}
use Rattle.kc_args.proofs.Asking.{several_named}
use Rattle.kc_args.proofs.options.has_several.Goals as goal

pub returns-in-Some : goal.returns-in-Some
returns-in-Some c = several_named _ c.in-Some.files.now _ c.in-Some.ensures refl
