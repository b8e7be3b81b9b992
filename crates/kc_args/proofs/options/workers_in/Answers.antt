use Rattle.std.proofs.Common.{◌∙◌, ap, codes}
use Rattle.std.specs.Option.{option_map_or}
use Rattle.std.specs.Str.Parse.{ParsesUnsigned, ExplainsUnsignedError, HasUnsignedDigitsIfOk}
use Rattle.std.specs.Prelude.{Some, None}
use Rattle.clap.specs.Words.{found_of}
use Rattle.clap.proofs.WalkLemmas.{one_text-rows}
use Rattle.kc_args.specs.Options.{in_range, number_or_zero}
use Rattle.kc_args.proofs.Asking.{number_read}
use Rattle.kc_args.proofs.options.workers_in.Goals as goal

pub returns-in-Some : goal.returns-in-Some
returns-in-Some c =
    c.in_range.ensures
    ∙ number_read 8 in_range (λ text r. ParsesUnsigned 8 10 text r × ExplainsUnsignedError 10 text r × HasUnsignedDigitsIfOk text r) _ (Some c.in-Some.workers) (λ text r g. g.0) c.in-Some.ensures.none c.in-Some.ensures.value
    ∙ ap (λ said. option_map_or (λ text. in_range (number_or_zero 8 text)) said 1) (one_text-rows (found_of c.args.matches.now) (codes "workers"))

pub returns-in-None : goal.returns-in-None
returns-in-None c =
    number_read 8 in_range (λ text r. ParsesUnsigned 8 10 text r × ExplainsUnsignedError 10 text r × HasUnsignedDigitsIfOk text r) _ None (λ text r g. g.0) c.in-None.ensures.none c.in-None.ensures.value
    ∙ ap (λ said. option_map_or (λ text. in_range (number_or_zero 8 text)) said 1) (one_text-rows (found_of c.args.matches.now) (codes "workers"))
