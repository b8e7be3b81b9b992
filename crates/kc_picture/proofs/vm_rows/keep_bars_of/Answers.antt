use Rattle.std.proofs.Common.{rules}
use Rattle.std.proofs.lemmas.Fn.{filter_same}
use Rattle.kc_picture.specs.VmRows.{is_held_by}
use Rattle.kc_picture.proofs.vm_rows.keep_bars_of.Goals as goal

pub returns : goal.returns
returns c = filter_same _ (is_held_by c.args.vm) _ (λ x b f' k. search rules) _ _ c.retain.ensures.filtered
